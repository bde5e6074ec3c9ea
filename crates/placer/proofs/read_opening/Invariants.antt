-- No machine record is longer than the buffer.
use Rattle.std.proofs.Common.{◌≤◌}
use Rattle.placer.proofs.read_opening.Given as goal

abbrev pub invariant-loop : goal.invariant-loop
invariant-loop g l = record { read : l.done ≤ l.size; size : l.size ≤ 358 }
