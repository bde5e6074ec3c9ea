-- `strings_from`: what is left of the bytes once a number of strings is passed.
-- Assumes nothing.
use Rattle.std.proofs.Common.{◌-◌}
use Rattle.notes.proofs.Starts.{Passed}
use Rattle.notes.proofs.list.strings_from.Given as goal

abbrev pub invariant-loop-passed : goal.invariant-loop-passed
invariant-loop-passed l = Passed l.bytes l.left l.k (l.k - l._passed)
