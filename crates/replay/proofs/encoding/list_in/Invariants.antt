-- `list_in` meets its contract. The loop: the first i bytes are written.
-- Assumes nothing.
use mathlib.Core.Path.{◌≡◌}
use lib.Seq.{paste}
use Rattle.replay.proofs.Words.{bytes_in}
use Rattle.replay.proofs.encoding.list_in.Given as goal

abbrev pub invariant-loop-i : goal.invariant-loop-i
invariant-loop-i l = l.list ≡ paste l.initial.list 0 (bytes_in l.call) l.i
