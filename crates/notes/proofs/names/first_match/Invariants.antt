-- `first_match`: no name passed is the one looked for.
-- Assumes nothing.
use Rattle.std.proofs.Common.{length}
use Rattle.notes.proofs.Tables.{Looked}
use Rattle.notes.proofs.names.first_match.Given as goal

abbrev pub invariant-loop-name : goal.invariant-loop-name
invariant-loop-name l = Looked l.table l.left l.word l.n

abbrev pub decreases-loop-name : goal.decreases-loop-name
decreases-loop-name l = length l.left
