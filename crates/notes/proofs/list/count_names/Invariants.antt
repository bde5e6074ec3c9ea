-- `count_names`: the strings passed are names, and the list is good if the rest of it is.
-- Assumes nothing.
use Rattle.std.proofs.Common.{length}
use Rattle.notes.proofs.Counts.{Counted}
use Rattle.notes.proofs.list.count_names.Given as goal

abbrev pub invariant-loop-word : goal.invariant-loop-word
invariant-loop-word l = Counted l.list l.left l.n

abbrev pub decreases-loop-word : goal.decreases-loop-word
decreases-loop-word l = length l.left
