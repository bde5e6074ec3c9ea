-- `put_reasons` meets its contract. The loop: the reasons of the nodes before this one stand at the start of the output.
-- Assumes nothing.
use mathlib.Core.Path.{◌≡◌}
use mathlib.Core.List.{◌++◌, map}
use lib.ListN.{length, drop}
use Rattle.rules.specs.Basics.{from}
use Rattle.placement.specs.Searches.{chosen_by}
use Rattle.reasons.specs.Reasons.{reason_at}
use Rattle.reasons.proofs.reason.put_reasons.Given as goal

abbrev pub invariant-loop-i : goal.invariant-loop-i
invariant-loop-i l = (length l.out ≡ length l.initial.out)
    × (l.out ≡ map (reason_at l.free l.limit.0 l.reach (chosen_by l.chosen)) (from 0 l.i) ++ drop l.i l.initial.out)
