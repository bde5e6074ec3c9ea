-- `first_coloured` meets its contract. The loop's invariant: the index is of the colour, and no free page of the colour is passed.
-- Assumes nothing.
use Prim.Native.Nat.{◌-◌, ◌%◌}
use mathlib.Core.Path.{◌≡◌}
use lib.ListN.{length}
use Rattle.pages.specs.Colours.{free_of}
use Rattle.pages.proofs.first_coloured.Given as goal

abbrev pub invariant-loop-at : goal.invariant-loop-at
invariant-loop-at l = (l.at % 4 ≡ l.colour) × (free_of l.colour l.from l.part ≡ free_of l.colour l.at l.part)

abbrev pub decreases-loop-at : goal.decreases-loop-at
decreases-loop-at l = length l.part - l.at
