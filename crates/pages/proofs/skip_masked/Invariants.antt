-- `skip_masked` meets its contract.
-- Assumes nothing.
use Prim.Native.Nat.{ℕ, ◌-◌, ◌%◌, ◌≤◌}
use mathlib.Core.Path.{◌≡◌}
use lib.ListN.{length}
use Rattle.pages.specs.Colours.{Clears, free_of}
use Rattle.pages.proofs.skip_masked.Given as goal

abbrev pub invariant-loop-start : goal.invariant-loop-start
invariant-loop-start l = (l.start ≤ length l.part) × (l.start % 4 ≡ 0) × ((c : ℕ) → Clears c l.mask → free_of c l.from l.part ≡ free_of c l.start l.part)

abbrev pub decreases-loop-start : goal.decreases-loop-start
decreases-loop-start l = length l.part - l.start
