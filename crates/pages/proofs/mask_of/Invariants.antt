-- `mask_of` meets its contract. The loop's invariant: the bytes passed are 0 at the colour.
-- Assumes nothing.
use Prim.Native.Nat.{ℕ, ◌%◌, ◌<◌}
use mathlib.Core.Path.{◌≡◌}
use lib.ListN.{get_or}
use Rattle.pages.proofs.mask_of.Given as goal

abbrev pub invariant-loop-i : goal.invariant-loop-i
invariant-loop-i l = (k : ℕ) → k < l.i → k % 4 ≡ l.colour → get_or l.byte-items k 0 ≡ 0
