-- `lowest_of` meets its contract. The loop's invariant: what was found is at most each byte passed.
-- Assumes nothing.
use Prim.Native.Nat.{ℕ, ◌*◌, ◌%◌, ◌≤◌, ◌<◌}
use mathlib.Core.Path.{◌≡◌}
use lib.ListN.{get_or}
use Rattle.pages.proofs.lowest_of.Given as goal

abbrev pub invariant-loop-k : goal.invariant-loop-k
invariant-loop-k l = (j : ℕ) → j < 16 * l.k → j % 16 ≡ l.i → l.lowest ≤ get_or l.block j 0
