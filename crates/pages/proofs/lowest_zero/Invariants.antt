-- `lowest_zero` meets its contract. The loop's invariant: the lower of what was found and what is still to come is the answer.
-- Assumes nothing.
use Prim.Native.Nat.{◌+◌, ◌≤◌, min}
use mathlib.Core.Path.{◌≡◌}
use lib.ListN.{length, drop}
use Rattle.pages.specs.FirstZero.{zero_or_end}
use Rattle.pages.proofs.lowest_zero.Given as goal

abbrev pub invariant-loop-i : goal.invariant-loop-i
invariant-loop-i l = (l.len ≡ length l.block) × (l.lowest ≤ l.len) × (min l.lowest (l.i + zero_or_end (drop l.i l.block)) ≡ zero_or_end l.block)
