-- `first_free` meets its contract. The loop's invariant: no page that is passed is free.
-- Assumes nothing.
use Rattle.std.proofs.Common.{◌≡◌, ◌-◌, ◌≤◌, drop, length}
use Rattle.pages.specs.FirstZero.{shift, first_zero}
use Rattle.pages.proofs.first_free.Given as goal

abbrev pub invariant-loop-i : goal.invariant-loop-i
invariant-loop-i l = (l.i ≤ length l.part) × (shift l.from (first_zero (drop l.from l.part)) ≡ shift l.i (first_zero (drop l.i l.part)))

abbrev pub decreases-loop-i : goal.decreases-loop-i
decreases-loop-i l = length l.part - l.i
