-- `has_clear` meets its contract.
-- Assumes nothing.
use mathlib.Core.Path.{◌≡◌}
use mathlib.Core.Bool.{false}
use Rattle.pages.specs.Colours.{HeldUnder}
use Rattle.pages.proofs.has_clear.Given as goal

abbrev pub invariant-loop-i : goal.invariant-loop-i
invariant-loop-i l = l.any ≡ false → HeldUnder l.mask l.i l.block
