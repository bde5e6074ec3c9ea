-- `first_coloured` meets its contract. The loop's invariant: the index is of the colour, and no free page of the colour is passed.
-- Assumes nothing.
use Prim.Native.Nat.{◌+◌, ◌%◌}
use mathlib.Core.Path.{◌≡◌, sym, ap, ◌∙◌}
use native.Mathlib.Omega.{arith}
use Rattle.rules.specs.Basics.{first}
use Rattle.pages.proofs.Colours.{of_next, of_stride, of_here, of_end}
use Rattle.pages.proofs.first_coloured.Goals as goal

pub loop-at-init : goal.loop-at-init
loop-at-init c = let e = c.skip_masked-start.ensures in
    let q : (c.skip_masked-start.result + c.args.colour) % 4 ≡ c.args.colour = omega (arith, e.within.1, c.requires.2) in
    let next = of_next c.args.colour c.args.part.now c.skip_masked-start.result (c.skip_masked-start.result + c.args.colour) (omega arith)
    (omega (arith, c.requires.2)) q in
    (q, e.same c.args.colour c.mask_of-mask.ensures ∙ next)

pub returns-then-part-at-eq0 : goal.returns-then-part-at-eq0
returns-then-part-at-eq0 c = sym (ap first c.loop-at.invariant.1 ∙ of_here c.args.colour c.args.part.now c.loop-at.at c.loop-at-test.true
    c.loop-at.invariant.0 c.if-part-at-eq0.true)

pub loop-at-preserved : goal.loop-at-preserved
loop-at-preserved c = (
  omega (arith, c.loop-at.invariant.0),
  c.loop-at.invariant.1 ∙ of_stride c.args.colour c.args.part.now c.loop-at.at c.loop-at.invariant.0 c.if-part-at-eq0.false,
)

pub returns : goal.returns
unfolding first
returns c = sym (ap first (c.loop-at.invariant.1 ∙ of_end c.args.colour c.args.part.now c.loop-at.at c.loop-at-test.false))
