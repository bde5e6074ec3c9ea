-- `skip_masked` meets its contract.
-- Assumes nothing.
use mathlib.Core.Path.{◌∙◌}
use native.Mathlib.Nat.{add-sub_cancel_left}
use native.Mathlib.Omega.{arith}
use borrow.Author.Rules.{rules}
use lib.ListN.{take, drop}
use Rattle.pages.specs.Colours.{HeldUnder}
use Rattle.pages.proofs.Masked.{held_past}
use Rattle.pages.proofs.skip_masked.Goals as goal

pub loop-start-preserved : goal.loop-start-preserved
loop-start-preserved c = let e : HeldUnder c.args.mask.now 16 (take 128 (drop c.loop-start.start c.args.part.now)) =
    rw (add-sub_cancel_left c.loop-start.start 128) at (c.has_clear-any.ensures c.if-any.false) in (
      search rules,
      omega (arith, c.loop-start.invariant.1),
      λ k r. c.loop-start.invariant.2 k r ∙ held_past k c.args.part.now c.args.mask.now c.loop-start.start 128 r c.loop-start.invariant.1 (omega arith) e,
    )
