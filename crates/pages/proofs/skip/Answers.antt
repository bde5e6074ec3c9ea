-- `skip` meets its contract.
-- Assumes nothing.
use mathlib.Core.Path.{◌≡◌, sym, ◌∙◌}
use mathlib.Core.Bool.{false}
use native.Mathlib.Nat.{add-sub_cancel_left}
use native.Mathlib.Omega.{arith}
use borrow.Author.Rules.{rules}
use lib.ListN.{take, drop}
use Rattle.pages.specs.FirstZero.{has_zero}
use Rattle.pages.proofs.FirstZero.{block_past}
use Rattle.pages.proofs.skip.Goals as goal

pub loop-i-preserved : goal.loop-i-preserved
loop-i-preserved c = let e : has_zero (take c.args.block (drop c.loop-i.i c.args.part.now)) ≡ false =
    rw (add-sub_cancel_left c.loop-i.i c.args.block) at (sym c.has_zero-any.ensures ∙ c.if-any.false) in
    (search rules, c.loop-i.invariant.1 ∙ block_past c.args.part.now c.loop-i.i c.args.block (omega arith) e)
