-- `has_clear` meets its contract.
-- Assumes nothing.
use Rattle.pages.proofs.Masked.{under_none, under_next}
use Rattle.pages.proofs.has_clear.Goals as goal

pub loop-i-init : goal.loop-i-init
loop-i-init c = λ e. under_none c.args.mask.now c.args.block.now

pub loop-i-preserved : goal.loop-i-preserved
loop-i-preserved c =
    under_next c.args.mask.now c.args.block.now c.loop-i.i c.lowest_of.result c.loop-i.any c.requires c.lowest_of.ensures c.loop-i.invariant
