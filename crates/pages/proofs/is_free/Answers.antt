-- `is_free` meets its contract.
-- Assumes nothing.
use Rattle.pages.proofs.Colours.{free_read, free_past}
use Rattle.pages.proofs.is_free.Goals as goal

pub returns-then-at-part : goal.returns-then-at-part
returns-then-at-part c = free_read c.args.part.now c.args.at c.if-at-part.true

pub returns : goal.returns
returns c = free_past c.args.part.now c.args.at c.if-at-part.false
