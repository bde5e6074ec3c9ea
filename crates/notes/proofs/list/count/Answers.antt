-- `count` meets its contract: a good list is short.
-- Assumes nothing.
use Rattle.std.proofs.Common.{arith}
use Rattle.notes.proofs.GoodLists.{list_long}
use Rattle.notes.proofs.list.count.Goals as goal

pub returns-then-list : goal.returns-then-list
returns-then-list c = list_long _ (omega (arith, c.if-list.true))
