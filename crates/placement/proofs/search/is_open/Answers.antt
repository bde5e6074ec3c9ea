-- `search::is_open` meets its contract: a node that the machine has not is not open.
-- Assumes nothing.
use borrow.Author.Tests.{lt-ltb}
use Rattle.rules.specs.SearchOrder.{counted}
use Rattle.placement.proofs.search.is_open.Goals as goal

pub returns-then-n-free : goal.returns-then-n-free
unfolding counted
returns-then-n-free c = rw (lt-ltb _ _ c.if-n-free.true, c.has.ensures)
