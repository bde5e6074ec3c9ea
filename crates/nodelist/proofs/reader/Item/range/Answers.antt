-- `Item::range` meets its contract, by its test.
-- Assumes nothing.
use borrow.Author.Tests.{lt-ltb, le-ltb}
use Rattle.nodelist.specs.Reader.{range_below}
use Rattle.nodelist.proofs.reader.Item.range.Goals as goal

pub returns-then-value-limit : goal.returns-then-value-limit
unfolding range_below
returns-then-value-limit c = rw (lt-ltb _ _ c.if-value-limit.true)

pub returns : goal.returns
unfolding range_below
returns c = rw (le-ltb _ _ c.if-value-limit.false)
