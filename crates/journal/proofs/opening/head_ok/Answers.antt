-- `head_ok` tests the six head bytes.
-- Assumes nothing.
use borrow.Author.Tests.{lt-leb, le-leb}
use Rattle.rules.specs.Journal.{head_ok}
use Rattle.journal.proofs.opening.head_ok.Goals as goal

pub returns-then-bytes-lt6 : goal.returns-then-bytes-lt6
unfolding head_ok
returns-then-bytes-lt6 c = rw (lt-leb _ _ c.if-bytes-lt6.true)

pub returns : goal.returns
unfolding head_ok
returns c = rw (le-leb _ _ c.if-bytes-lt6.false, c.marked.ensures)
