-- `ready` asks for a whole record, and at the end of input for any byte.
-- Assumes nothing.
use Rattle.journal.proofs.Parts.{empty_length}
use Rattle.journal.proofs.run.ready.Goals as goal

pub returns : goal.returns
returns c = rw (c.whole.ensures.tells, empty_length)
