-- `spire_write_note` tells what `write_note` did.
-- Assumes nothing.
use Rattle.spirerivet.proofs.Told.{told_written_lem}
use borrow.Author.Rules.{rules}
use Rattle.spirerivet.proofs.spire_write_note.Goals as goal

pub returns : goal.returns
returns c = told_written_lem c.from.ensures c.write_note.ensures
