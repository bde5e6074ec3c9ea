-- `spire_journal` tells what `journal` did.
-- Assumes nothing.
use Rattle.spirerivet.proofs.Told.{told_written_lem}
use borrow.Author.Rules.{rules}
use Rattle.spirerivet.proofs.spire_journal.Goals as goal

pub returns : goal.returns
returns c = told_written_lem c.from.ensures c.journal.ensures
