-- `spire_note_places` tells what `note_places` did.
-- Assumes nothing.
use Rattle.spirerivet.proofs.Told.{told_written_lem}
use borrow.Author.Rules.{rules}
use Rattle.spirerivet.proofs.spire_note_places.Goals as goal

pub returns : goal.returns
returns c = told_written_lem c.from.ensures c.note_places.ensures
