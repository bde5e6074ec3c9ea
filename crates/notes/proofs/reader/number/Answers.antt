-- `number` puts four bytes together.
-- Assumes nothing.
use Rattle.std.proofs.Common.{◌∙◌}
use Rattle.notes.proofs.Notes.{number_four}
use Rattle.notes.proofs.reader.number.Goals as goal

pub returns : goal.returns
returns c = record {
  number = c.from_le_bytes.ensures ∙ number_four _ _ c.requires;
  small = c.from_le_bytes.type_inv;
}
