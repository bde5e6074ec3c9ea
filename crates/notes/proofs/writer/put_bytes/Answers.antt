-- `put_bytes` copies to a place of the output.
-- Assumes nothing.
use Rattle.notes.proofs.Placing.{copied}
use Rattle.notes.proofs.writer.put_bytes.Goals as goal

pub returns : goal.returns
returns c = copied _ _ _ _ c.requires c.copy_from_slice.ensures.after
