-- `unpack` gives the sixteen places of two words.
-- Assumes nothing.
use Rattle.records.proofs.Shifts.{word_bytes}
use Rattle.records.proofs.words.unpack.Goals as goal

pub returns : goal.returns
returns c = rw (
  c.copy_from_slice.ensures.after,
  c.copy_from_slice-2.ensures.after,
  c.to_le_bytes.ensures,
  c.to_le_bytes-2.ensures,
  ← word_bytes c.args.low,
  ← word_bytes c.args.high,
)
