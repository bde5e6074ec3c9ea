-- `put_note` meets its contract: six puts, each right behind the one before.
-- Assumes nothing.
use Rattle.notes.proofs.Placing.{six_puts}
use Rattle.notes.proofs.writer.put_note.Goals as goal

pub returns : goal.returns
returns c = six_puts _ _ _ _ _ _ _ c.args.text.now c.args.«data».now _ _ _ _ c.requires
    c.put_number.ensures c.put_number-2.ensures c.put_number-3.ensures c.put_number-4.ensures
    c.put_bytes.ensures c.put_bytes-2.ensures
