-- `turn_list` meets its contract: the line's places are copied, if they fit.
-- Assumes nothing.
use native.Mathlib.Omega.{arith}
use Rattle.std.proofs.Common.{◌∙◌}
use Rattle.notes.proofs.Writes.{too_short, written_copy}
use Rattle.notes.proofs.places.turn_list.Goals as goal

pub returns-then-out-len : goal.returns-then-out-len
returns-then-out-len c = too_short _ _ (omega (arith, c.if-out-len.true, c.put_places-len.ensures.len))

pub returns : goal.returns
returns c = written_copy _ _ c.put_places-len.ensures.len c.if-out-len.false (c.copy_from_slice.ensures.after ∙ c.put_places-len.ensures.places)
