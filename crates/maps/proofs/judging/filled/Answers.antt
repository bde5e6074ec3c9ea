-- `filled` copies a list's entries and leaves FF after them.
-- Assumes nothing.
use mathlib.Core.Path.{refl}
use Rattle.maps.proofs.judging.filled.Goals as goal

pub returns : goal.returns
returns c = c.copy_first.ensures 64 255 refl
