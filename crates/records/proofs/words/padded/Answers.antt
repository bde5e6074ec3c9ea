-- `padded` copies places and leaves zeros after them.
-- Assumes nothing.
use mathlib.Core.Path.{refl}
use Rattle.records.proofs.words.padded.Goals as goal

pub returns : goal.returns
returns c = c.copy_first.ensures 16 0 refl
