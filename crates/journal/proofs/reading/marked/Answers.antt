-- `marked` tests the two bytes of the mark.
-- Assumes nothing.
use mathlib.Core.Path.{refl}
use Rattle.rules.specs.Journal.{marked}
use Rattle.journal.proofs.reading.marked.Goals as goal

pub returns : goal.returns
unfolding marked
returns c = refl
