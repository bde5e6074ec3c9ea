-- `size_of` gives the size of each kind.
-- Assumes nothing.
use mathlib.Core.Path.{refl}
use Rattle.rules.specs.Journal.{size_of}
use Rattle.journal.proofs.record.size_of.Goals as goal

pub returns : goal.returns
unfolding size_of
returns c = refl
