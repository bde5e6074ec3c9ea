-- `spire_set_map` tells what `set_map` did.
-- Assumes nothing.
use Rattle.spirerivet.proofs.Told.{told_call}
use borrow.Author.Rules.{rules}
use Rattle.spirerivet.proofs.spire_set_map.Goals as goal

pub returns : goal.returns
returns c = λ t. told_call c.from.ensures (c.set_map.ensures t)
