-- `spire_rebind` tells what `rebind` did.
-- Assumes nothing.
use Rattle.spirerivet.proofs.Told.{told_call}
use borrow.Author.Rules.{rules}
use Rattle.spirerivet.proofs.spire_rebind.Goals as goal

pub returns : goal.returns
returns c = λ t. told_call c.from.ensures (c.rebind.ensures t)
