-- `spire_keep_nodes` tells what `keep_nodes` did.
-- Assumes nothing.
use Rattle.spirerivet.proofs.Told.{told_call}
use borrow.Author.Rules.{rules}
use Rattle.spirerivet.proofs.spire_keep_nodes.Goals as goal

pub returns : goal.returns
returns c = λ t. told_call c.from.ensures (c.keep_nodes.ensures t)
