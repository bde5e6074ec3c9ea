-- `spire_release` tells what `release` did.
-- Assumes nothing.
use Rattle.spirerivet.proofs.Told.{told_call}
use borrow.Author.Rules.{rules}
use Rattle.spirerivet.proofs.spire_release.Goals as goal

pub returns : goal.returns
returns c = told_call c.from.ensures c.release.ensures
