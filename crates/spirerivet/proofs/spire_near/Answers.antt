-- `spire_near` tells what `list_near` did.
-- Assumes nothing.
use Rattle.spirerivet.proofs.Told.{told_listing_lem}
use borrow.Author.Rules.{rules}
use Rattle.spirerivet.proofs.spire_near.Goals as goal

pub returns : goal.returns
returns c = told_listing_lem c.from.ensures c.list_near.ensures
