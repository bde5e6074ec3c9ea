-- `spire_drain` tells what `drain` did.
-- Assumes nothing.
use Rattle.spirerivet.proofs.Told.{told_drain_lem}
use borrow.Author.Rules.{rules}
use Rattle.spirerivet.proofs.spire_drain.Goals as goal

pub returns : goal.returns
returns c = told_drain_lem c.from.ensures c.drain.ensures
