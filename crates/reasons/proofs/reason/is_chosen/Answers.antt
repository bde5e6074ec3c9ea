-- `is_chosen` meets its contract.
-- Assumes nothing.
use Rattle.rules.specs.Reasons.{is_chosen}
use Rattle.reasons.proofs.reason.is_chosen.Goals as goal

pub returns-in-Some : goal.returns-in-Some
unfolding is_chosen
returns-in-Some c = rw c.in-Some.is c.eq.ensures

pub returns-in-None : goal.returns-in-None
unfolding is_chosen
returns-in-None c = rw c.in-None.is
