-- `meets_room` meets its contract.
-- Assumes nothing.
use mathlib.Core.Path.{refl}
use Rattle.rules.specs.Reasons.{meets_room}
use Rattle.reasons.proofs.meets_room.Goals as goal

pub returns-in-Some : goal.returns-in-Some
unfolding meets_room
returns-in-Some c = rw c.in-Some.is c.has_room.ensures

pub returns-in-None : goal.returns-in-None
unfolding meets_room
returns-in-None c = rw c.in-None.is refl
