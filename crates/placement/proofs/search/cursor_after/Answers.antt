-- `search::cursor_after` meets its contract.
-- Assumes nothing.
use native.Mathlib.Numerals.{add-one}
use Rattle.placement.specs.Plans.{leaves}
use Rattle.placement.proofs.search.cursor_after.Goals as goal

pub returns-then-walk : goal.returns-then-walk
unfolding leaves
returns-then-walk c = rw (c.if-walk.true, add-one)

pub returns : goal.returns
unfolding leaves
returns c = rw c.if-walk.false
