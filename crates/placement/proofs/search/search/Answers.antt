-- `search::search` meets its contract: the tries of the plan are the order.
-- Assumes nothing.
use mathlib.Core.Path.{sym}
use Rattle.rules.specs.SearchOrder.{order}
use Rattle.placement.proofs.search.search.Goals as goal

pub returns-in-Near : goal.returns-in-Near
unfolding order
returns-in-Near c = rw (sym c.of-plan.ensures.as_ruled, c.in-Near.is) c.search_near.ensures

pub returns-in-Places : goal.returns-in-Places
unfolding order
returns-in-Places c = rw (sym c.of-plan.ensures.as_ruled, c.in-Places.is) c.search_places.ensures

pub returns-in-Closed : goal.returns-in-Closed
unfolding order
returns-in-Closed c = rw (sym c.of-plan.ensures.as_ruled, c.in-Closed.is) c.search_closed.ensures
