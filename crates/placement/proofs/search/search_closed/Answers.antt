-- `search::search_closed` meets its contract: the places, and then near(x).
-- Assumes nothing.
use mathlib.Core.Path.{sym, ap, ◌∙◌}
use Rattle.placement.specs.Searches.{chosen_by}
use Rattle.placement.proofs.Searches.{chosen_first, chosen_rest}
use Rattle.placement.proofs.search.search_closed.Goals as goal

-- a place is open
pub returns-in-Some : goal.returns-in-Some
returns-in-Some c = sym (chosen_first _ _ _ (sym c.search_places-placed.ensures ∙ ap chosen_by c.in-Some.is))

-- none is
pub returns-in-None : goal.returns-in-None
returns-in-None c = c.search_near.ensures ∙ sym (chosen_rest _ _ _ (sym c.search_places-placed.ensures ∙ ap chosen_by c.in-None.is))
