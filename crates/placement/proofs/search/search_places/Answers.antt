-- `search::search_places` meets its contract: place 0 first where the walk is early, then the round.
-- Assumes nothing.
use mathlib.Core.Path.{◌≡◌, sym, ◌∙◌}
use lib.ListN.{length}
use Rattle.rules.specs.SearchOrder.{tried, chosen}
use Rattle.records.specs.Jobs.{turn_of}
use Rattle.placement.specs.Plans.{round_tries, walk_tries}
use Rattle.placement.proofs.Searches.{early_first, early_rest, not_early}
use Rattle.placement.proofs.search.search_places.Goals as goal
use Rattle.placement.proofs.search.search_places.Goals.{else-walk, then-walk+else-is_open}

-- place 0 is open
pub returns-then-is_open : goal.returns-then-is_open
returns-then-is_open c = rw c.cursor_after-cursor.ensures
    (sym (early_first _ _ _ _ _ c.if-walk.true (sym c.is_open.ensures ∙ c.if-is_open.true)))

pub returns : goal.returns
returns c = let rest : chosen c.args.free.now (tried (length c.args.free.now) c.args.limit.0 (walk_tries c.args.walk c.args.places)) ≡ chosen
    c.args.free.now (tried (length c.args.free.now) c.args.limit.0
    (round_tries c.args.walk.moves c.args.places (turn_of c.args.walk.cursor) c.args.walk.len c.args.walk.cursor c.args.walk.len)) = elim
    c.if-walk.branch [
      | then-walk+else-is_open i ↦ early_rest _ _ _ _ _ i.if-walk.true (sym i.is_open.ensures ∙ i.if-is_open.false)
      | else-walk i ↦
          not_early _ _ _ _ _ i.if-walk.false
    ] in
    c.search_round.ensures ∙ sym rest
