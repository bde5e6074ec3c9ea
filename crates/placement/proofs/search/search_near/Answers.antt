-- `search::search_near` meets its contract: the nearest node that is counted above 0 is the first of near(x) that is.
-- Assumes nothing.
use mathlib.Core.Path.{◌≡◌, sym, ap, ◌∙◌}
use mathlib.Core.List.{map}
use lib.ListN.{length}
use Rattle.rules.specs.SearchOrder.{try, near, chosen}
use Rattle.nodemask.specs.Found.{found_node}
use Rattle.records.specs.Jobs.{turn_of}
use Rattle.placement.proofs.Searches.{try_at, near_chosen}
use Rattle.placement.proofs.search.search_near.Goals as goal

pub returns : goal.returns
returns c = let found : try_at (turn_of c.args.cursor) (found_node c.nearest.result) ≡ chosen c.args.free.now
    (map (try (turn_of c.args.cursor)) (near (length c.args.free.now) c.args.distances.now c.args.set.0 c.args.x.0)) = ap
    (try_at (turn_of c.args.cursor)) c.nearest.ensures ∙ sym (near_chosen _ _ _) in
    rw c.in_ok-node.was at found

pub returns-in_err-node : goal.returns-in_err-node
returns-in_err-node c = let found : try_at (turn_of c.args.cursor) (found_node c.nearest.result) ≡ chosen c.args.free.now
    (map (try (turn_of c.args.cursor)) (near (length c.args.free.now) c.args.distances.now c.args.set.0 c.args.x.0)) = ap
    (try_at (turn_of c.args.cursor)) c.nearest.ensures ∙ sym (near_chosen _ _ _) in
    rw c.from_residual.ensures (rw c.in_err-node.was at found)
