-- `release_at` meets its contract: the page's node is found by the starts.
-- Assumes nothing.
use native.Mathlib.Omega.{arith}
use lib.ListN.{length}
use Rattle.rules.specs.Calls.{tables_of}
use Rattle.rules.proofs.InOrder.{PagesInOrder, fresh_ok, pages_in_order_lem}
use Rattle.placement.proofs.release_at.Goals as goal
use Rattle.placement.proofs.release_at.Goals.{Start}

-- the tables are in order
in_order : (c : Start) → PagesInOrder c.args.layout.counts.now (length c.args.pages.now) (length c.args.free.now)
in_order c = pages_in_order_lem _ _ _ (fresh_ok _ (tables_of c.args.pages.now c.args.jobs.now c.args.free.now c.args.maps.now) c.requires)

pub pages_end-total-requires : goal.pages_end-total-requires
pages_end-total-requires c = let i = (in_order (goal.at.pages_end-total-requires c).Start).counts_ok_lem in
    (i.nodes_most, i.pages_most, c.args.layout.begin)

pub overflow_cast-page : goal.overflow_cast-page
overflow_cast-page c = omega (arith, c.pages_end-total.ensures, (in_order (goal.at.overflow_cast-page c).Start).counts_ok_lem.pages_most)

pub node_of_page-node-requires : goal.node_of_page-node-requires
node_of_page-node-requires c = ((in_order (goal.at.node_of_page-node-requires c).Start).counts_ok_lem.nodes_most, c.args.layout.begin)
