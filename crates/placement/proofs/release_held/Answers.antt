-- `release_held` meets its contract: each refusal in its turn, then the page's byte becomes 0 and the count goes up.
-- Assumes nothing.
use Prim.Native.Nat.{◌<◌}
use mathlib.Core.Path.{◌≡◌}
use native.Mathlib.Omega.{arith}
use borrow.Author.Tests.{le-ltb, lt-ltb, eq-eqb, ne_eqb}
use lib.ListN.{length}
use Rattle.rules.specs.Basics.{sum}
use Rattle.rules.specs.Machine.{node_of_page}
use Rattle.rules.specs.Calls.{holds, after_writes, after_stores, after_remaps, applied}
use Rattle.rules.proofs.Pages.{node_page, page_node_lt}
use Rattle.rules.proofs.InOrder.{PagesInOrder, pages_in_order_lem}
use Rattle.placement.proofs.Grants.{count_full, count_fits_lem}
use Rattle.placement.proofs.release_held.Goals as goal
use Rattle.placement.proofs.release_held.Goals.{Else-page-at}

-- the tables are in order
in_order : (c : Else-page-at) → PagesInOrder c.args.counts.now (length c.args.pages.now) (length c.args.free.now)
in_order c = pages_in_order_lem _ _ _ c.requires.0

-- the page is one of the machine's, and its node is the one that is named
ranged : (c : Else-page-at) → c.args.page < sum c.args.counts.now
ranged c = rw c.requires.2 at c.if-page-at.false

node_is : (c : Else-page-at) → c.args.at.node.0 ≡ node_of_page c.args.counts.now c.args.page
node_is c = c.requires.3 (ranged c)

-- so it is a node of the machine, and has a count
node_in : (c : Else-page-at) → c.args.at.node.0 < length c.args.counts.now
node_in c = omega (arith, node_is c, page_node_lt (node_page c.args.counts.now c.args.page (ranged c)))

count_in : (c : Else-page-at) → c.args.at.node.0 < length c.args.free.now
count_in c = omega (arith, (in_order c).one_each, node_in c)

-- page number out of range
pub returns-then-page-at : goal.returns-then-page-at
unfolding holds applied
returns-then-page-at c = record {
  did = λ jobs maps. rw (le-ltb _ _ (rw c.requires.2 at c.if-page-at.true));
  found = tt;
}

-- not held by this job
pub returns-then-holder-job : goal.returns-then-holder-job
unfolding holds applied
returns-then-holder-job c = record {
  did = λ jobs maps. rw (lt-ltb _ _ (ranged (goal.at.returns-then-holder-job c).Else-page-at), ne_eqb _ _ c.if-holder-job.true);
  found = tt;
}

-- the count is not below the node's pages
pub returns-then-counts-n : goal.returns-then-counts-n
unfolding holds applied
returns-then-counts-n c = let place = (goal.at.returns-then-counts-n c).Else-page-at in
    record {
      did = λ jobs maps. rw (
        lt-ltb _ _ (ranged place),
        eq-eqb _ _ c.if-holder-job.false,
        count_full c.args.counts.now c.args.free.now (node_of_page c.args.counts.now c.args.page) (rw (node_is place) at c.if-counts-n.true),
      );
      found = tt;
    }

-- the page is free
pub returns : goal.returns
unfolding holds applied after_writes after_stores after_remaps
returns c = let place = (goal.at.returns c).Else-page-at in
    let node-is : c.args.at.node.0 ≡ node_of_page c.args.counts.now c.args.page = node_is place in
    record {
      did = λ jobs maps. rw (
        lt-ltb _ _ (ranged place),
        eq-eqb _ _ c.if-holder-job.false,
        node-is,
        count_fits_lem _ _ _ (rw node-is at c.if-counts-n.false),
      );
      found = node-is;
    }

-- it is a page number
pub overflow_cast-result : goal.overflow_cast-result
overflow_cast-result c = let at = (goal.at.overflow_cast-result c).Else-page-at in
    omega (arith, (in_order at).counts_ok_lem.pages_most, ranged at)

pub bounds-pages-page : goal.bounds-pages-page
bounds-pages-page c = let at = (goal.at.bounds-pages-page c).Else-page-at in
    omega (arith, (in_order at).fits, ranged at)

pub bounds-counts-n : goal.bounds-counts-n
bounds-counts-n c = node_in (goal.at.bounds-counts-n c).Else-page-at

pub bounds-free-n : goal.bounds-free-n
bounds-free-n c = count_in (goal.at.bounds-free-n c).Else-page-at

pub bounds-free-n-2 : goal.bounds-free-n-2
bounds-free-n-2 c = count_in (goal.at.bounds-free-n-2 c).Else-page-at

pub bounds-free-n-3 : goal.bounds-free-n-3
bounds-free-n-3 c = count_in (goal.at.bounds-free-n-3 c).Else-page-at
