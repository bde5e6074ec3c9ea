-- `fresh_at` meets its contract: the bytes of the pages are cleared, and the counts copied.
-- Assumes nothing.
use Prim.Native.Nat.{ℕ, ◌≤◌}
use mathlib.Core.Path.{sym, ap, ◌∙◌}
use native.Mathlib.Omega.{arith}
use lib.ListN.{length, replicate}
use lib.Seq.{length-take-le}
use Rattle.rules.specs.Calls.{with_pages}
use Rattle.rules.proofs.InOrder.{PagesInOrder, pages_in_order_lem}
use Rattle.rules.proofs.AsBefore.{fresh_is}
use Rattle.placement.proofs.fresh_at.Goals as goal
use Rattle.placement.proofs.fresh_at.Goals.{Start, After-pages_end-total}

-- the tables are in order
in_order : (c : Start) → PagesInOrder c.args.layout.counts.now (length c.args.pages.now) (length c.args.free.now)
in_order c = pages_in_order_lem _ _ _ c.requires

-- the page table has all pages
fits : (c : After-pages_end-total) → c.pages_end-total.result ≤ length c.args.pages.now
fits c = omega (arith, (in_order (goal.at.After-pages_end-total c).Start).fits, c.pages_end-total.ensures)

pub copy_counts-requires : goal.copy_counts-requires
copy_counts-requires c = (in_order (goal.at.copy_counts-requires c).Start).one_each

pub returns : goal.returns
returns c t = let long = length-take-le _ c.args.pages.now (fits (goal.at.returns c).After-pages_end-total) in
    let zeros = c.fill.ensures.after (λ y e. e) ∙ ap (λ (k : ℕ). replicate k 0) long in
    rw (zeros, c.copy_counts.ensures, c.pages_end-total.ensures)
    (sym (fresh_is _ (with_pages t c.args.pages.now c.args.free.now) c.requires))

pub pages_end-total-requires : goal.pages_end-total-requires
pages_end-total-requires c = let i = (in_order (goal.at.pages_end-total-requires c).Start).counts_ok_lem in
    (i.nodes_most, i.pages_most, c.args.layout.begin)

pub slice_bounds-fill-end-2 : goal.slice_bounds-fill-end-2
slice_bounds-fill-end-2 c = sym (length-take-le _ c.args.pages.now (fits (goal.at.slice_bounds-fill-end-2 c).After-pages_end-total))

pub slice_bounds-fill-end : goal.slice_bounds-fill-end
slice_bounds-fill-end c = fits (goal.at.slice_bounds-fill-end c).After-pages_end-total
