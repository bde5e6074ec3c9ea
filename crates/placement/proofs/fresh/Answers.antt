-- `fresh` meets its contract: the page counts first, then the page table and the free counts.
-- Assumes nothing.
use mathlib.Core.Path.{◌≡◌, sym, ◌∙◌}
use mathlib.Core.Bool.{true, ◌&&◌}
use lib.ListN.{length}
use Rattle.rules.specs.Machine.{nodes_ok, pages_ok}
use Rattle.rules.specs.Calls.{fresh_tables_ok, applied, fresh_decision, on_fresh}
use Rattle.rules.proofs.Machine.{counts_in_order}
use Rattle.placement.proofs.InOrder.{fresh_tested}
use Rattle.placement.proofs.fresh.Goals as goal
use Rattle.placement.proofs.fresh.Goals.{Else-not-page_counts_ok, After-pages_ok}

-- the page counts are in order
counts_ok : (c : Else-not-page_counts_ok) → (nodes_ok (length c.args.counts.now) && pages_ok c.args.counts.now) ≡ true
counts_ok c = sym c.page_counts_ok.ensures ∙ c.if-not-page_counts_ok.false

-- the tables are tested
tested : (c : After-pages_ok) → c.pages_ok.result ≡ fresh_tables_ok c.args.counts.now (length c.args.pages.now) (length c.args.free.now)
tested c = c.pages_ok.ensures ∙ fresh_tested _ _ _ c.pages_end-total.ensures (counts_ok (goal.at.After-pages_ok c).Else-not-page_counts_ok)

-- the page counts break the rules
pub returns-then-not-page_counts_ok : goal.returns-then-not-page_counts_ok
unfolding on_fresh fresh_decision applied fresh_tables_ok
returns-then-not-page_counts_ok c t = rw (sym c.page_counts_ok.ensures ∙ c.if-not-page_counts_ok.true)

pub starts_of-starts-requires : goal.starts_of-starts-requires
starts_of-starts-requires c = let i = counts_in_order _ (counts_ok (goal.at.starts_of-starts-requires c).Else-not-page_counts_ok) in
    (i.nodes_most, i.pages_most)

pub pages_end-total-requires : goal.pages_end-total-requires
pages_end-total-requires c = let i = counts_in_order _ (counts_ok (goal.at.pages_end-total-requires c).Else-not-page_counts_ok) in
    (i.nodes_most, i.pages_most, c.starts_of-starts.ensures)

-- one of them breaks the rules
pub returns-then-not-pages_ok : goal.returns-then-not-pages_ok
unfolding on_fresh fresh_decision applied
returns-then-not-pages_ok c t = rw (sym (tested (goal.at.returns-then-not-pages_ok c).After-pages_ok) ∙ c.if-not-pages_ok.true)

pub fresh_at-requires : goal.fresh_at-requires
fresh_at-requires c = sym (tested (goal.at.fresh_at-requires c).After-pages_ok) ∙ c.if-not-pages_ok.false
