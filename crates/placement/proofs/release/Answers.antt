-- `release` meets its contract: each page count first, then their sum and the other tables.
-- Assumes nothing.
use mathlib.Core.Path.{◌≡◌, sym, ap, ◌∙◌}
use mathlib.Core.Bool.{Bool, true, ◌&&◌}
use lib.Dec.{leb}
use lib.ListN.{length}
use Rattle.rules.specs.Basics.{all}
use Rattle.rules.specs.Machine.{nodes_ok}
use Rattle.rules.specs.Calls.{Tables, tables_of, map_of, fresh_tables_ok, release_tables_ok, applied, release_decision, on_release}
use Rattle.rules.proofs.Kept.{nodes_few}
use Rattle.rules.proofs.Lists.{both_true}
use Rattle.machine.proofs.Tables.{counts_tested}
use Rattle.placement.proofs.InOrder.{release_tested}
use Rattle.placement.proofs.Requests.{release_map}
use Rattle.placement.proofs.release.Goals as goal
use Rattle.placement.proofs.release.Goals.{Else-not-counts_ok, After-lent_ok-fits, Else-not-at-fits}

-- each page count is in order
each_ok : (c : Else-not-counts_ok) → (nodes_ok (length c.args.counts.now) && all (λ k. leb k 65536) c.args.counts.now) ≡ true
each_ok c = sym c.counts_ok.ensures ∙ c.if-not-counts_ok.false

-- the tables of the call, which are tested
abbrev tables : (c : After-lent_ok-fits) → Tables
tables c = tables_of c.args.pages.now c.args.jobs.now c.args.free.now c.args.maps.now

tested : (c : After-lent_ok-fits)
    → (leb c.locate-at.result.total 1048576 && c.lent_ok-fits.result) ≡ release_tables_ok c.args.counts.now (tables c)
tested c =
    ap (λ (b : Bool). leb c.locate-at.result.total 1048576 && b) c.lent_ok-fits.ensures
    ∙ release_tested c.args.counts.now (tables c) c.locate-at.ensures.1 (each_ok (goal.at.After-lent_ok-fits c).Else-not-counts_ok)

-- and in order
in_order : (c : Else-not-at-fits) → release_tables_ok c.args.counts.now (tables (goal.at.Else-not-at-fits c).After-lent_ok-fits) ≡ true
in_order c = sym (tested (goal.at.Else-not-at-fits c).After-lent_ok-fits) ∙ c.if-not-at-fits.false

-- a page count breaks the rules
pub returns-then-not-counts_ok : goal.returns-then-not-counts_ok
unfolding on_release release_decision applied release_tables_ok fresh_tables_ok
returns-then-not-counts_ok c = rw (sym (counts_tested c.args.counts.now (sym c.counts_ok.ensures ∙ c.if-not-counts_ok.true)))

pub locate-at-requires : goal.locate-at-requires
locate-at-requires c = nodes_few _ (both_true {a = nodes_ok _} (each_ok (goal.at.locate-at-requires c).Else-not-counts_ok)).0

-- there are too many pages, or the page table, the free counts or the job table break the rules
pub returns-then-not-at-fits : goal.returns-then-not-at-fits
unfolding on_release release_decision applied
returns-then-not-at-fits c = rw (sym (tested (goal.at.returns-then-not-at-fits c).After-lent_ok-fits) ∙ c.if-not-at-fits.true)

pub release_located-placed-requires : goal.release_located-placed-requires
release_located-placed-requires c = let found = c.locate-at.ensures in
    (in_order (goal.at.release_located-placed-requires c).Else-not-at-fits, found.1, λ l. found.0)

pub tell-requires : goal.tell-requires
tell-requires c = let t = tables (goal.at.tell-requires c).After-lent_ok-fits in
    release_map _ t c.args.job c.args.page (map_of t c.args.job) c.release_located-placed.result (in_order (goal.at.tell-requires c).Else-not-at-fits)
    c.release_located-placed.ensures.did

pub returns : goal.returns
unfolding map_of
returns c = rw c.tell.ensures c.release_located-placed.ensures.did
