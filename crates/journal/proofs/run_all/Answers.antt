-- `run_all` runs all records on free pages, their counts, fresh jobs and their maps, as one part of an input that has ended.
-- Assumes nothing.
use Prim.Native.Nat.{◌≤◌}
use mathlib.Core.Path.{◌≡◌, sym}
use native.Mathlib.Omega.{arith}
use borrow.Author.Rules.{rules}
use lib.ListN.{length, take}
use lib.Seq.{length-take-le}
use Rattle.rules.specs.Calls.{tables_of}
use Rattle.rules.specs.Journal.{machine_in, start_of}
use Rattle.journal.proofs.MachineRecord.{good_opening, head_in, Cut, cut}
use Rattle.journal.proofs.Output.{rest_lent}
use Rattle.journal.proofs.BookRun.{journal_opened}
use Rattle.journal.proofs.Whole.{start_lent, start_ok, all_done}
use Rattle.journal.proofs.run_all.Goals as goal
use Rattle.journal.proofs.run_all.Goals.{After-free_pages-pages, After-page_counts-free, After-identity_maps-maps}

-- the counts of the machine record are those of its nodes
lent : (c : After-page_counts-free) → Cut c.args.input.now c.byte_at-nodes.result c.page_counts-free.result
lent c = cut c.args.input.now c.page_counts-free.result (good_opening c.args.input.now c.requires.0).counted
    c.byte_at-nodes.ensures.0 (search rules) c.page_counts-free.ensures

-- there are bytes for all pages
pages_few : (c : After-free_pages-pages) → c.total_pages-total.result ≤ length c.free_pages-pages.result
pages_few c = let long : length c.free_pages-pages.result ≡ 16384 = search rules in
    omega (arith, long, c.total_pages-total.ensures, (good_opening c.args.input.now c.requires.0).few_pages)

-- the tables are those of the start
tables : (c : After-identity_maps-maps)
    → tables_of (take c.total_pages-total.result c.free_pages-pages.result) c.fresh_jobs-jobs.result
    (take c.byte_at-nodes.result c.page_counts-free.result) c.identity_maps-maps.result ≡ start_of (machine_in c.args.input.now)
tables c = let cut-off = lent (goal.at.After-identity_maps-maps c).After-page_counts-free in
    start_lent (machine_in c.args.input.now) c.free_pages-pages.ensures c.fresh_jobs-jobs.ensures cut-off.counts c.identity_maps-maps.ensures
    cut-off.nodes c.total_pages-total.ensures (good_opening c.args.input.now c.requires.0).few_pages

-- N is at most 16
pub identity_maps-maps-requires : goal.identity_maps-maps-requires
identity_maps-maps-requires c = let cut-off = lent (goal.at.identity_maps-maps-requires c).After-page_counts-free in
    omega (arith, cut-off.long, cut-off.few)

pub byte_at-nodes-requires : goal.byte_at-nodes-requires
byte_at-nodes-requires c = omega (arith, head_in c.args.input.now (good_opening c.args.input.now c.requires.0).whole)

pub run_part-part-requires : goal.run_part-part-requires
run_part-part-requires c = start_ok c.args.input.now c.requires.0 (tables (goal.at.run_part-part-requires c).After-identity_maps-maps)

pub returns : goal.returns
returns c = let whole = journal_opened c.args.input.now c.requires.0 in
    let did = rw (tables (goal.at.returns c).After-identity_maps-maps, rest_lent c.args.input.now c.args.size) at c.run_part-part.ensures in
    rw whole (all_done _ _ _ _ (rw whole at c.requires.1) did)

pub total_pages-total-requires : goal.total_pages-total-requires
total_pages-total-requires c = let good = good_opening c.args.input.now c.requires.0 in (good.counted, good.whole)

pub page_counts-free-requires : goal.page_counts-free-requires
page_counts-free-requires c = let good = good_opening c.args.input.now c.requires.0 in (good.counted, good.whole)

pub slice_bounds-pages-end : goal.slice_bounds-pages-end
slice_bounds-pages-end c = pages_few (goal.at.slice_bounds-pages-end c).After-free_pages-pages

pub slice_bounds-run_part-end : goal.slice_bounds-run_part-end
slice_bounds-run_part-end c =
    sym (length-take-le c.total_pages-total.result c.free_pages-pages.result (pages_few (goal.at.slice_bounds-run_part-end c).After-free_pages-pages))

pub slice_bounds-free-end : goal.slice_bounds-free-end
slice_bounds-free-end c = (lent (goal.at.slice_bounds-free-end c).After-page_counts-free).inside

pub slice_bounds-run_part-end-3 : goal.slice_bounds-run_part-end-3
slice_bounds-run_part-end-3 c = (lent (goal.at.slice_bounds-run_part-end-3 c).After-page_counts-free).long

pub slice_bounds-run_part-count : goal.slice_bounds-run_part-count
slice_bounds-run_part-count c = let good = good_opening c.args.input.now c.requires.0 in omega (arith, good.size, good.whole)

pub slice_bounds-run_part-start : goal.slice_bounds-run_part-start
slice_bounds-run_part-start c = let good = good_opening c.args.input.now c.requires.0 in
    let inside : c.args.size ≤ length c.args.input.now = omega (arith, good.size, good.whole) in
    search rules
