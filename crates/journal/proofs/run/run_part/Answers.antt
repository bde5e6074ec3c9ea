-- `run_part` lends the machine that the machine record says.
-- Assumes nothing.
use mathlib.Core.Path.{◌≡◌}
use native.Mathlib.Omega.{arith}
use borrow.Author.Rules.{rules}
use lib.ListN.{take}
use Rattle.rules.specs.Journal.{machine_in}
use Rattle.rules.proofs.Machine.{in_order}
use Rattle.machine.specs.Tables.{machine_of}
use Rattle.placement.proofs.Hints.{zero_hints}
use Rattle.journal.proofs.MachineRecord.{good_opening, head_in, Cut, cut}
use Rattle.journal.proofs.run.run_part.Goals as goal
use Rattle.journal.proofs.run.run_part.Goals.{After-page_counts-all}

-- the counts of the machine record are those of its nodes
lent : (c : After-page_counts-all) → Cut c.args.opening.now c.byte_at-n.result c.page_counts-all.result
lent c = cut c.args.opening.now c.page_counts-all.result (good_opening c.args.opening.now c.requires.good).counted
    c.byte_at-n.ensures.0 (search rules) c.page_counts-all.ensures

pub byte_at-n-requires : goal.byte_at-n-requires
byte_at-n-requires c = omega (arith, head_in c.args.opening.now (good_opening c.args.opening.now c.requires.good).whole)

pub page_counts-all-requires : goal.page_counts-all-requires
page_counts-all-requires c = let good = good_opening c.args.opening.now c.requires.good in (good.counted, good.whole)

pub slice_bounds-all-end : goal.slice_bounds-all-end
slice_bounds-all-end c = (lent (goal.at.slice_bounds-all-end c).After-page_counts-all).inside

pub slice_bounds-counts-end : goal.slice_bounds-counts-end
slice_bounds-counts-end c = (lent (goal.at.slice_bounds-counts-end c).After-page_counts-all).long

pub cpu_bytes-cpus-requires : goal.cpu_bytes-cpus-requires
cpu_bytes-cpus-requires c = (good_opening c.args.opening.now c.requires.good).whole

pub distance_bytes-distances-requires : goal.distance_bytes-distances-requires
distance_bytes-distances-requires c = (good_opening c.args.opening.now c.requires.good).whole

pub starts_of-starts-requires : goal.starts_of-starts-requires
starts_of-starts-requires c = let i = (in_order _ (good_opening c.args.opening.now c.requires.good).in_order).counts in
    rw (lent (goal.at.starts_of-starts-requires c).After-page_counts-all).counts (i.nodes_most, i.pages_most)

pub run_records-requires : goal.run_records-requires
run_records-requires c = let cut-off = lent (goal.at.run_records-requires c).After-page_counts-all in
    let machine : machine_of (take c.byte_at-n.result c.page_counts-all.result) c.cpu_bytes-cpus.result.now c.distance_bytes-distances.result.now
    ≡ machine_in c.args.opening.now = rw (cut-off.counts, c.cpu_bytes-cpus.ensures, c.distance_bytes-distances.ensures) in
    (rw machine c.requires.tables, zero_hints _ _ 320)
