-- The machine record is good; the counts that are made and lent are the machine's page counts.
use Rattle.std.proofs.Common.{◌≡◌, ℕ, List, length, take, sym, ◌∙◌, arith, rules}
use Rattle.std.proofs.Math.Seq.{length-take-le}
use Rattle.rules.specs.Calls.{tables_of}
use Rattle.rules.specs.Decisions.{accept}
use Rattle.rules.specs.Journal.{byte_at, machine_in, opening}
use Rattle.journal.proofs.MachineRecord.{head_in, good_opening, Cut, cut}
use Rattle.journal.proofs.Within.{opened, still_opened}
use Rattle.placer.proofs.answer_records.Goals as goal

-- the counts that are made are the machine's page counts
lent : (bs : List ℕ) {n k : ℕ} (all : List ℕ) → opening bs ≡ accept k → n ≡ byte_at bs 3 → length all ≡ 16
    → take (byte_at bs 3) all ≡ (machine_in bs).page_counts → Cut bs n all
lent bs all v e l t = cut bs all (good_opening bs v).counted e l t

pub byte_at-nodes-requires : goal.byte_at-nodes-requires
byte_at-nodes-requires g c = omega (arith, head_in c.args.bytes.now (good_opening c.args.bytes.now c.requires).whole)

pub page_counts-free-requires : goal.page_counts-free-requires
page_counts-free-requires g c = let good = good_opening c.args.bytes.now c.requires in (good.counted, good.whole)

pub identity_maps-maps-requires : goal.identity_maps-maps-requires
identity_maps-maps-requires g c =
    let all = c.page_counts-free in
    let l = lent c.args.bytes.now all.result c.requires c.byte_at-nodes.ensures.0 (search rules) all.ensures in
    omega (arith, l.long, l.few)

pub slice_bounds-free-end : goal.slice_bounds-free-end
slice_bounds-free-end g c =
    let all = c.page_counts-free in
    let l = lent c.args.bytes.now all.result c.requires c.byte_at-nodes.ensures.0 (search rules) all.ensures in
    omega (arith, l.inside, c.loop.invariant.same.free)

pub slice_bounds-answer_part-end-in-loop-2 : goal.slice_bounds-answer_part-end-in-loop-2
slice_bounds-answer_part-end-in-loop-2 g c =
    let all = c.page_counts-free in
    let l = lent c.args.bytes.now all.result c.requires c.byte_at-nodes.ensures.0 (search rules) all.ensures in
    sym (length-take-le c.byte_at-nodes.result c.loop.free (omega (arith, l.inside, c.loop.invariant.same.free)))

pub answer_part-requires : goal.answer_part-requires
answer_part-requires g c =
    let all = c.page_counts-free in
    let l = lent c.args.bytes.now all.result c.requires c.byte_at-nodes.ensures.0 (search rules) all.ensures in
    let begun = opened _ c.requires c.free_pages-pages.ensures c.fresh_jobs-jobs.ensures l.counts l.nodes c.identity_maps-maps.ensures in
    let i = c.loop.invariant.same in
    let free = length-take-le c.byte_at-nodes.result c.loop.free (omega (arith, l.inside, i.free)) in
    let now = tables_of c.loop.pages c.loop.jobs (take c.byte_at-nodes.result c.loop.free) c.loop.maps in (
      still_opened {u = now} begun (record { ledger = i.ledger; records = i.records; free = free ∙ l.long; maps = i.maps }),
      omega (arith, c.loop.invariant.kept, c.loop.invariant.input),
      c.loop.invariant.input,
      c.loop.invariant.output,
    )
