-- `goals::holder_of` meets its contract: each of 17's tests in its turn.
-- Assumes nothing.
use Prim.Native.Nat.{◌-◌}
use mathlib.Core.Path.{sym, ap, ◌∙◌}
use lib.ListN.{length}
use Rattle.rules.specs.Masks.{both}
use Rattle.rules.specs.Records.{record_at}
use Rattle.rules.specs.Maps.{map_bytes}
use Rattle.rules.proofs.InOrder.{mapped_map}
use Rattle.rules.proofs.Kept.{mapped_nodes}
use Rattle.rules.proofs.Maps.{map_long}
use Rattle.maps.specs.Judging.{Judges}
use Rattle.std.specs.Prelude.{Some}
use Rattle.drain.proofs.Holders.{admitted_formed, refused_malformed, no_job_lem, bad_map_lem, malformed, holder}
use Rattle.drain.proofs.goals.holder_of.Goals as goal

-- no such job
pub returns-then-not-has_job : goal.returns-then-not-has_job
returns-then-not-has_job c = no_job_lem c.args.nodes c.args.jobs.now c.args.maps.now (c.args.byte - 1) (sym c.if-not-has_job.ensures)

pub of_job-requires : goal.of_job-requires
of_job-requires c = mapped_map c.args.nodes _ _ (c.args.byte - 1) c.requires.0 (sym c.if-not-has_job.ensures)

pub judge-requires : goal.judge-requires
judge-requires c = let has-map = mapped_map c.args.nodes _ _ (c.args.byte - 1) c.requires.0 (sym c.if-not-has_job.ensures) in
    let few = mapped_nodes _ _ _ c.requires.0 in
    (few.0, few.1, ap length c.of_job.ensures ∙ map_long c.args.maps.now (c.args.byte - 1) has-map)

-- its map is bad
pub returns-in_err-map : goal.returns-in_err-map
returns-in_err-map c = rw c.from_residual.ensures (bad_map_lem c.args.nodes c.args.jobs.now c.args.maps.now (c.args.byte - 1)
    (sym c.if-not-has_job.ensures) (rw (sym c.of_job.ensures) (rw c.in_err-map.was at c.judge.ensures)))

-- it passes
pub returns-in-Ok : goal.returns-in-Ok
returns-in-Ok c = let good : Judges c.args.nodes (map_bytes c.args.maps.now (c.args.byte - 1)) (Some c.in_ok-map.map) =
    rw (sym c.of_job.ensures) (rw c.in_ok-map.was at c.judge.ensures) in
    let passed = c.in-Ok.ensures in
    holder c.args.nodes c.args.jobs.now c.args.maps.now (c.args.byte - 1) (sym c.if-not-has_job.ensures) good.0
    (admitted_formed c.args.nodes (record_at c.args.jobs.now (c.args.byte - 1)) passed.tested)
    _ (passed.limit ∙ ap (both (record_at c.args.jobs.now (c.args.byte - 1)).allowed) good.1)

-- it is malformed
pub returns-in-Err : goal.returns-in-Err
returns-in-Err c = let good : Judges c.args.nodes (map_bytes c.args.maps.now (c.args.byte - 1)) (Some c.in_ok-map.map) =
    rw (sym c.of_job.ensures) (rw c.in_ok-map.was at c.judge.ensures) in
    malformed c.args.nodes c.args.jobs.now c.args.maps.now (c.args.byte - 1) (sym c.if-not-has_job.ensures) good.0
    (refused_malformed c.args.nodes (record_at c.args.jobs.now (c.args.byte - 1)) c.in-Err.ensures.tested)
