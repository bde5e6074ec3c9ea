-- `release_located` meets its contract: the job and its map first.
-- Assumes nothing.
use Prim.Native.Nat.{◌+◌, ◌*◌, ◌≤◌}
use mathlib.Core.Path.{◌≡◌, sym, ap, ◌∙◌}
use mathlib.Core.Bool.{true}
use lib.ListN.{length}
use Rattle.rules.specs.Maps.{map_size}
use Rattle.rules.specs.Calls.{Tables, tables_of, is_job, is_mapped, applied, release_decision, on_release}
use Rattle.rules.proofs.InOrder.{fresh_ok, jobs_ok_lem, job_map, pages_in_order_lem}
use Rattle.rules.proofs.Maps.{map_long}
use Rattle.placement.proofs.InOrder.{job_few}
use Rattle.placement.proofs.release_located.Goals as goal
use Rattle.placement.proofs.release_located.Goals.{Else-not-has_job}

-- the tables of the call
abbrev tables : (c : Else-not-has_job) → Tables
tables c = tables_of c.args.pages.now c.args.jobs.now c.args.free.now c.args.maps.now

-- the job is one of the table's
found : (c : Else-not-has_job) → is_job c.args.jobs.now c.args.job ≡ true
found c = sym c.has_job.ensures ∙ c.if-not-has_job.false

-- so it has a map in the table of maps
has_map : (c : Else-not-has_job) → map_size * c.args.job + map_size ≤ length c.args.maps.now
has_map c = job_map _ _ c.args.job (jobs_ok_lem _ (tables c) c.requires.0) (found c)

-- no such job
pub returns-then-not-has_job : goal.returns-then-not-has_job
unfolding on_release release_decision applied
returns-then-not-has_job c = record {
  did = rw (c.requires.0, sym c.has_job.ensures ∙ c.if-not-has_job.true);
  found = tt;
}

pub of_job-requires : goal.of_job-requires
of_job-requires c = has_map (goal.at.of_job-requires c).Else-not-has_job

pub judge-requires : goal.judge-requires
judge-requires c = let at = (goal.at.judge-requires c).Else-not-has_job in
    let few = (pages_in_order_lem _ _ _ (fresh_ok _ (tables at) c.requires.0)).counts_ok_lem in (
      few.nodes_least,
      few.nodes_most,
      ap length c.of_job.ensures ∙ map_long c.args.maps.now c.args.job (has_map at),
    )

-- a bad map
pub returns-in_default : goal.returns-in_default
unfolding on_release release_decision applied is_mapped
returns-in_default c = record {
  did = rw (c.requires.0, found (goal.at.returns-in_default c).Else-not-has_job, sym c.of_job.ensures, c.in_default.ensures);
  found = tt;
}

pub release_held-requires : goal.release_held-requires
release_held-requires c = let at = (goal.at.release_held-requires c).Else-not-has_job in
    (fresh_ok _ (tables at) c.requires.0, job_few _ (tables at) _ c.requires.0 (found at), c.requires.1, c.requires.2)

-- a good map: the other tests are left
pub returns : goal.returns
unfolding on_release release_decision is_mapped
returns c = record {
  did = rw (c.requires.0, found (goal.at.returns c).Else-not-has_job, sym c.of_job.ensures, c.in-Some.ensures.0)
      (c.release_held.ensures.did c.args.jobs.now c.args.maps.now);
  found = c.release_held.ensures.found;
}
