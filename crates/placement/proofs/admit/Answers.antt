-- `admit` meets its contract: each refusal in its turn.
-- Assumes nothing.
use Prim.Native.Nat.{ℕ, ◌+◌, ◌*◌, ◌≤◌}
use mathlib.Core.Path.{◌≡◌, sym, ap, subst, ◌∙◌}
use mathlib.Core.Bool.{true, false}
use lib.ListN.{length}
use Rattle.rules.specs.Machine.{Machine}
use Rattle.rules.specs.Masks.{both}
use Rattle.rules.specs.Records.{record_at}
use Rattle.rules.specs.Maps.{map_size}
use Rattle.rules.specs.Calls.{Tables, tables_of, map_of, is_job, admitted, limit_of}
use Rattle.rules.proofs.InOrder.{release_ok, mapped_ok, jobs_ok_lem, job_map}
use Rattle.rules.proofs.Kept.{mapped_nodes}
use Rattle.rules.proofs.Maps.{map_long}
use Rattle.machine.specs.Tables.{machine_of}
use Rattle.placement.specs.Admissions.{LimitIs}
use Rattle.placement.proofs.Requests.{admit_good, admit_bad}
use Rattle.placement.proofs.admit.Goals as goal
use Rattle.placement.proofs.admit.Goals.{Else-not-known}

-- the machine and the tables of the call
abbrev machine : (c : Else-not-known) → Machine
machine c = machine_of c.args.counts.now c.args.cpus.now c.args.distances.now

abbrev tables : (c : Else-not-known) → Tables
tables c = tables_of c.args.pages.now c.args.jobs.now c.args.free.now c.args.maps.now

-- the job is one of the table's
found : (c : Else-not-known) → is_job c.args.jobs.now c.args.job ≡ true
found c = sym c.has_job-known.ensures ∙ c.if-not-known.false

-- so it has a map in the table of maps
has_map : (c : Else-not-known) → map_size * c.args.job + map_size ≤ length c.args.maps.now
has_map c = job_map _ _ c.args.job (jobs_ok_lem _ (tables c) (release_ok (machine c) (tables c) c.requires)) (found c)

-- no such job
pub returns-then-not-known : goal.returns-then-not-known
unfolding admitted
returns-then-not-known c = let none : is_job c.args.jobs.now c.args.job ≡ false = sym c.has_job-known.ensures ∙ c.if-not-known.true in
    record {
      tested = rw (c.requires, none);
      limit = tt;
    }

pub of_job-requires : goal.of_job-requires
of_job-requires c = has_map (goal.at.of_job-requires c).Else-not-known

pub judge-requires : goal.judge-requires
judge-requires c = let at = (goal.at.judge-requires c).Else-not-known in
    let few = mapped_nodes _ _ (length c.args.maps.now) (mapped_ok (machine at) (tables at) c.requires) in
    (few.0, few.1, ap length c.of_job.ensures ∙ map_long c.args.maps.now c.args.job (has_map at))

-- a bad map
pub returns-in_default : goal.returns-in_default
returns-in_default c = let at = (goal.at.returns-in_default c).Else-not-known in
    record {
      tested = sym (admit_bad (machine at) (tables at) c.args.job c.args.cpu c.requires (found at) (rw (sym c.of_job.ensures) c.in_default.ensures));
      limit = tt;
    }

-- a good map: its set is the second limit
pub returns : goal.returns
unfolding limit_of map_of
returns c = let at = (goal.at.returns c).Else-not-known in
    let good = c.in-Some.ensures in record {
      tested = c.admit_mapped.ensures.tested ∙ sym
          (admit_good (machine at) (tables at) c.args.job c.args.cpu c.requires (found at) (rw (sym c.of_job.ensures) good.0));
      limit = rw (sym c.of_job.ensures) (subst (λ (l : ℕ). LimitIs l c.admit_mapped.result)
          (ap (both (record_at c.args.jobs.now c.args.job).allowed) good.1) c.admit_mapped.ensures.limit);
    }
