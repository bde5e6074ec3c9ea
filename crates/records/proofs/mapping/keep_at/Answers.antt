-- `keep_at` leaves a job's map the entries that are kept.
-- Assumes nothing.
use mathlib.Core.Bool.{true}
use mathlib.Core.Path.{◌≡◌, sym, ◌∙◌}
use lib.ListN.{length}
use Prim.Native.Nat.{◌+◌, ◌*◌, ◌≤◌}
use Rattle.rules.specs.Maps.{map_size, put_map}
use Rattle.rules.specs.Calls.{is_job, map_of, is_mapped, after_writes, after_stores, after_remaps, applied, keep_decision, on_keep}
use Rattle.rules.proofs.InOrder.{mapped_map}
use Rattle.rules.proofs.Kept.{mapped_nodes}
use Rattle.rules.proofs.Maps.{map_long}
use Rattle.records.proofs.mapping.keep_at.Goals as goal
use Rattle.records.proofs.mapping.keep_at.Goals.{Else-not-has_job}

-- the job is one of the table's
found : (c : Else-not-has_job) → is_job c.args.jobs.now c.args.job ≡ true
found c = sym c.has_job.ensures ∙ c.if-not-has_job.false

-- so it has a map in the table of maps
in_table : (c : Else-not-has_job) → map_size * c.args.job + map_size ≤ length c.args.maps.now
in_table c = mapped_map c.args.nodes (length c.args.jobs.now) (length c.args.maps.now) c.args.job c.requires (found c)

pub returns-then-not-has_job : goal.returns-then-not-has_job
unfolding applied keep_decision on_keep
returns-then-not-has_job c t = rw (c.requires, sym c.has_job.ensures ∙ c.if-not-has_job.true)

pub of_job-bytes-requires : goal.of_job-bytes-requires
of_job-bytes-requires c = in_table c

pub judge-requires : goal.judge-requires
judge-requires c = let few = mapped_nodes _ (length c.args.jobs.now) (length c.args.maps.now) c.requires in
    (few.0, few.1, rw c.of_job-bytes.ensures (map_long _ _ (in_table (goal.at.judge-requires c).Else-not-has_job)))

pub returns-in_default : goal.returns-in_default
unfolding is_mapped applied keep_decision on_keep
returns-in_default c t = rw (c.requires, found (goal.at.returns-in_default c).Else-not-has_job, sym c.of_job-bytes.ensures, c.in_default.ensures)

pub keep-requires : goal.keep-requires
keep-requires c = rw c.of_job-bytes.ensures (map_long _ _ (in_table (goal.at.keep-requires c).Else-not-has_job))

pub returns-in_default-keep : goal.returns-in_default-keep
unfolding map_of is_mapped applied keep_decision on_keep
returns-in_default-keep c t = rw (
  c.requires,
  found (goal.at.returns-in_default-keep c).Else-not-has_job,
  sym c.of_job-bytes.ensures,
  c.in-Some.ensures.0,
  c.in_default-keep.ensures,
)

pub store-requires : goal.store-requires
store-requires c = in_table (goal.at.store-requires c).Else-not-has_job

pub returns : goal.returns
unfolding map_of is_mapped put_map after_writes after_stores after_remaps applied keep_decision on_keep
returns c t = rw (
  c.requires,
  found (goal.at.returns c).Else-not-has_job,
  sym c.of_job-bytes.ensures,
  c.in-Some.ensures.0,
  c.in-Some-keep.ensures.0,
  c.store.ensures,
  c.in-Some-keep.ensures.1,
)
