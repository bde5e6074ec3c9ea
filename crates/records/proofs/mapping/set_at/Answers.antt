-- `set_at` sets a job's map to the nodes of a good list.
-- Assumes nothing.
use mathlib.Core.Bool.{true}
use mathlib.Core.Path.{◌≡◌, sym, ◌∙◌}
use lib.ListN.{length}
use Rattle.rules.specs.Maps.{put_map}
use Rattle.rules.specs.Calls.{is_job, after_writes, after_stores, after_remaps, applied, set_map_decision, on_set_map}
use Rattle.rules.proofs.InOrder.{mapped_map}
use Rattle.rules.proofs.Kept.{mapped_nodes}
use Rattle.records.proofs.mapping.set_at.Goals as goal
use Rattle.records.proofs.mapping.set_at.Goals.{Else-not-has_job}

-- the job is one of the table's
found : (c : Else-not-has_job) → is_job c.args.jobs.now c.args.job ≡ true
found c = sym c.has_job.ensures ∙ c.if-not-has_job.false

pub returns-then-not-has_job : goal.returns-then-not-has_job
unfolding applied set_map_decision on_set_map
returns-then-not-has_job c t = rw (c.requires, sym c.has_job.ensures ∙ c.if-not-has_job.true)

pub listed-requires : goal.listed-requires
listed-requires c = mapped_nodes _ (length c.args.jobs.now) (length c.args.maps.now) c.requires

pub returns-in_default : goal.returns-in_default
unfolding applied set_map_decision on_set_map
returns-in_default c t = rw (c.requires, found (goal.at.returns-in_default c).Else-not-has_job, c.in_default.ensures)

pub store-requires : goal.store-requires
store-requires c = mapped_map c.args.nodes (length c.args.jobs.now) _ _ c.requires (found (goal.at.store-requires c).Else-not-has_job)

pub returns : goal.returns
unfolding put_map after_writes after_stores after_remaps applied set_map_decision on_set_map
returns c t = rw (c.requires, found (goal.at.returns c).Else-not-has_job, c.in-Some.ensures.0, c.store.ensures, c.in-Some.ensures.1)
