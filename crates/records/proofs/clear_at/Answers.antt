-- `clear_at` makes a record fresh.
-- Assumes nothing.
use mathlib.Core.Bool.{true}
use mathlib.Core.Path.{◌≡◌, sym, ◌∙◌}
use Rattle.rules.specs.Calls.{is_job, after_writes, after_stores, after_remaps, applied, clear_decision, on_clear}
use Rattle.records.proofs.clear_at.Goals as goal

pub returns-then-not-has_job : goal.returns-then-not-has_job
unfolding applied clear_decision on_clear
returns-then-not-has_job c t = rw (c.requires, sym c.has_job.ensures ∙ c.if-not-has_job.true)

pub returns : goal.returns
unfolding after_writes after_stores after_remaps applied clear_decision on_clear
returns c t = let found : is_job c.args.jobs.now c.args.job ≡ true = sym c.has_job.ensures ∙ c.if-not-has_job.false in
    rw (c.store.ensures, c.as_record.ensures, c.fresh.ensures, c.requires, found)
