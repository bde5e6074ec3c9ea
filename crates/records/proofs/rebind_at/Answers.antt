-- `rebind_at` replaces the allowed mask of a record.
-- Assumes nothing.
use mathlib.Core.Bool.{true, not, ◌&&◌}
use mathlib.Core.Path.{◌≡◌, sym, ap, ◌∙◌}
use lib.Dec.{eqb}
use Rattle.rules.specs.Records.{rebound}
use Rattle.rules.specs.Calls.{is_job, rebind_fits, after_writes, after_stores, after_remaps, applied, rebind_decision, on_rebind}
use Rattle.records.specs.Jobs.{record_of}
use Rattle.records.proofs.Judged.{rebind_tests, rebind_judged}
use Rattle.records.proofs.rebind_at.Goals as goal
use Rattle.records.proofs.rebind_at.Goals.{Else-not-has_job, Else-not-well_formed, After-as_record-next, After-is_empty-3}

-- the job is one of the table's
found : (c : Else-not-has_job) → is_job c.args.jobs.now c.args.job ≡ true
found c = sym c.has_job.ensures ∙ c.if-not-has_job.false

-- its record is well formed, and the other tests are left
judged : (c : Else-not-well_formed) → rebind_decision c.args.nodes c.args.jobs.now c.args.job c.args.allowed
    ≡ rebind_tests c.args.nodes c.args.job (record_of c.load-old.result) c.args.allowed
judged c = rebind_judged _ _ _ c.requires (found (goal.at.Else-not-well_formed c).Else-not-has_job) c.load-old.ensures
    (sym c.well_formed-2.ensures ∙ c.if-not-well_formed.false) _

-- the record that is stored if it passes them
next_is : (c : After-as_record-next) → record_of c.as_record-next.result ≡ rebound (record_of c.load-old.result) c.args.allowed
next_is c = let well = sym c.well_formed-2.ensures ∙ c.if-not-well_formed.false in rw (c.as_record-next.ensures, c.rebound.ensures, c.job.ensures _ well)

-- the last test
last : (c : After-is_empty-3) → rebind_fits (record_of c.as_record-next.result)
    ≡ not (c.is_empty-2.result && not (eqb c.as_record-next.result.flag 1) && not c.is_empty-3.result)
unfolding rebind_fits record_of
last c = rw (c.is_empty-2.ensures, c.is_empty-3.ensures)

pub returns-then-not-has_job : goal.returns-then-not-has_job
unfolding applied rebind_decision on_rebind
returns-then-not-has_job c t = rw (c.requires, sym c.has_job.ensures ∙ c.if-not-has_job.true)

pub returns-then-not-well_formed : goal.returns-then-not-well_formed
unfolding applied rebind_decision on_rebind
returns-then-not-well_formed c t = rw (
  c.requires,
  found (goal.at.returns-then-not-well_formed c).Else-not-has_job,
  sym c.load-old.ensures,
  sym c.well_formed-2.ensures ∙ c.if-not-well_formed.true,
)

pub returns-then-not-below : goal.returns-then-not-below
unfolding applied on_rebind
returns-then-not-below c t = rw (judged (goal.at.returns-then-not-below c).Else-not-well_formed, sym c.below.ensures ∙ c.if-not-below.true)

pub returns-then-is_empty : goal.returns-then-is_empty
unfolding applied on_rebind
returns-then-is_empty c t = rw (
  judged (goal.at.returns-then-is_empty c).Else-not-well_formed,
  sym c.below.ensures ∙ c.if-not-below.false,
  sym c.is_empty.ensures ∙ c.if-is_empty.true,
)

pub returns-then-is_empty-next : goal.returns-then-is_empty-next
unfolding applied on_rebind rebind_fits record_of
returns-then-is_empty-next c t = let at = goal.at.returns-then-is_empty-next c in
    rw (
      judged at.Else-not-well_formed,
      sym c.below.ensures ∙ c.if-not-below.false,
      sym c.is_empty.ensures ∙ c.if-is_empty.false,
      sym (next_is at.After-as_record-next),
      last at.After-is_empty-3 ∙ ap not c.if-is_empty-next.true,
    )

pub returns : goal.returns
unfolding after_writes after_stores after_remaps applied on_rebind rebind_fits record_of
returns c t = let at = goal.at.returns c in
    rw (
      judged at.Else-not-well_formed,
      sym c.below.ensures ∙ c.if-not-below.false,
      sym c.is_empty.ensures ∙ c.if-is_empty.false,
      sym (next_is at.After-as_record-next),
      last at.After-is_empty-3 ∙ ap not c.if-is_empty-next.false,
      c.store.ensures,
    )
