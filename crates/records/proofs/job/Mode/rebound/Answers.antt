-- `Mode::rebound` carries a mode over to other allowed nodes.
-- Assumes nothing.
use mathlib.Core.Logic.{inl, inr}
use Rattle.rules.specs.Records.{rebound, effective_at_rebind}
use Rattle.rules.proofs.WellFormed.{remapped_none}
use Rattle.records.specs.Jobs.{record_with}
use Rattle.records.proofs.job.Mode.rebound.Goals as goal

pub returns-in-Default : goal.returns-in-Default
unfolding record_with rebound effective_at_rebind
returns-in-Default c ps =
    elim c.in-Default.is [
      | inl e ↦ rw (e, remapped_none)
      | inr (inl (_, e)) ↦ rw (e, remapped_none)
      | inr (inr (_, _, e)) ↦ rw (e, remapped_none)
    ]

pub returns-in-Ring : goal.returns-in-Ring
unfolding record_with rebound effective_at_rebind
returns-in-Ring c ps = rw (c.in-Ring.is, remapped_none)
