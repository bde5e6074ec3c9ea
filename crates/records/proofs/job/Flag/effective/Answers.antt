-- `Flag::effective` gives the effective mask of an install.
-- Assumes nothing.
use mathlib.Core.Logic.{inl, inr}
use Rattle.rules.specs.Records.{effective_at_install}
use Rattle.records.proofs.job.Flag.effective.Goals as goal

pub returns-in-Plain : goal.returns-in-Plain
unfolding effective_at_install
returns-in-Plain c = elim c.in-Plain.is [ inl e ↦ rw e c.both.ensures | inr e ↦ rw e c.both.ensures ]

pub returns-in-Relative : goal.returns-in-Relative
unfolding effective_at_install
returns-in-Relative c = rw c.in-Relative.is c.folded.ensures
