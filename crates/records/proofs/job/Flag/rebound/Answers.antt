-- `Flag::rebound` gives the masks of a rebind.
-- Assumes nothing.
use Rattle.rules.specs.Records.{rebound, effective_at_rebind}
use Rattle.records.specs.Jobs.{record_with}
use Rattle.records.proofs.job.Flag.rebound.Goals as goal

pub returns-in-Plain : goal.returns-in-Plain
unfolding record_with rebound effective_at_rebind
returns-in-Plain c = λ n k ps. rw (c.in-Plain.is, c.remapped.ensures)

pub returns-in-Static : goal.returns-in-Static
unfolding record_with rebound effective_at_rebind
returns-in-Static c = λ n k ps. rw (c.in-Static.is, c.both.ensures)

pub returns-in-Relative : goal.returns-in-Relative
unfolding record_with rebound effective_at_rebind
returns-in-Relative c = λ n k ps. rw (c.in-Relative.is, c.folded.ensures)
