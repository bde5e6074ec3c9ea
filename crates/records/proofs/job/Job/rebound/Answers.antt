-- `Job::rebound` replaces the allowed mask.
-- Assumes nothing.
use Rattle.records.specs.Jobs.{job_of}
use Rattle.records.proofs.job.Job.rebound.Goals as goal

pub returns : goal.returns
unfolding job_of
returns c = c.rebound-mode.ensures _
