-- `Job::fresh` gives the job of six zero words.
-- Assumes nothing.
use mathlib.Core.Path.{refl}
use Rattle.rules.specs.Records.{open_records}
use Rattle.records.specs.Jobs.{record_with, job_of}
use Rattle.records.proofs.job.Job.fresh.Goals as goal

pub returns : goal.returns
unfolding open_records record_with job_of
returns c = refl
