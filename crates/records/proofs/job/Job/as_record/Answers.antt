-- `Job::as_record` gives the record of a job.
-- Assumes nothing.
use mathlib.Core.Path.{sym}
use Rattle.records.specs.Jobs.{job_of}
use Rattle.records.proofs.job.Job.as_record.Goals as goal

pub returns-in-Default : goal.returns-in-Default
unfolding job_of
returns-in-Default c = rw c.in-Default.is c.with.ensures

pub returns-in-Preferred : goal.returns-in-Preferred
unfolding job_of
returns-in-Preferred c = rw (c.in-Preferred.is, sym c.from.ensures) c.with-in-Preferred.ensures

pub returns-in-Bind : goal.returns-in-Bind
unfolding job_of
returns-in-Bind c = rw (c.in-Bind.is, sym c.from-in-Bind.ensures) c.with-in-Bind.ensures

pub returns-in-Interleave : goal.returns-in-Interleave
unfolding job_of
returns-in-Interleave c = rw (c.in-Interleave.is, sym c.from-in-Interleave.ensures) c.with-in-Interleave.ensures

pub returns-in-List : goal.returns-in-List
unfolding job_of
returns-in-List c = rw c.in-List.is c.with-in-List.ensures

pub returns-in-Ring : goal.returns-in-Ring
unfolding job_of
returns-in-Ring c = rw c.in-Ring.is c.with-in-Ring.ensures

pub returns-in-Early : goal.returns-in-Early
unfolding job_of
returns-in-Early c = rw c.in-Early.is c.with-in-Early.ensures
