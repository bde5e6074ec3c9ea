-- `Record::job` gives the job that a well-formed record holds.
-- Assumes nothing.
use Rattle.rules.proofs.WellFormed.{formed, rest_zero}
use Rattle.records.specs.Jobs.{record_with, job_of, record_of}
use Rattle.records.proofs.record.Record.job.Goals as goal

pub returns : goal.returns
unfolding job_of record_with record_of
returns c n w = rw (c.of.ensures n w, c.unpack.ensures, rest_zero n _ (formed n _ w))
