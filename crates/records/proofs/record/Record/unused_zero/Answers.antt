-- `Record::unused_zero` tests that unused bits and places are zero.
-- Assumes nothing.
use Rattle.rules.specs.Records.{unused_zero}
use Rattle.records.specs.Jobs.{record_of}
use Rattle.records.proofs.record.Record.unused_zero.Goals as goal

pub returns : goal.returns
unfolding unused_zero record_of
returns c = cc
