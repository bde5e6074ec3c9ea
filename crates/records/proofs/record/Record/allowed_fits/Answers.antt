-- `Record::allowed_fits` tests the allowed mask.
-- Assumes nothing.
use Rattle.rules.specs.Records.{allowed_fits}
use Rattle.records.specs.Jobs.{record_of}
use Rattle.records.proofs.record.Record.allowed_fits.Goals as goal

pub returns : goal.returns
unfolding allowed_fits record_of
returns c = cc
