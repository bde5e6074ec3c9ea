-- `Record::no_masks` tests that a record has flag 0 and no masks.
-- Assumes nothing.
use Rattle.rules.specs.Records.{no_masks}
use Rattle.records.specs.Jobs.{record_of}
use Rattle.records.proofs.record.Record.no_masks.Goals as goal

pub returns : goal.returns
unfolding no_masks record_of
returns c = cc
