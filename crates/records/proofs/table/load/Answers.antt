-- `load` reads the record of a job.
-- Assumes nothing.
use native.Mathlib.Nat.{add-sub_cancel_left, div-one}
use Rattle.rules.specs.Records.{decode, record_at}
use Rattle.records.specs.Jobs.{record_of}
use Rattle.records.proofs.table.load.Goals as goal

pub returns : goal.returns
unfolding record_of record_at decode
returns c = rw (c.byte.ensures, c.byte-2.ensures, c.byte-3.ensures, c.byte-4.ensures, add-sub_cancel_left, div-one)
