-- `store` writes the record of a job.
-- Assumes nothing.
use Prim.Native.Nat.{◌+◌, ◌*◌, ◌^◌}
use native.Mathlib.Numerals.{towards_suc}
use native.Mathlib.Omega.{arith}
use lib.Seq.{take_at, drop_at}
use Rattle.rules.specs.Records.{bytes_of, encode, put_record}
use Rattle.rules.proofs.Bytes.{bytes_length, from_bytes_lem}
use Rattle.records.specs.Jobs.{record_of}
use Rattle.records.proofs.Shifts.{joined}
use Rattle.records.proofs.table.store.Goals as goal

pub returns : goal.returns
unfolding record_of put_record encode
returns c = rw (
  c.head.ensures,
  joined c.args.new.rest (c.args.new.mode + c.args.new.flag * 2 ^ 8 + c.args.new.len * 2 ^ 16 + c.args.new.cursor * 2 ^ 24) 32 (omega arith) (omega arith),
  take_at (bytes_of 8 c.args.new.low) (bytes_of 8 c.args.new.high) 8 (bytes_length 8 c.args.new.low),
  drop_at (bytes_of 8 c.args.new.low) (bytes_of 8 c.args.new.high) 8 (bytes_length 8 c.args.new.low),
  from_bytes_lem 8 c.args.new.low (omega arith),
  from_bytes_lem 8 c.args.new.high (omega arith),
) (simp towards_suc)
