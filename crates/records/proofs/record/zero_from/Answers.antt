-- `zero_from` shifts the places before one out of its word.
-- Assumes nothing.
use native.Mathlib.Omega.{arith}
use Rattle.records.proofs.Shifts.{zero_low, zero_high, zero_past}
use Rattle.records.proofs.record.zero_from.Goals as goal

pub returns-then-from-lt8 : goal.returns-then-from-lt8
returns-then-from-lt8 c = zero_low c.args.low c.args.high c.args.from.0 (omega arith) (omega arith) (omega arith)

pub returns-then-from-lt-PLACES_PER_JOB : goal.returns-then-from-lt-PLACES_PER_JOB
returns-then-from-lt-PLACES_PER_JOB c = zero_high c.args.low c.args.high c.args.from.0 (omega arith) (omega arith) (omega arith)

pub returns : goal.returns
returns c = zero_past c.args.low c.args.high c.args.from.0 (omega arith)
