-- `Row::of` is the table of modes.
-- Assumes nothing.
use Prim.Native.Nat.{zero-le}
use Rattle.rules.specs.Records.{row_of}
use Rattle.records.proofs.Numbers.{past, unknown_mode}
use Rattle.records.proofs.record.Row.of.Goals as goal

pub returns-in_default : goal.returns-in_default
unfolding row_of
returns-in_default c =
    let r = c.in_default.in_default-own.rest in
    let above-2 = past (past (past zero-le r.0.0.0.0.0.0.1) r.0.0.0.0.0.1) r.0.0.0.0.1 in
    let above-6 = past (past (past (past above-2 r.0.0.0.1) r.0.0.1) r.0.1) r.1 in
    rw (unknown_mode c.args.mode above-6)

pub returns-in-0 : goal.returns-in-0
unfolding row_of
returns-in-0 c = rw c.in-0.is

pub returns-in-1 : goal.returns-in-1
unfolding row_of
returns-in-1 c = rw c.in-1.is

pub returns-in-2 : goal.returns-in-2
unfolding row_of
returns-in-2 c = rw c.in-2.is

pub returns-in-3 : goal.returns-in-3
unfolding row_of
returns-in-3 c = rw c.in-3.is

pub returns-in-4 : goal.returns-in-4
unfolding row_of
returns-in-4 c = rw c.in-4.is

pub returns-in-5 : goal.returns-in-5
unfolding row_of
returns-in-5 c = rw c.in-5.is

pub returns-in-6 : goal.returns-in-6
unfolding row_of
returns-in-6 c = rw c.in-6.is
