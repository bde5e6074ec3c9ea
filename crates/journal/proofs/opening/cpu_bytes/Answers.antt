-- `cpu_bytes` is the part of the bytes after the page counts.
-- Assumes nothing.
use native.Mathlib.Nat.{add-sub_cancel_left}
use native.Mathlib.Omega.{arith}
use Rattle.rules.specs.Journal.{part, machine_size, machine_in}
use Rattle.journal.proofs.MachineRecord.{head_in}
use Rattle.journal.proofs.opening.cpu_bytes.Goals as goal

pub byte_at-requires : goal.byte_at-requires
byte_at-requires c = omega (arith, head_in c.args.bytes.now c.requires)

pub byte_at-requires-2 : goal.byte_at-requires-2
byte_at-requires-2 c = omega (arith, head_in c.args.bytes.now c.requires)

pub slice_bounds-result-end : goal.slice_bounds-result-end
unfolding machine_size
slice_bounds-result-end c = omega arith

pub returns : goal.returns
unfolding machine_in part
returns c = rw (add-sub_cancel_left, c.byte_at.ensures.0, c.byte_at-2.ensures.0)
