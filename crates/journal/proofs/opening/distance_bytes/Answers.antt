-- `distance_bytes` is the part of the bytes after the CPU bytes.
-- Assumes nothing.
use native.Mathlib.Nat.{add-sub_cancel_left}
use native.Mathlib.Omega.{arith}
use Rattle.rules.specs.Journal.{part, machine_size, machine_in}
use Rattle.journal.proofs.MachineRecord.{head_in}
use Rattle.journal.proofs.opening.distance_bytes.Goals as goal

pub byte_at-n-requires : goal.byte_at-n-requires
byte_at-n-requires c = omega (arith, head_in c.args.bytes.now c.requires)

pub byte_at-requires : goal.byte_at-requires
byte_at-requires c = omega (arith, head_in c.args.bytes.now c.requires)

pub slice_bounds-result-end : goal.slice_bounds-result-end
unfolding machine_size
slice_bounds-result-end c = rw c.byte_at-n.ensures.0 (omega arith)

pub returns : goal.returns
unfolding machine_in part
returns c = rw (add-sub_cancel_left, c.byte_at-n.ensures.0, c.byte_at.ensures.0)
