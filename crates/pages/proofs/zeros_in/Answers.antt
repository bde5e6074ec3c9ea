-- `zeros_in` meets its contract.
-- Assumes nothing.
use Rattle.std.proofs.Common.{arith}
use Rattle.pages.proofs.Zeros.{zeros_step, zeros_most}
use Rattle.pages.proofs.zeros_in.Goals as goal

pub overflow_add-count : goal.overflow_add-count
overflow_add-count c =
    record { fits = omega (arith, zeros_step c.args.block.now c.loop-byte.byte-index c.loop-byte-test.true, zeros_most c.args.block.now) }
