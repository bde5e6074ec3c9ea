-- `lowest_zero` meets its contract. The loop's invariant: the lower of what was found and what is still to come is the answer.
-- Assumes nothing.
use Rattle.std.proofs.Common.{refl, arith}
use Rattle.pages.proofs.FirstZero.{end_le}
use Rattle.pages.proofs.lowest_zero.Goals as goal

pub loop-i-init : goal.loop-i-init
loop-i-init c = (refl, omega arith, omega (arith, end_le c.args.block.now))
