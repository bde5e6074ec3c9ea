-- `mask_of` meets its contract.
-- Assumes nothing.
use Rattle.std.proofs.Common.{arith}
use Rattle.pages.proofs.Masked.{shaded_all}
use Rattle.pages.proofs.mask_of.Goals as goal

pub returns : goal.returns
returns c = shaded_all c.args.colour c.loop-i.byte-items (λ k h q. c.loop-i.invariant k (omega (arith, h)) q)
