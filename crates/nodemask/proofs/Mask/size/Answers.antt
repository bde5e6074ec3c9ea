-- `Mask::size` meets its contract: the ones of a mask are its size.
-- Assumes nothing.
use native.Mathlib.Omega.{arith}
use Rattle.rules.proofs.Masks.{ones_size}
use Rattle.nodemask.proofs.Mask.size.Goals as goal

pub returns : goal.returns
returns c = ones_size 64 c.args.self.0 (omega arith)
