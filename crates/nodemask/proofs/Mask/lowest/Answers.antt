-- `Mask::lowest` meets its contract: the trailing zeros are the node of rank 0.
-- Assumes nothing.
use native.Mathlib.Omega.{arith}
use Rattle.rules.proofs.Masks.{trailing_select}
use Rattle.nodemask.proofs.Mask.lowest.Goals as goal

pub returns : goal.returns
returns c = trailing_select 64 c.args.self.0 c.requires (omega arith)
