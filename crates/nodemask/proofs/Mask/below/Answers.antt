-- `Mask::below` meets its contract: what is shifted out at n is nothing, and 64 bits lie below each n from 64 on.
-- Assumes nothing.
use mathlib.Core.Path.{sym}
use native.Mathlib.Omega.{arith}
use Rattle.rules.proofs.Masks.{shifted_out, below_wide}
use Rattle.nodemask.proofs.Mask.below.Goals as goal

pub returns-then-n-lt-MOST_NODES : goal.returns-then-n-lt-MOST_NODES
returns-then-n-lt-MOST_NODES c = shifted_out c.args.self.0 c.args.n

pub returns : goal.returns
returns c = sym (below_wide 64 c.args.self.0 c.args.n (omega arith) (omega arith))
