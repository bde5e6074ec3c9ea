-- `Mask::has` meets its contract: `m & (1 << n)` is bit n, in its place, and there is none from 64 on.
-- Assumes nothing.
use mathlib.Core.Path.{ap, sym, ◌∙◌}
use mathlib.Core.Bool.{not}
use Prim.Native.Nat.{ℕ}
use native.Mathlib.Omega.{arith}
use lib.Bits.{bit_and}
use lib.Dec.{eqb}
use Rattle.rules.proofs.Masks.{one_shifted, and_one_test, bit_above}
use Rattle.nodemask.proofs.Mask.has.Goals as goal

pub returns-then-node-lt-MOST_NODES : goal.returns-then-node-lt-MOST_NODES
returns-then-node-lt-MOST_NODES c = ap (λ (x : ℕ). not (eqb (bit_and c.args.self.0 x) 0)) (one_shifted 64 c.args.node.0 (omega arith)) ∙ and_one_test
    c.args.self.0 c.args.node.0

pub returns : goal.returns
returns c = ap (λ (x : ℕ). eqb x 1) (sym (bit_above 64 c.args.self.0 c.args.node.0 (omega arith) (omega arith)))
