-- `Mask::rank` meets its contract: the ones of `m & ((1 << n) - 1)` are the rank of n.
-- Assumes nothing.
use mathlib.Core.Path.{ap, ◌∙◌}
use Prim.Native.Nat.{ℕ, ◌-◌}
use lib.Bits.{bit_and}
use lib.Count.{ones}
use Rattle.rules.proofs.Masks.{one_shifted, ones_rank}
use Rattle.nodemask.proofs.Mask.rank.Goals as goal

pub returns : goal.returns
returns c = ap (λ (x : ℕ). ones (bit_and c.args.self.0 (x - 1))) (one_shifted 64 c.args.node.0 c.requires) ∙ ones_rank c.args.self.0 c.args.node.0
