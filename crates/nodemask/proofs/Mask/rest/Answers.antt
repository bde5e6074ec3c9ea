-- `Mask::rest` meets its contract.
-- Assumes nothing.
use Prim.Native.Nat.{ℕ, ◌^◌}
use mathlib.Core.Path.{ap}
use native.Mathlib.Omega.{arith}
use Rattle.rules.proofs.Masks.{trailing_select}
use Rattle.nodemask.proofs.RankLaws.{lowest_off}
use Rattle.nodemask.proofs.Mask.rest.Goals as goal

pub returns : goal.returns
returns c = omega (
  arith,
  lowest_off 64 c.args.self.0 c.requires (omega arith),
  ap (λ (k : ℕ). 2 ^ k) (trailing_select 64 c.args.self.0 c.requires (omega arith)),
)
