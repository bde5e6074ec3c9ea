-- `Mask::folded` meets its contract: the ranks are those of the user's bits mod the size.
-- Assumes nothing.
use Prim.Native.Nat.{ℕ}
use mathlib.Core.Path.{refl, ap, ◌∙◌}
use native.Mathlib.Omega.{arith}
use Rattle.rules.specs.Masks.{folded, folded_to}
use Rattle.rules.proofs.Masks.{size_pos, rank_le}
use Rattle.nodemask.specs.Ranks.{wrapped, ranked_in}
use Rattle.nodemask.proofs.RankLaws.{image_ranked}
use Rattle.nodemask.proofs.Mask.folded.Goals as goal

pub wrapped-ranks-requires : goal.wrapped-ranks-requires
wrapped-ranks-requires c = (
  omega (arith, c.size.ensures, size_pos 64 c.args.allowed.0 c.requires (omega arith)),
  omega (arith, c.size.ensures, rank_le c.args.allowed.0 64),
)

pub returns : goal.returns
unfolding folded wrapped ranked_in
returns c = c.ranked.ensures
    ∙ ap (ranked_in c.args.allowed.0)
    (c.wrapped-ranks.ensures ∙ ap (wrapped c.size.result) c.of.ensures
    ∙ ap (λ (w : ℕ). wrapped w c.args.self.0) c.size.ensures)
    ∙ image_ranked 64 c.args.self.0 (folded_to 64 c.args.allowed.0) (λ b. b) c.args.allowed.0 c.requires (omega arith) (λ b. refl)

-- TODO open: nodemask::Mask::size nodemask::Ranks::wrapped nodemask::Mask::ranked
