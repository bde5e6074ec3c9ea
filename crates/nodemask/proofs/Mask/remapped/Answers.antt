-- `Mask::remapped` meets its contract: the ranks are those in the old set, mod the size of the new one.
-- Assumes nothing.
use Prim.Native.Nat.{ℕ, ◌%◌}
use mathlib.Core.Path.{refl, ap, ◌∙◌}
use native.Mathlib.Nat.{lt_of_le_of_lt, lt_of_lt_of_le, mod-lt}
use native.Mathlib.Omega.{arith}
use Rattle.rules.specs.Masks.{rank, remapped, remapped_to}
use Rattle.rules.proofs.Masks.{size_pos, rank_le}
use Rattle.nodemask.specs.Ranks.{wrapped, ranks_in, ranked_in}
use Rattle.nodemask.proofs.RankLaws.{image_ranked, image_image}
use Rattle.nodemask.proofs.Mask.remapped.Goals as goal

pub wrapped-ranks-requires : goal.wrapped-ranks-requires
wrapped-ranks-requires c = (
  omega (arith, c.size.ensures, size_pos 64 c.args.new.0 c.requires (omega arith)),
  omega (arith, c.size.ensures, rank_le c.args.new.0 64),
)

pub returns : goal.returns
unfolding remapped wrapped ranks_in ranked_in
returns c = let pos = size_pos 64 c.args.new.0 c.requires (omega arith) in
    c.ranked.ensures
    ∙ ap (ranked_in c.args.new.0)
    (c.wrapped-ranks.ensures ∙ ap (λ (w : ℕ). wrapped w c.ranks_in.result.0) c.size.ensures
    ∙ ap (wrapped (rank c.args.new.0 64)) c.ranks_in.ensures
    ∙ image_image 64 c.args.self.0 (rank c.args.old.0) (λ b. b % rank c.args.new.0 64) (λ b l. lt_of_le_of_lt (rank_le c.args.old.0 b) l)
    (λ b. lt_of_lt_of_le (mod-lt b pos) (rank_le c.args.new.0 64)))
    ∙ image_ranked 64 c.args.self.0 (remapped_to 64 c.args.old.0 c.args.new.0) (rank c.args.old.0) c.args.new.0 c.requires (omega arith) (λ b. refl)

-- TODO open: nodemask::Mask::ranks_in nodemask::Mask::size nodemask::Ranks::wrapped nodemask::Mask::ranked
