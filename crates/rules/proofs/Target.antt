-- Interleave's target in document 01's own words.
-- Assumes nothing.
use Prim.Native.Nat.{ℕ, ◌^◌, ◌≤◌, ◌<◌, zero-le}
use mathlib.Core.Path.{◌≡◌, sym, ◌∙◌}
use mathlib.Core.Logic.{◌↔◌, ◌⊎◌, inl, inr, ⊎_elim}
use mathlib.Core.Bool.{true, false, false≢true}
use mathlib.Core.Option.{none, some, or_else}
use mathlib.Mathlib.Data.Option.Basic.{or_else-eq-some, or_else-eq-none}
use native.Mathlib.Nat.{lt_of_lt_of_le}
use native.Mathlib.Decide.{ℕ_discrete}
use native.Mathlib.Omega.{arith}
use borrow.Author.Tests.{eq-eqb}
use lib.Pow.{pow_mono}
use Rattle.rules.specs.Masks.{most_nodes, has, lowest}
use Rattle.rules.specs.Records.{Record, row_of, cursor_limit, well_formed}
use Rattle.rules.specs.SearchOrder.{target}
use Rattle.rules.proofs.Masks.{select_is, size_pos}
use Rattle.rules.proofs.Turns.{lowest_from, LowestFrom, lowest_from_lem, lowest_none, turn_lowest}
use Rattle.rules.proofs.WellFormed.{formed}

-- "the target t is the lowest effective node above the last target, else the lowest effective one". "The cursor is the last target node
-- ..; its field holds that plus 1, or 0 for none yet": the nodes above the last target are those from the cursor field on.
module _ (effective cursor : ℕ) (h : cursor ≤ most_nodes) where
  pub target_lowest : target effective cursor ≡ or_else (lowest_from most_nodes effective cursor) (lowest_from most_nodes effective 0)
  unfolding target
  target_lowest = turn_lowest most_nodes effective cursor h

  -- the same in words: a target is the lowest effective node from the cursor field on; or there is none there, and it is the lowest effective
  pub target_is : {t : ℕ} → target effective cursor ≡ some t
      → LowestFrom most_nodes effective cursor t
      ⊎ (((q : ℕ) → cursor ≤ q → q < most_nodes → has effective q ≡ false) × LowestFrom most_nodes effective 0 t)
  target_is {t} e =
      ⊎_elim
      (λ a. inl (lowest_from_lem most_nodes effective cursor a))
      (λ b. inr ((lowest_none most_nodes effective cursor).0 b.0, lowest_from_lem most_nodes effective 0 b.1))
      ((or_else-eq-some (lowest_from most_nodes effective cursor) (lowest_from most_nodes effective 0) t).0 (sym target_lowest ∙ e))

  -- "with an empty effective set it has no target": there is none exactly where no node is effective
  pub target_none : (target effective cursor ≡ none) ↔ ((q : ℕ) → q < most_nodes → has effective q ≡ false)
  target_none =
      let r = or_else-eq-none (lowest_from most_nodes effective cursor) (lowest_from most_nodes effective 0) in (
        λ e q l. (lowest_none most_nodes effective 0).0 (r.0 (sym target_lowest ∙ e)).1 q zero-le l,
        λ f. target_lowest ∙ r.1 ((lowest_none most_nodes effective cursor).1 (λ q s l. f q l), (lowest_none most_nodes effective 0).1 (λ q s l. f q l)),
      )

-- "the cursor field is at most N in mode 3"
pub cursor_in_mask : (n : ℕ) (r : Record) → n ≤ most_nodes → well_formed n r ≡ true → r.mode ≡ 3 → r.turn.cursor ≤ most_nodes
unfolding cursor_limit row_of
cursor_in_mask n r few w three = let l : r.turn.cursor ≤ n = rw three at (formed n r w).cursor_within in omega arith

-- of a mask below N that is not empty there is a target
pub no_target : (n e c : ℕ) → n ≤ most_nodes → e < 2 ^ n → c ≤ n → target e c ≡ none → e ≡ 0
no_target n e c few l k q = go (ℕ_discrete e 0)
  where
    go : Dec (e ≡ 0) → e ≡ 0
    go (yes z) = z
    go (no d) =
        let low = select_is most_nodes e 0 (size_pos most_nodes e (omega arith) (lt_of_lt_of_le l (pow_mono few))) in
        absurd (false≢true (sym ((target_none e c (omega arith)).0 q (lowest most_nodes e) low.small) ∙ eq-eqb _ 1 low.member))
