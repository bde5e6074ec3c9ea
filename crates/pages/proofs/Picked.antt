-- M-105's laws: a page is found exactly when the part has a free page; the page found is free, it is the lowest free one of the colour
-- where there is one, and the lowest free one where there is none.
-- Assumes nothing.
use Prim.Native.Nat.{ℕ, ◌-◌, ◌%◌, ◌≤◌, ◌<◌, zero-le}
use mathlib.Core.Path.{◌≡◌, refl, ap, sym, subst, ◌∙◌}
use mathlib.Core.Logic.{◌↔◌}
use mathlib.Core.List.Memᴰ
use mathlib.Core.List.{List, [], ◌∷◌, ◌++◌}
use mathlib.Core.Option.{none, some}
use native.Mathlib.Omega.{arith}
use borrow.Author.Tests.{eqb-true}
use lib.ListN.{length, get_or}
use Rattle.rules.specs.Basics.{keep, first}
use Rattle.rules.proofs.Lists.{◌∈◌, both_true, member_keep, member_from}
use Rattle.pages.specs.FirstZero.{first_zero}
use Rattle.pages.specs.Colours.{is_free, is_of, free_from, free_of, pick_of}
use Rattle.pages.proofs.Colours.{lowest, is_open, of_open, free_there, there_free, open_there, zero_whole, none_empty}

-- what the page picked is
pub record Picked (c : ℕ) (part : List ℕ) (i : ℕ) : Type 0 where
  pub inside : i < length part
  pub free : get_or part i 0 ≡ 0
  -- where a free page of the colour exists, the page is the lowest of them
  pub coloured : (j : ℕ) → j < length part → get_or part j 0 ≡ 0 → j % 4 ≡ c → (i % 4 ≡ c) × (i ≤ j)
  -- a page of another colour is the lowest free one
  pub other : (i % 4 ≡ c → ⊥) → (j : ℕ) → j < length part → get_or part j 0 ≡ 0 → i ≤ j

module _ (c : ℕ) (part : List ℕ) (i : ℕ) where
  picked_open : first (free_of c 0 part) ≡ some i → Picked c part i
  unfolding is_of
  picked_open h =
      let w = lowest (is_open c part) 0 (length part) i (ap first (sym (of_open c 0 part)) ∙ h) in
      let both = both_true {a = is_free part i} {b = is_of c i} w.passes in
      let q : i % 4 ≡ c = eqb-true (i % 4) c both.1 in
      record {
        inside = w.end;
        free = there_free part i w.end both.0;
        coloured = λ j l z o. (q, w.least j zero-le l (open_there part j c l z o));
        other = λ o. absurd (o q);
      }

  picked_any : free_of c 0 part ≡ [] → first (free_from 0 part) ≡ some i → Picked c part i
  unfolding free_from
  picked_any e h =
      let w = lowest (is_free part) 0 (length part) i h in
      record {
        inside = w.end;
        free = there_free part i w.end w.passes;
        coloured = λ j l z o.
            absurd
            (Memᴰ.not-nil
            (subst (λ (xs : List ℕ). j ∈ xs) (sym (of_open c 0 part) ∙ e)
            (member_keep (is_open c part) (member_from 0 (length part - 0) j zero-le (omega arith)) (open_there part j c l z o))));
        other = λ o j l z. w.least j zero-le l (free_there part j l z);
      }

  -- the page picked is free, and of the colour wherever a free page of the colour exists
  pub picked : pick_of c part ≡ some i → Picked c part i
  unfolding pick_of first
  picked e = go (free_of c 0 part) refl e
    where
      go : (xs : List ℕ) → free_of c 0 part ≡ xs → first (xs ++ free_from 0 part) ≡ some i → Picked c part i
      go [] n h = picked_any n h
      go (x ∷ xs) n h = picked_open (ap first n ∙ h)

  -- it lies in the part
  pub pick_within : pick_of c part ≡ some i → i < length part
  pick_within e = (picked e).inside

-- ---- when a page is found

append_empty : (xs ys : List ℕ) → first (xs ++ ys) ≡ none → ys ≡ []
unfolding first
append_empty [] ys e = none_empty ys e
append_empty (x ∷ xs) ys e = absurd (let z : ◌≡◌ {A = ℕ} 0 1 = cc in omega arith)

-- a page is found exactly when the part has a free page, whatever the colour
pub pick_none : (c : ℕ) (part : List ℕ) → (pick_of c part ≡ none) ↔ (free_from 0 part ≡ [])
unfolding pick_of free_of keep first
pick_none c part = (append_empty (free_of c 0 part) (free_from 0 part), λ e. rw e)

-- so none is found exactly where the search with no colour finds none
pub none_same : (c : ℕ) (part : List ℕ) → (pick_of c part ≡ none) ↔ (first_zero part ≡ none)
unfolding first
none_same c part = (
  λ e. zero_whole part ∙ rw ((pick_none c part).0 e),
  λ e. (pick_none c part).1 (none_empty (free_from 0 part) (sym (zero_whole part) ∙ e)),
)
