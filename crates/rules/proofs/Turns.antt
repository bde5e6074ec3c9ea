-- The turn of interleave: the first node of a mask from a number on, once round, over the number of bits.
-- Assumes nothing.
use Prim.Native.Nat.{ℕ, zero, suc, ◌+◌, ◌-◌, ◌/◌, ◌%◌, ◌^◌, ◌≤◌, ◌<◌}
use mathlib.Core.Path.{◌≡◌, refl, sym, ap, ap₂, subst, ◌∙◌}
use mathlib.Core.Logic.{◌↔◌}
use mathlib.Core.Bool.{true, false, false≢true}
use mathlib.Core.Option.{Option, none, some, or_else}
use mathlib.Core.List.Memᴰ
use mathlib.Core.List.{List, [], ◌∷◌, ◌++◌}
use native.Mathlib.Nat.{add-zero, zero-add, add-suc, suc-add, add-mod_left, mod-eq_of_lt, div-one, le_antisymm, le_of_suc-le-suc, lt_of_not-le}
use native.Mathlib.Nat.{lt_of_lt_of_le}
use native.Mathlib.Decide.{dec_le}
use native.Mathlib.Omega.{arith}
use lib.Count.{count_trailing_zeros}
use lib.Pow.{pow_mono}
use borrow.Author.Tests.{eqb-true, eq-eqb}
use Rattle.rules.specs.Basics.{keep, first, from, around}
use Rattle.rules.specs.Masks.{bit, has}
use Rattle.rules.proofs.Lists.{◌∈◌, from_member, member_from, keep_append, any_false, none_any, first_keep, first_member, first_none}
use Rattle.rules.proofs.Sorted.{first_least}
use Rattle.rules.proofs.Masks.{bit_above, not_in, none_in, none_from, rank_mono, rank_lt, trailing_from}

-- "the target t is the lowest effective node above the last target, else the lowest effective one"
abbrev pub turn_of : ℕ → ℕ → ℕ → Option ℕ
turn_of w m c = first (keep (has m) (around w c w))

-- ---- the lowest node from a number on

-- the lowest of the nodes c, c + 1, .. below w that are in the mask, if there is one
abbrev pub lowest_from : ℕ → ℕ → ℕ → Option ℕ
lowest_from w m c = first (keep (has m) (from c (w - c)))

-- n is the lowest node of the mask from c on
pub record LowestFrom (w m c n : ℕ) : Type 0 where
  pub member : has m n ≡ true
  pub start : c ≤ n
  pub small : n < w
  pub lowest : (q : ℕ) → has m q ≡ true → c ≤ q → q < w → n ≤ q

-- the numbers from c on below w are those that lowest_from looks at
listed : (w c q : ℕ) → c ≤ q → q < w → q ∈ from c (w - c)
listed w c q h l = member_from c (w - c) q h (omega arith)

-- lowest_from finds the lowest
pub lowest_from_lem : (w m c : ℕ) {n : ℕ} → lowest_from w m c ≡ some n → LowestFrom w m c n
lowest_from_lem w m c e =
    let f = first_keep (has m) (from c (w - c)) e in
    let r = from_member c (w - c) (first_member f) in
    record {
      member = f.passes;
      start = r.0;
      small = omega (arith, r.1);
      lowest = λ q h s l. first_least c (w - c) f q (listed w c q s l) h;
    }

-- and finds none exactly where the mask has no node from c on
pub lowest_none : (w m c : ℕ) → (lowest_from w m c ≡ none) ↔ ((q : ℕ) → c ≤ q → q < w → has m q ≡ false)
lowest_none w m c =
    let r = first_none (has m) (from c (w - c)) in (
      λ e q h l. any_false (has m) (r.0 e) (listed w c q h l),
      λ f. r.1 (none_any (has m) (from c (w - c)) (λ q i. let b = from_member c (w - c) i in f q b.0 (omega (arith, b.1)))),
    )

-- the lowest is what lowest_from finds
pub from_lowest : (w m c : ℕ) {n : ℕ} → LowestFrom w m c n → lowest_from w m c ≡ some n
from_lowest w m c {n} l = go (lowest_from w m c) refl
  where
    go : (o : Option ℕ) → lowest_from w m c ≡ o → o ≡ some n
    go none e = absurd (false≢true (sym ((lowest_none w m c).0 e n l.start l.small) ∙ l.member))
    go (some k) e =
        let f = lowest_from_lem w m c e in
        ap some (le_antisymm (f.lowest n l.member l.start l.small) (l.lowest k f.member f.start f.small))

-- `trailing_zeros` leads to the lowest node from c on
pub trailing_lowest : (w m c : ℕ) → m < 2 ^ w → 0 < m / 2 ^ c → LowestFrom w m c (c + count_trailing_zeros w (m / 2 ^ c))
trailing_lowest w m c h p =
    let t = trailing_from w m c h p in
    record {
      member = eq-eqb _ 1 t.member;
      start = omega arith;
      small = t.small;
      lowest = λ q i s l.
          le_of_suc-le-suc (lt_of_not-le (λ j. omega (arith, rank_mono m s, rank_lt m j (eqb-true (bit m q) 1 i), t.ranked)));
    }

-- ---- the walk round w numbers from c on

-- a walk of k + l steps is one of k steps and then one of l
around_append : (w c k l : ℕ) → around w c (k + l) ≡ around w c k ++ around w (c + k) l
unfolding around
around_append w c zero l = rw (zero-add l, add-zero c)
around_append w c (suc k) l =
    ap (around w c) (suc-add k l)
    ∙ ap (λ (xs : List ℕ). c % w ∷ xs) (around_append w (suc c) k l ∙ ap (λ (x : ℕ). around w (suc c) k ++ around w x l) (omega arith))

-- up to w a walk just counts
around_plain : (w c k : ℕ) → c + k ≤ w → around w c k ≡ from c k
unfolding around from
around_plain w c zero h = refl
around_plain w c (suc k) h =
    ap₂ (λ (x : ℕ) (xs : List ℕ). x ∷ xs) (mod-eq_of_lt (omega arith)) (around_plain w (suc c) k (omega arith))

-- w numbers on it is where it was
around_again : (w c k : ℕ) → around w (w + c) k ≡ around w c k
unfolding around
around_again w c zero = refl
around_again w c (suc k) =
    ap₂ (λ (x : ℕ) (xs : List ℕ). x ∷ xs)
    (add-mod_left w c)
    (ap (λ (x : ℕ). around w x k) (sym (add-suc w c)) ∙ around_again w (suc c) k)

-- the first of two lists end to end is that of the first list, else that of the second
first_append : (xs ys : List ℕ) → first (xs ++ ys) ≡ or_else (first xs) (first ys)
unfolding first or_else
first_append [] ys = refl
first_append (x ∷ xs) ys = refl

-- what failed once may be asked again
else_again : (a b : Option ℕ) → or_else a b ≡ or_else a (or_else b a)
unfolding or_else
else_again none none = refl
else_again none (some y) = refl
else_again (some x) b = refl

module _ (w m c : ℕ) (h : c ≤ w) where
  -- once round from c on: from c to the end, then from 0 up to c
  once_round : around w c w ≡ from c (w - c) ++ from 0 c
  once_round =
      let again = ap (λ (x : ℕ). around w x c) (let e : c + (w - c) ≡ w + 0 = omega arith in e) ∙ around_again w 0 c in
      ap (around w c) (let e : w ≡ (w - c) + c = omega arith in e) ∙ around_append w c (w - c) c
      ∙ ap₂ (λ (xs ys : List ℕ). xs ++ ys) (around_plain w c (w - c) (omega arith)) (again ∙ around_plain w 0 c (omega arith))

  -- so it comes to each number
  pub all_round : (p : ℕ) → p < w → p ∈ around w c w
  all_round p l = subst (λ (xs : List ℕ). p ∈ xs) (sym once_round) (go (dec_le c p))
    where
      go : Dec (c ≤ p) → p ∈ (from c (w - c) ++ from 0 c)
      go (yes k) = Memᴰ.append_left (from 0 c) (listed w c p k l)
      go (no k) = Memᴰ.append_right (from c (w - c)) (member_from 0 c p (omega arith) (omega arith))

  -- all numbers: from 0 up to c, then from c to the end
  all_in_two : from 0 (w - 0) ≡ from 0 c ++ from c (w - c)
  all_in_two =
      let e : w - 0 ≡ c + (w - c) = omega arith in
      let on = ap (λ (x : ℕ). around w x (w - c)) (zero-add c) ∙ around_plain w c (w - c) (omega arith) in
      sym (around_plain w 0 (w - 0) (omega arith)) ∙ ap (around w 0) e ∙ around_append w 0 c (w - c)
      ∙ ap₂ (λ (xs ys : List ℕ). xs ++ ys) (around_plain w 0 c (omega arith)) on

  -- the first node of the mask on a walk round from c is the lowest from c on, else the lowest
  pub turn_lowest : turn_of w m c ≡ or_else (lowest_from w m c) (lowest_from w m 0)
  turn_lowest =
      ap lowest_of once_round ∙ in_two (from c (w - c)) (from 0 c) ∙ else_again (lowest_from w m c) (lowest_of (from 0 c))
      ∙ ap (or_else (lowest_from w m c)) (sym (ap lowest_of all_in_two ∙ in_two (from 0 c) (from c (w - c))))
    where
      lowest_of : List ℕ → Option ℕ
      lowest_of xs = first (keep (has m) xs)

      in_two : (xs ys : List ℕ) → lowest_of (xs ++ ys) ≡ or_else (lowest_of xs) (lowest_of ys)
      in_two xs ys = ap first (keep_append (has m) xs ys) ∙ first_append (keep (has m) xs) (keep (has m) ys)

-- ---- the turn as the code finds it

-- there is a node at c or above: the lowest of them
pub turn_above : (w m c : ℕ) → m < 2 ^ w → 0 < m / 2 ^ c → turn_of w m c ≡ some (c + count_trailing_zeros w (m / 2 ^ c))
unfolding or_else
turn_above w m c h p =
    let l = trailing_lowest w m c h p in
    turn_lowest w m c (omega (arith, l.small)) ∙ ap (λ (o : Option ℕ). or_else o (lowest_from w m 0)) (from_lowest w m c l)

-- there is none at c or above, but some below: the lowest of all
pub turn_round : (w m c : ℕ) → c ≤ w → m / 2 ^ c ≡ 0 → 0 < m → turn_of w m c ≡ some (count_trailing_zeros w m)
unfolding or_else
turn_round w m c l z p =
    let under : m < 2 ^ c = none_from m c z in
    let low : lowest_from w m 0 ≡ some (count_trailing_zeros w m) =
    rw (div-one m, zero-add (count_trailing_zeros w m)) at (from_lowest w m 0 (trailing_lowest w m 0 (lt_of_lt_of_le under (pow_mono l)) (omega arith))) in
    turn_lowest w m c l ∙ ap₂ or_else ((lowest_none w m c).1 (λ q s i. not_in m q (bit_above c m q under s))) low

-- an empty mask has no target
pub turn_none : (w c : ℕ) → turn_of w 0 c ≡ none
turn_none w c = (first_none (has 0) (around w c w)).1 (none_any (has 0) (around w c w) (λ n i. none_in n))
