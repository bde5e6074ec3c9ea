-- Laws of the free pages of a colour: which may be passed over, and which comes first.
-- Assumes nothing.
use Prim.Native.Nat.{ℕ, zero, suc, ◌+◌, ◌-◌, ◌%◌, ◌≤◌, ◌<◌, zero-le}
use mathlib.Core.Path.{◌≡◌, refl, ap, sym, ◌∙◌}
use mathlib.Core.Bool.{Bool, true, false, ◌&&◌, cond, false≢true}
use mathlib.Core.List.{List, [], ◌∷◌}
use mathlib.Core.Option.{Option, none, some}
use native.Mathlib.Nat.{add-zero, le_of_lt, lt_of_not-le}
use native.Mathlib.Numerals.{add-one}
use native.Mathlib.Omega.{arith}
use borrow.Author.Tests.{eqb-true, eq-eqb}
use lib.Dec.{eqb, eqb-suc-zero}
use lib.ListN.{length, get_or, drop, drop_of_length-le, get_or-eq_default}
use lib.Seq.{drop-cons}
use Rattle.rules.specs.Basics.{keep, first, from}
use Rattle.rules.proofs.Lists.{keep_keep, both_true, both_hold, fails, first_keep, first_member, from_member, member_from, entry_same}
use Rattle.rules.proofs.Sorted.{first_least}
use Rattle.pages.specs.FirstZero.{shift, first_zero}
use Rattle.pages.specs.Colours.{is_free, is_of, free_from, free_of}
use Rattle.pages.proofs.FirstZero.{shift_zero, shift_shift}

-- ---- the numbers of a run that pass a test

module _ (p : ℕ → Bool) where
  -- one that fails may be passed over, past the end too
  past_one : (a n : ℕ) → (a < n → p a ≡ false) → keep p (from a (n - a)) ≡ keep p (from (suc a) (n - suc a))
  unfolding keep from
  past_one a n h = go (n - a) refl
    where
      go : (m : ℕ) → n - a ≡ m → keep p (from a m) ≡ keep p (from (suc a) (n - suc a))
      go zero e = let z : n - suc a ≡ 0 = omega arith in rw z
      go (suc m) e = let z : n - suc a ≡ m = omega arith in rw (h (omega arith), z)

  -- and so may d of them
  past : (d a n : ℕ) → ((i : ℕ) → a ≤ i → i < a + d → i < n → p i ≡ false) → keep p (from a (n - a)) ≡ keep p (from (a + d) (n - (a + d)))
  past zero a n h = rw (add-zero a)
  past (suc d) a n h =
      let s : suc a + d ≡ a + suc d = omega arith in
      past_one a n (h a (omega arith) (omega arith)) ∙ past d (suc a) n (λ i s e u. h i (omega arith) (omega arith) u) ∙ rw s

  -- one that passes comes first
  here : (a n : ℕ) → a < n → p a ≡ true → first (keep p (from a (n - a))) ≡ some a
  unfolding first keep from
  here a n l h = let e : n - a ≡ suc (n - suc a) = omega arith in rw (e, h)

-- i is the lowest number from a on below n that passes
pub record Lowest (p : ℕ → Bool) (a n i : ℕ) : Type 0 where
  pub start : a ≤ i
  pub end : i < n
  pub passes : p i ≡ true
  pub least : (j : ℕ) → a ≤ j → j < n → p j ≡ true → i ≤ j

pub lowest : (p : ℕ → Bool) (a n i : ℕ) → first (keep p (from a (n - a))) ≡ some i → Lowest p a n i
lowest p a n i h =
    let f = first_keep p (from a (n - a)) h in
    let r = from_member a (n - a) (first_member f) in
    record {
      start = r.0;
      end = omega (arith, r.0, r.1);
      passes = f.passes;
      least = λ j s u t. first_least a (n - a) f j (member_from a (n - a) j s (omega arith)) t;
    }

-- ---- the free pages of a colour

-- free and of the colour
abbrev pub is_open : ℕ → List ℕ → ℕ → Bool
is_open c part i = is_free part i && is_of c i

pub of_open : (c a : ℕ) (part : List ℕ) → free_of c a part ≡ keep (is_open c part) (from a (length part - a))
unfolding free_of free_from
of_open c a part = keep_keep (is_free part) (is_of c) (from a (length part - a))

module _ (part : List ℕ) (j : ℕ) where
  pub free_there : j < length part → get_or part j 0 ≡ 0 → is_free part j ≡ true
  unfolding is_free
  free_there l z = eq-eqb (get_or part j 1) 0 (entry_same part j 1 0 l ∙ z)

  pub there_free : j < length part → is_free part j ≡ true → get_or part j 0 ≡ 0
  unfolding is_free
  there_free l t = entry_same part j 0 1 l ∙ eqb-true (get_or part j 1) 0 t

  pub open_there : (c : ℕ) → j < length part → get_or part j 0 ≡ 0 → j % 4 ≡ c → is_open c part j ≡ true
  unfolding is_of
  open_there c l z q = both_hold (free_there l z) (eq-eqb (j % 4) c q)

  -- what reading the byte says
  pub free_read : j < length part → eqb (get_or part j 0) 0 ≡ is_free part j
  unfolding is_free
  free_read l = ap (λ (x : ℕ). eqb x 0) (entry_same part j 0 1 l)

  pub free_past : length part ≤ j → false ≡ is_free part j
  unfolding is_free
  free_past l = ap (λ (x : ℕ). eqb x 0) (sym (get_or-eq_default part 1 l))

  -- a free page lies in the part
  pub free_in : is_free part j ≡ true → j < length part
  free_in t = lt_of_not-le (λ l. false≢true (free_past l ∙ t))

-- pages that are held or of another colour may be passed over
pub of_past : (c : ℕ) (part : List ℕ) (a b : ℕ) → a ≤ b
    → ((j : ℕ) → a ≤ j → j < b → j < length part → j % 4 ≡ c → get_or part j 0 ≡ 0 → ⊥) → free_of c a part ≡ free_of c b part
unfolding is_of
of_past c part a b l h =
    let s : a + (b - a) ≡ b = omega arith in
    of_open c a part ∙ rw s at (past (is_open c part) (b - a) a (length part) (λ j u e m. shut j u (omega arith) m)) ∙ sym (of_open c b part)
  where
    shut : (j : ℕ) → a ≤ j → j < b → j < length part → is_open c part j ≡ false
    shut j s e u =
        fails (λ t. let both = both_true {a = is_free part j} {b = is_of c j} t in
        h j s e u (eqb-true (j % 4) c both.1) (there_free part j u both.0))

-- from any index on, up to the next of the colour
pub of_next : (c : ℕ) (part : List ℕ) (a b : ℕ) → a ≤ b → b < a + 4 → b % 4 ≡ c → free_of c a part ≡ free_of c b part
of_next c part a b l m q = of_past c part a b l (λ j s t u r z. omega arith)

-- and the next after that is 4 further
pub of_stride : (c : ℕ) (part : List ℕ) (i : ℕ) → i % 4 ≡ c → (get_or part i 0 ≡ 0 → ⊥) → free_of c i part ≡ free_of c (i + 4) part
of_stride c part i m h = of_past c part i (i + 4) (omega arith) held
  where
    held : (j : ℕ) → i ≤ j → j < i + 4 → j < length part → j % 4 ≡ c → get_or part j 0 ≡ 0 → ⊥
    held j s t u q z = let e : i ≡ j = omega arith in h (rw e z)

-- a free page of the colour comes first
pub of_here : (c : ℕ) (part : List ℕ) (i : ℕ) → i < length part → i % 4 ≡ c → get_or part i 0 ≡ 0 → first (free_of c i part) ≡ some i
of_here c part i l q e = ap first (of_open c i part) ∙ here (is_open c part) i (length part) l (open_there part i c l e q)

-- past the end there is none
pub of_end : (c : ℕ) (part : List ℕ) (i : ℕ) → length part ≤ i → free_of c i part ≡ []
unfolding free_of free_from keep from
of_end c part i l = let z : length part - i ≡ 0 = omega arith in rw z

-- ---- the search with no colour

zero_in : (part : List ℕ) (k a : ℕ) → a + k ≡ length part → shift a (first_zero (drop a part)) ≡ first (keep (is_free part) (from a k))
unfolding keep first from is_free
zero_in part zero a h = let l : length part ≤ a = omega arith in rw (drop_of_length-le part l)
zero_in part (suc k) a h = rw (drop-cons part a 1 (omega arith)) (go (get_or part a 1) (zero_in part k (suc a) (omega arith)))
  where
    rest : List ℕ
    rest = keep (is_free part) (from (suc a) k)

    go : (x : ℕ) → shift (suc a) (first_zero (drop (suc a) part)) ≡ first rest
        → shift a (first_zero (x ∷ drop (suc a) part)) ≡ first (cond (eqb x 0) (a ∷ rest) rest)
    go zero ih = ap {B = Option ℕ} some (add-zero a)
    go (suc x) ih = rw (eqb-suc-zero x, shift_shift, add-one) ih

-- the lowest zero byte from a on is the first free page from there on
pub zero_found : (part : List ℕ) (a : ℕ) → a ≤ length part → shift a (first_zero (drop a part)) ≡ first (free_from a part)
unfolding free_from
zero_found part a l = zero_in part (length part - a) a (omega arith)

-- a free page is the lowest from its index on
pub zero_here : (part : List ℕ) (i : ℕ) → is_free part i ≡ true → shift i (first_zero (drop i part)) ≡ some i
unfolding free_from
zero_here part i t = let l = free_in part i t in zero_found part i (le_of_lt l) ∙ here (is_free part) i (length part) l t

pub zero_whole : (part : List ℕ) → first_zero part ≡ first (free_from 0 part)
zero_whole part = sym (shift_zero (first_zero part)) ∙ zero_found part 0 zero-le

pub none_empty : (xs : List ℕ) → first xs ≡ none → xs ≡ []
unfolding first
none_empty [] e = refl
none_empty (x ∷ xs) e = absurd (let z : ◌≡◌ {A = ℕ} 0 1 = cc in omega arith)
