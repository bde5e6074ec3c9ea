-- The counting core of fair turns: a cursor that walks round L positions, from one past the last.
-- Assumes nothing.
use Prim.Native.Nat.{ℕ, zero, suc, ◌+◌, ◌-◌, ◌*◌, ◌%◌, ◌≤◌, ◌<◌}
use mathlib.Core.Path.{◌≡◌, refl, sym, ap, ◌∙◌}
use mathlib.Core.Bool.{Bool, cond}
use mathlib.Core.List.{List, [], ◌∷◌}
use native.Mathlib.Nat.{add-zero, add-suc, zero-add, suc-add, add-mod_right, mod-add-mod, suc-mod, add-sub_of_le, zero-mul, suc-mul, add_assoc}
use native.Mathlib.Nat.{mod-eq_of_lt}
use native.Mathlib.Omega.{arith}
use native.Mathlib.Decide.{dec_le, dec_lt}
use borrow.Author.Tests.{eq-eqb, ne_eqb}
use lib.ListN.{length}
use lib.Dec.{eqb}

-- ---- counts

-- the hits among the first m positions of a stream
unfoldable pub upto : (ℕ → ℕ) → ℕ → ℕ
upto f zero = 0
upto f (suc m) = upto f m + f m

-- the hits in a list of positions
unfoldable pub hits : (ℕ → ℕ) → List ℕ → ℕ
hits h [] = 0
hits h (p ∷ ps) = h p + hits h ps

-- 1 where y is x, else 0
abbrev pub is : ℕ → ℕ → ℕ
is x y = cond (eqb y x) 1 0

pub is_same : (x : ℕ) → is x x ≡ 1
is_same x = ap (λ (b : Bool). cond b 1 0) (eq-eqb x x refl)

pub is_other : (x y : ℕ) → (y ≡ x → ⊥) → is x y ≡ 0
is_other x y ne = ap (λ (b : Bool). cond b 1 0) (ne_eqb y x ne)

-- L positions walked round
abbrev pub round : ℕ → (ℕ → ℕ) → ℕ → ℕ
round L h m = h (m % L)

-- every hit of g is one of h
unfoldable pub Under : (ℕ → ℕ) → (ℕ → ℕ) → Type 0
Under g h = (i : ℕ) → h i ≡ 0 → g i ≡ 0

pub upto_mono : (f : ℕ → ℕ) (m d : ℕ) → upto f m ≤ upto f (m + d)
unfolding upto
upto_mono f m zero = rw add-zero (omega arith)
upto_mono f m (suc d) = rw add-suc (omega (arith, upto_mono f m d))

-- passing over positions that are no hits counts none
pub upto_skip : (f : ℕ → ℕ) (m d : ℕ) → ((e : ℕ) → e < d → f (m + e) ≡ 0) → upto f (m + d) ≡ upto f m
unfolding upto
upto_skip f m zero miss = ap (upto f) (add-zero m)
upto_skip f m (suc d) miss = rw add-suc (omega (arith, upto_skip f m d (λ e l. miss e (omega arith)), miss d (omega arith)))

-- and where none are counted, none were passed over
upto_misses : (f : ℕ → ℕ) (m d : ℕ) → upto f (m + d) ≡ upto f m → (e : ℕ) → e < d → f (m + e) ≡ 0
unfolding upto
upto_misses f m zero same e l = absurd (omega arith)
upto_misses f m (suc d) same e l = go (dec_lt e d) (λ q. upto_misses f m d q e)
  where
    step : upto f (m + d) + f (m + d) ≡ upto f m
    step = sym (ap (upto f) (add-suc m d)) ∙ same

    go : Dec (e < d) → (upto f (m + d) ≡ upto f m → e < d → f (m + e) ≡ 0) → f (m + e) ≡ 0
    go (yes lt) ih = ih (omega (arith, step, upto_mono f m d)) lt
    go (no ge) ih = let q : e ≡ d = omega arith in rw q (omega (arith, step, upto_mono f m d))

-- up to two positions with the same hits of h there are the same hits of g
upto_flat : (g h : ℕ → ℕ) → Under g h → (m d : ℕ) → upto h (m + d) ≡ upto h m → upto g (m + d) ≡ upto g m
unfolding Under
upto_flat g h under m d same = upto_skip g m d (λ e l. under (m + e) (upto_misses h m d same e l))

pub upto_level : (g h : ℕ → ℕ) → Under g h → (a b : ℕ) → upto h a ≡ upto h b → upto g a ≡ upto g b
upto_level g h under a b same = go (dec_le a b)
  where
    up : a ≤ b → upto g a ≡ upto g b
    up l =
        let q : a + (b - a) ≡ b = omega arith in
        sym (upto_flat g h under a (b - a) (rw q (sym same))) ∙ ap (upto g) q

    down : b ≤ a → upto g a ≡ upto g b
    down l =
        let q : b + (a - b) ≡ a = omega arith in
        ap (upto g) (sym q) ∙ upto_flat g h under b (a - b) (rw q same)

    go : Dec (a ≤ b) → upto g a ≡ upto g b
    go (yes l) = up l
    go (no n) = down (omega arith)

pub upto_ext : (f g : ℕ → ℕ) (m : ℕ) → ((i : ℕ) → i < m → f i ≡ g i) → upto f m ≡ upto g m
unfolding upto
upto_ext f g zero e = refl
upto_ext f g (suc m) e = omega (arith, upto_ext f g m (λ i l. e i (omega arith)), e m (omega arith))

-- once round, each position comes once
pub round_once : (L : ℕ) (h : ℕ → ℕ) → upto (round L h) L ≡ upto h L
round_once L h = upto_ext (round L h) h L (λ i l. ap h (mod-eq_of_lt l))

pub upto_all : (m : ℕ) → upto (λ _. 1) m ≡ m
unfolding upto
upto_all zero = refl
upto_all (suc m) = omega (arith, upto_all m)

upto_is_past : (q m : ℕ) → m ≤ q → upto (is q) m ≡ 0
unfolding upto
upto_is_past q zero l = refl
upto_is_past q (suc m) l = omega (arith, upto_is_past q m (omega arith), is_other q m (λ e. omega arith))

pub upto_is : (q m : ℕ) → q < m → upto (is q) m ≡ 1
unfolding upto
upto_is q zero l = absurd (omega arith)
upto_is q (suc m) l = go (dec_lt q m) (upto_is q m)
  where
    go : Dec (q < m) → (q < m → upto (is q) m ≡ 1) → upto (is q) m + is q m ≡ 1
    go (yes lt) ih = omega (arith, ih lt, is_other q m (λ e. omega arith))
    go (no ge) ih =
        let e : q ≡ m = omega arith in
        rw e (omega (arith, upto_is_past m m (omega arith), is_same m))

-- ---- a walk

-- Each position is the first hit from one past the last, round L positions: it is d further on, and the d between are no hits.
unfoldable pub Walk : ℕ → (ℕ → ℕ) → ℕ → List ℕ → Type 0
Walk L h c [] = Unit {0}
Walk L h c (p ∷ ps) = (d : ℕ) × (p ≡ (c + d) % L) × ((e : ℕ) → e < d → h ((c + e) % L) ≡ 0) × Walk L h (suc p) ps

module _ (L : ℕ) (h : ℕ → ℕ) where
  upto_period : (m : ℕ) → upto (round L h) (m + L) ≡ upto (round L h) m + upto (round L h) L
  unfolding upto
  upto_period zero = rw zero-add (omega arith)
  upto_period (suc m) = rw suc-add (omega (arith, upto_period m, ap h (add-mod_right m L)))

  -- k rounds have k times the hits of one
  upto_periods : (k m : ℕ) → upto (round L h) (m + k * L) ≡ upto (round L h) m + k * upto (round L h) L
  unfolding upto
  upto_periods zero m = simp (zero-mul, add-zero)
  upto_periods (suc k) m = simp (suc-mul, ← add_assoc) (omega (arith, upto_period (m + k * L), upto_periods k m))

  same_place : (m c e : ℕ) → m % L ≡ c % L → (m + e) % L ≡ (c + e) % L
  same_place m c e q = sym (mod-add-mod m L e) ∙ ap (λ (x : ℕ). (x + e) % L) q ∙ mod-add-mod c L e

  next_place : (m c d : ℕ) {p : ℕ} → m % L ≡ c % L → p ≡ (c + d) % L → suc (m + d) % L ≡ suc p % L
  next_place m c d q r = suc-mod (m + d) L ∙ ap (λ (x : ℕ). suc x % L) (same_place m c d q ∙ sym r)

-- where a walk from m ends: at least one position on for each step, and every hit on the way is in its list
pub record Ends (L : ℕ) (h : ℕ → ℕ) (m : ℕ) (ps : List ℕ) : Type 0 where
  pub end : ℕ
  pub far : m + length ps ≤ end
  pub counts : (g : ℕ → ℕ) → Under g h → upto (round L g) end ≡ upto (round L g) m + hits g ps

pub walk_ends : (L : ℕ) (h : ℕ → ℕ) (m c : ℕ) (ps : List ℕ) → m % L ≡ c % L → Walk L h c ps → Ends L h m ps
unfolding Walk hits upto Under
walk_ends L h m c [] q w = record { end = m; far = omega arith; counts = λ g under. omega arith }
walk_ends L h m c (p ∷ ps) q w =
    let d : ℕ = w.0 in
    let r = walk_ends L h (suc (m + d)) (suc p) ps (next_place L h m c d q w.1) w.3 in
    record {
      end = r.end;
      far = omega (arith, r.far);
      counts = λ g under.
          omega (
            arith,
            r.counts g under,
            upto_skip (round L g) m d (λ e l. ap g (same_place L h m c e q) ∙ under ((c + e) % L) (w.2 e l)),
            ap g (same_place L h m c d q ∙ sym w.1),
          );
    }

-- In k rounds of steps a walk hits at least k times what one round has.
pub at_least : (L : ℕ) (h : ℕ → ℕ) (c : ℕ) (ps : List ℕ) → Walk L h c ps → (k : ℕ) → length ps ≡ k * L → k * upto (round L h) L ≤ hits h ps
unfolding Under
at_least L h c ps w k len =
    let r = walk_ends L h c c ps refl w in
    let l : c + k * L ≤ r.end = omega (arith, r.far) in
    omega (
      arith,
      r.counts h (λ i z. z),
      upto_periods L h k c,
      ap (upto (round L h)) (add-sub_of_le l),
      upto_mono (round L h) (c + k * L) (r.end - (c + k * L)),
    )

-- Where every step is a hit, k times as many steps as one round has hits bring each kind of hit exactly k times as often as one round.
pub exactly : (L : ℕ) (g h : ℕ → ℕ) → Under g h → (c : ℕ) (ps : List ℕ) → Walk L h c ps → hits h ps ≡ length ps
    → (k : ℕ) → length ps ≡ k * upto (round L h) L → hits g ps ≡ k * upto (round L g) L
unfolding Under
exactly L g h under c ps w all k len =
    let r = walk_ends L h c c ps refl w in
    let same : upto (round L h) r.end ≡ upto (round L h) (c + k * L) = omega (arith, r.counts h (λ i z. z), upto_periods L h k c, all, len) in
    let level = upto_level (round L g) (round L h) (λ i z. under (i % L) z) r.end (c + k * L) same in
    omega (arith, r.counts g under, upto_periods L g k c, level)
