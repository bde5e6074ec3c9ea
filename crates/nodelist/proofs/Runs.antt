-- Laws of the writer's runs: "The writer gives ascending maximal runs".
-- Assumes nothing.
use mathlib.Core.Path.{◌≡◌, refl, sym, ap, ◌∙◌}
use mathlib.Core.Logic.{◌⊎◌, inl, inr}
use mathlib.Core.Bool.{Bool, true, false, cond, true≢false}
use mathlib.Core.List.Memᴰ
use mathlib.Core.List.{List, [], ◌∷◌}
use Prim.Native.Nat.{ℕ, zero, suc, ◌+◌, ◌-◌, ◌/◌, ◌^◌, ◌≤◌, ◌<◌}
use native.Mathlib.Nat.{add-zero, zero-add, suc-add, le_refl, lt_irrefl, lt_of_le_of_lt, sub-le, pos_of_ne-zero, eq-zero-or-pos}
use native.Mathlib.Numerals.{lt_of_le_of_ne}
use native.Mathlib.Omega.{arith}
use lib.Dec.{eqb}
use lib.Count.{count_trailing_zeros, trailing_of_zero, trailing_le}
use lib.Pow.{ones_lt, shr_le}
use borrow.Author.Tests.{eq-eqb, ne_eqb, eqb-true}
use Rattle.rules.specs.Basics.{keep, from}
use Rattle.rules.specs.Masks.{most_nodes, bit, has, all_nodes}
use Rattle.rules.specs.Text.{Run, joined, runs}
use Rattle.rules.proofs.Lists.{◌∈◌, fails, keep_member, none_keep, from_member}
use Rattle.rules.proofs.Masks.{bit_above, bit_none, not_in, bit_shift, bit_others, below_width, none_from, none_under, trailing_is}
use Rattle.rules.proofs.Turns.{LowestFrom, trailing_lowest}
use Rattle.nodelist.specs.Writer.{run_of, runs_from}

-- ---- the first run of the nodes that pass a test

-- d nodes that do not pass are passed over
keep_skip : (p : ℕ → Bool) (a d k : ℕ) → ((i : ℕ) → a ≤ i → i < a + d → p i ≡ false) → keep p (from a (d + k)) ≡ keep p (from (a + d) k)
unfolding keep from
keep_skip p a zero k f = rw (zero-add k, add-zero a)
keep_skip p a (suc d) k f =
    rw (suc-add d k, f a (le_refl a) (omega arith))
    (keep_skip p (suc a) d k (λ i l m. f i (omega arith) (omega arith)) ∙ ap (λ (x : ℕ). keep p (from x k)) (omega arith))

-- a node in front of runs starts the first of them
joined_first : (n : ℕ) (rs : List Run) → (r : Run) × (ss : List Run) × (joined n rs ≡ r ∷ ss) × (r.low ≡ n)
unfolding joined
joined_first n [] = (run_of n n, [], refl, refl)
joined_first n (r ∷ rs) = go (eqb (suc n) r.low)
  where
    go : (b : Bool) → (f : Run) × (ss : List Run) × (cond b (run_of n r.high ∷ rs) (run_of n n ∷ r ∷ rs) ≡ f ∷ ss) × (f.low ≡ n)
    go true = (run_of n r.high, rs, refl, refl)
    go false = (run_of n n, r ∷ rs, refl, refl)

-- a node that no node follows at once is a run by itself
joined_new : (n : ℕ) (ns : List ℕ) → ((x : ℕ) → x ∈ ns → suc n < x) → joined n (runs ns) ≡ run_of n n ∷ runs ns
unfolding runs joined
joined_new n [] f = refl
joined_new n (x ∷ ns) f =
    let q = joined_first x (runs ns) in
    rw (q.2, ne_eqb (suc n) q.0.low (λ e. lt_irrefl x (omega (arith, f x (Memᴰ.head refl), q.3))))

-- the nodes a to h pass and the next does not: they are the first run
runs_front : (p : ℕ → Bool) (d a h k : ℕ) → a + d ≡ h → ((i : ℕ) → a ≤ i → i ≤ h → p i ≡ true) → (0 < k → p (suc h) ≡ false)
    → runs (keep p (from a (suc (d + k)))) ≡ run_of a h ∷ runs (keep p (from (suc h) k))
unfolding runs joined keep from
runs_front p zero a h k e f g =
    let q : a ≡ h = omega arith in
    rw (zero-add k, f a (le_refl a) (omega arith), q) (joined_new h (keep p (from (suc h) k)) past)
  where
    past : (x : ℕ) → x ∈ keep p (from (suc h) k) → suc h < x
    past x m =
        let i = keep_member p (from (suc h) k) m in
        let r = from_member (suc h) k i.0 in
        lt_of_le_of_ne r.0 (λ y. true≢false (sym i.1 ∙ ap p (sym y) ∙ g (omega arith)))
runs_front p (suc d) a h k e f g =
    rw (suc-add d k, f a (le_refl a) (omega arith))
    (ap (joined a) (runs_front p d (suc a) h k (omega arith) (λ i l m. f i (omega arith) m) g) ∙ rw (eq-eqb (suc a) (suc a) refl))

-- ---- the first run of a mask

-- nothing is left from a on
pub no_run_from : (m a : ℕ) → m / 2 ^ a ≡ 0 → runs_from m a ≡ []
unfolding runs_from runs
no_run_from m a z =
    ap runs
    (none_keep (has m) (from a (most_nodes - a)) (λ x i. not_in m x (bit_above a m x (none_from m a z) (from_member a (most_nodes - a) i).0)))

-- no run is left past the last node
pub no_run_past : (m a : ℕ) → a ≡ most_nodes → runs_from m a ≡ []
unfolding runs_from runs keep from
no_run_past m a e = ap (λ (x : ℕ). runs (keep (has m) (from x (most_nodes - x)))) e

-- the bits under the trailing zeros are 0, and the next is 1
trailing_bits : (w y : ℕ) → y < 2 ^ w → let t = count_trailing_zeros w y in ((i : ℕ) → i < t → bit y i ≡ 0) × (t < w → bit y t ≡ 1)
trailing_bits w y h = go (eq-zero-or-pos y)
  where
    go : (y ≡ 0) ⊎ (0 < y) → let t = count_trailing_zeros w y in ((i : ℕ) → i < t → bit y i ≡ 0) × (t < w → bit y t ≡ 1)
    go (inl z) = (λ i l. ap (λ (x : ℕ). bit x i) z ∙ bit_none i, λ l. absurd (omega (arith, ap (count_trailing_zeros w) z, trailing_of_zero w)))
    go (inr p) = let n = trailing_is w y p h in (λ i l. none_under y (count_trailing_zeros w y) i n.ranked l, λ l. n.member)

-- the first run from a on starts at `low` and has so many nodes
pub record FirstRun (m a low ones : ℕ) : Type 0 where
  pub some : 0 < ones
  pub within : low + ones ≤ most_nodes
  pub first : runs_from m a ≡ run_of low (low + ones - 1) ∷ runs_from m (low + ones - 1 + 1)

-- the first run starts at the lowest node, and has the ones that follow
first_at : (m a low : ℕ) → m < 2 ^ most_nodes → LowestFrom most_nodes m a low → FirstRun m a low
    (count_trailing_zeros most_nodes (all_nodes most_nodes - m / 2 ^ low))
unfolding runs_from
first_at m a low h l = record { some = some; within = within; first = first }
  where
    rest : ℕ
    rest = all_nodes most_nodes - m / 2 ^ low

    t : ℕ
    t = count_trailing_zeros most_nodes rest

    zeros : ((i : ℕ) → i < t → bit rest i ≡ 0) × (t < most_nodes → bit rest t ≡ 1)
    zeros = trailing_bits most_nodes rest (lt_of_le_of_lt (sub-le (all_nodes most_nodes) (m / 2 ^ low)) (ones_lt most_nodes))

    flipped : (i : ℕ) → i < most_nodes → bit rest i ≡ 1 - bit m (low + i)
    flipped i j = bit_others most_nodes (m / 2 ^ low) i (lt_of_le_of_lt (shr_le m low) h) j ∙ ap (λ (x : ℕ). 1 - x) (bit_shift m low i)

    ones : (i : ℕ) → low ≤ i → i < low + t → bit m i ≡ 1
    ones i s j =
        let q : low + (i - low) ≡ i = omega arith in
        omega (
          arith,
          trailing_le most_nodes rest,
          flipped (i - low) (omega (arith, trailing_le most_nodes rest)),
          zeros.0 (i - low) (omega arith),
          ap (bit m) q,
        )

    ended : t < most_nodes → bit m (low + t) ≡ 0
    ended j = omega (arith, flipped t j, zeros.1 j)

    some : 0 < t
    some =
        pos_of_ne-zero
        (λ e. absurd (omega (arith, ended (omega arith), ap (λ (x : ℕ). bit m (low + x)) e, ap (bit m) (add-zero low), eqb-true (bit m low) 1 l.member)))

    within : low + t ≤ most_nodes
    within = omega (arith, some, below_width most_nodes m (low + t - 1) h (ones (low + t - 1) (omega (arith, some)) (omega (arith, some))))

    first : runs_from m a ≡ run_of low (low + t - 1) ∷ runs_from m (low + t - 1 + 1)
    first =
        let left : ℕ = most_nodes - suc (low + t - 1) in
        let nodes : most_nodes - a ≡ low - a + suc (t - 1 + left) = omega (arith, some, within, l.start) in
        let start : a + (low - a) ≡ low = omega (arith, l.start) in
        let next : low + t - 1 + 1 ≡ suc (low + t - 1) = omega (arith, some) in
        rw (
          nodes,
          keep_skip (has m) a (low - a) (suc (t - 1 + left))
              (λ i s j. fails (λ y. lt_irrefl i (omega (arith, l.lowest i y s (omega (arith, l.small)), l.start)))),
          start,
          next,
        )
        (runs_front (has m) (t - 1) low (low + t - 1) left (omega (arith, some))
        (λ i s j. eq-eqb (bit m i) 1 (ones i s (omega (arith, some))))
        (λ j. not_in m (suc (low + t - 1)) (ap (bit m) (let e : suc (low + t - 1) ≡ low + t = omega (arith, some) in e) ∙ ended (omega arith))))

-- `trailing_zeros` of the mask leads to the first run, and of its complement past it
pub first_run : (m a : ℕ) → m < 2 ^ most_nodes → 0 < m / 2 ^ a
    → let low = a + count_trailing_zeros most_nodes (m / 2 ^ a) in FirstRun m a low (count_trailing_zeros most_nodes (all_nodes most_nodes - m / 2 ^ low))
first_run m a h p = first_at m a (a + count_trailing_zeros most_nodes (m / 2 ^ a)) h (trailing_lowest most_nodes m a h p)
