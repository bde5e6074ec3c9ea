-- The laws of masks, over the number of bits.
-- Assumes nothing.
use mathlib.Core.Path.{◌≡◌, refl, sym, ap, ap₂, ◌∙◌, subst}
use mathlib.Core.Logic.{◌⊎◌, inl, inr, ⊎_elim}
use mathlib.Core.Bool.{Bool, true, false, not, ◌&&◌, ◌||◌, cond, and-false, and-eq-true_iff}
use Prim.Native.Nat.{ℕ, zero, suc, ◌+◌, ◌-◌, ◌*◌, ◌/◌, ◌%◌, ◌^◌, ◌≤◌, ◌<◌, zero-le, suc-le-suc, min, max}
use native.Mathlib.Nat.{eq-zero-or-pos, pos_of_ne-zero, le_refl, le_trans, lt_of_lt_of_le, lt_of_le_of_lt, le_of_suc-le-suc, not-suc-le-zero, zero-lt-suc}
use native.Mathlib.Nat.{zero-add, add-zero, add_comm, one-mul, zero-mul, mod-lt, mod-eq_of_lt, div-eq_of_lt, mod-one}
use native.Mathlib.Numerals.{one-add}
use native.Mathlib.Omega.{arith}
use native.Mathlib.Decide.{le_ind, ℕ_discrete, dec_lt}
use native.Mathlib.Nat.{add-suc, lt_of_not-le, eq-or-lt_of_le, div_self, div-one, lt_irrefl, div-lt_iff_lt-mul, sub-le}
use lib.Pow.{not_mod, ones_lt, pow_pos, pow_mono, pow-lt, pow-add, mod-pow-add, shr-shr, shr_le}
use lib.Bits.{bit_and, bit_or, and_step, or_step, and_shr, or_shr, and_mask, and_high, or_lt, and_le_l, or_add_and, and_comm}
use lib.Count.{ones, ones_cat, count_trailing_zeros, under}
use lib.Dec.{eqb, ltb}
use borrow.Author.Tests.{eqb-true, eqb-false, eq-eqb, ne_eqb, lt-ltb, le-ltb}
use Rattle.rules.specs.Masks.{bit, has, below, rank, select, insert, image, mask_of, all_nodes, folded_to, folded, remapped_to, remapped}

-- ---- bits

-- a bit is 0 or 1
pub bit_lt : (m n : ℕ) → bit m n < 2
bit_lt m n = mod-lt (m / 2 ^ n) (zero-lt-suc 1)

-- a bit is 0, or it is 1
pub bit_cases : (m n : ℕ) → (bit m n ≡ 0) ⊎ (bit m n ≡ 1)
bit_cases m n = ⊎_elim (λ z. inl z) (λ p. inr (omega arith)) (eq-zero-or-pos (bit m n))

-- two bits are the same where each is 1 if the other is
pub bit_same : (a b n : ℕ) → (bit a n ≡ 1 → bit b n ≡ 1) → (bit b n ≡ 1 → bit a n ≡ 1) → bit a n ≡ bit b n
bit_same a b n f g = go (bit_cases a n) (bit_cases b n)
  where
    go : (bit a n ≡ 0) ⊎ (bit a n ≡ 1) → (bit b n ≡ 0) ⊎ (bit b n ≡ 1) → bit a n ≡ bit b n
    go (inl x) (inl y) = x ∙ sym y
    go (inl x) (inr y) = absurd (omega (arith, g y))
    go (inr x) y = x ∙ sym (f x)

-- a bit 0 stands for a node that is not in the mask
pub not_in : (m n : ℕ) → bit m n ≡ 0 → has m n ≡ false
not_in m n z = ne_eqb (bit m n) 1 (λ e. omega arith)

-- no bit of a number of w bits stands at w or above
pub bit_above : (w m n : ℕ) → m < 2 ^ w → w ≤ n → bit m n ≡ 0
bit_above w m n h l = ap (λ (x : ℕ). x % 2) (div-eq_of_lt (lt_of_lt_of_le h (pow_mono l)))

-- the empty mask has no bit
pub bit_none : (n : ℕ) → bit 0 n ≡ 0
bit_none n = bit_above 0 0 n (zero-lt-suc 0) zero-le

-- and no node
pub none_in : (n : ℕ) → has 0 n ≡ false
none_in n = not_in 0 n (bit_none n)

-- one digit more: the low n + 1 digits are bit n and the low n
pub mod_suc : (m n : ℕ) → m % 2 ^ suc n ≡ bit m n * 2 ^ n + m % 2 ^ n
mod_suc m n = ap (λ (x : ℕ). m % 2 ^ x) (sym (one-add n)) ∙ mod-pow-add m 1 n

-- two numbers with the same w lowest bits
pub same_low : (w a b : ℕ) → ((n : ℕ) → n < w → bit a n ≡ bit b n) → a % 2 ^ w ≡ b % 2 ^ w
same_low zero a b h = mod-one a ∙ sym (mod-one b)
same_low (suc w) a b h =
    mod_suc a w
    ∙ ap₂ (λ (x y : ℕ). x * 2 ^ w + y) (h w (le_refl (suc w))) (same_low w a b (λ n l. h n (le_trans l (omega arith))))
    ∙ sym (mod_suc b w)

-- masks of w bits with the same members are the same
pub ext : (w a b : ℕ) → a < 2 ^ w → b < 2 ^ w → ((n : ℕ) → n < w → bit a n ≡ bit b n) → a ≡ b
ext w a b ha hb h = sym (mod-eq_of_lt ha) ∙ same_low w a b h ∙ mod-eq_of_lt hb

-- masks of w bits are the same where each has the nodes of the other
pub same_nodes : (w a b : ℕ) → a < 2 ^ w → b < 2 ^ w → ((n : ℕ) → n < w → bit a n ≡ 1 → bit b n ≡ 1)
    → ((n : ℕ) → n < w → bit b n ≡ 1 → bit a n ≡ 1) → a ≡ b
same_nodes w a b ha hb f g = ext w a b ha hb (λ n l. bit_same a b n (f n l) (g n l))

-- ---- `&`, `|`, shifted ones

-- a bit of `a & b` is in both
pub bit_and_lem : (a b n : ℕ) → bit (bit_and a b) n ≡ min (bit a n) (bit b n)
bit_and_lem a b n = omega (arith, and_shr a b n, and_step (a / 2 ^ n) (b / 2 ^ n))

-- no node is in the empty mask and another
pub zero_and : (b : ℕ) → bit_and 0 b ≡ 0
zero_and b = omega (arith, and_le_l 0 b)

-- and so a node
pub has_both : (a b n : ℕ) → has (bit_and a b) n ≡ (has a n && has b n)
has_both a b n = go (bit_cases a n)
  where
    go : (bit a n ≡ 0) ⊎ (bit a n ≡ 1) → has (bit_and a b) n ≡ (has a n && has b n)
    go (inl p) = let e : bit (bit_and a b) n ≡ 0 = omega (arith, bit_and_lem a b n) in rw (e, p) refl
    go (inr p) = let e : bit (bit_and a b) n ≡ bit b n = omega (arith, bit_and_lem a b n, bit_lt b n) in rw (e, p) refl

-- a node of `a & b` is one of each
pub both_has : (a b k : ℕ) → has (bit_and a b) k ≡ true → (has a k ≡ true) × (has b k ≡ true)
both_has a b k e = (and-eq-true_iff (has a k) (has b k)).0 (sym (has_both a b k) ∙ e)

-- a bit of `a | b` is in one of them
pub bit_or_lem : (a b n : ℕ) → bit (bit_or a b) n ≡ max (bit a n) (bit b n)
bit_or_lem a b n = omega (arith, or_shr a b n, or_step (a / 2 ^ n) (b / 2 ^ n))

-- and so a node
pub either_has : (a b n : ℕ) → has (bit_or a b) n ≡ (has a n || has b n)
either_has a b n = go (bit_cases a n) (bit_cases b n)
  where
    go : (bit a n ≡ 0) ⊎ (bit a n ≡ 1) → (bit b n ≡ 0) ⊎ (bit b n ≡ 1) → has (bit_or a b) n ≡ (has a n || has b n)
    go (inr p) q = let e : bit (bit_or a b) n ≡ 1 = omega (arith, bit_or_lem a b n, bit_lt b n) in rw (e, p) refl
    go (inl p) q = let e : bit (bit_or a b) n ≡ bit b n = omega (arith, bit_or_lem a b n) in rw (e, p) refl

-- `m & (1 << n)` is bit n, in its place
pub and_one : (m n : ℕ) → bit_and m (2 ^ n) ≡ bit m n * 2 ^ n
and_one m n =
    let e : 2 ^ (1 + n) - 2 ^ n ≡ 2 ^ n = omega (arith, pow-add 2 1 n) in
    rw e at (and_high m 1 n)

-- `m | (1 << n)` is m with node n
pub or_one : (m n : ℕ) → bit_or m (2 ^ n) ≡ insert m n
or_one m n =
    ⊎_elim
    (λ (z : bit m n ≡ 0). rw z (omega (arith, or_add_and m (2 ^ n), rw z at (and_one m n))))
    (λ (o : bit m n ≡ 1). rw o (omega (arith, or_add_and m (2 ^ n), rw o at (and_one m n))))
    (bit_cases m n)

-- `1 << n`
pub one_shifted : (w n : ℕ) → n < w → (1 * 2 ^ n) % 2 ^ w ≡ 2 ^ n
one_shifted w n h = ap (λ (x : ℕ). x % 2 ^ w) (one-mul (2 ^ n)) ∙ mod-eq_of_lt (pow-lt h)

-- `m | (1 << n)`, in words of w bits
pub or_shifted : (w m n : ℕ) → n < w → bit_or m ((1 * 2 ^ n) % 2 ^ w) ≡ insert m n
or_shifted w m n h = ap (bit_or m) (one_shifted w n h) ∙ or_one m n

-- ---- ranks and sizes are counts of ones

-- the rank of the next node counts this one
pub rank_step : (m n : ℕ) → rank m (suc n) ≡ rank m n + bit m n
unfolding rank
rank_step m n = refl

-- the ones of the n low digits
pub ones_low : (m n : ℕ) → ones (m % 2 ^ n) ≡ rank m n
unfolding rank ones
ones_low m zero = ap ones (mod-one m)
ones_low m (suc n) =
    ap ones (mod_suc m n)
    ∙ ones_cat n (bit m n) (m % 2 ^ n) (mod-lt m (pow_pos n))
    ∙ ap₂ (λ (x y : ℕ). x + y) (⊎_elim (λ (z : bit m n ≡ 0). rw z) (λ (o : bit m n ≡ 1). rw o) (bit_cases m n)) (ones_low m n)
    ∙ add_comm (bit m n) (rank m n)

-- `count_ones(m)` is the size
pub ones_size : (w m : ℕ) → m < 2 ^ w → ones m ≡ rank m w
ones_size w m h = ap ones (sym (mod-eq_of_lt h)) ∙ ones_low m w

-- `count_ones(m & ((1 << n) - 1))` is the rank of n
pub ones_rank : (m n : ℕ) → ones (bit_and m (2 ^ n - 1)) ≡ rank m n
ones_rank m n = ap ones (and_mask m n) ∙ ones_low m n

-- a higher node has no lower rank
pub rank_mono : (m : ℕ) {a b : ℕ} → a ≤ b → rank m a ≤ rank m b
rank_mono m {a} {b} h =
    le_ind (λ (k : ℕ). rank m a ≤ rank m k) (le_refl (rank m a)) (λ k l e. omega (arith, rank_step m k)) b h

-- a member's rank is below the size
pub rank_lt : (m : ℕ) {n w : ℕ} → n < w → bit m n ≡ 1 → rank m n < rank m w
rank_lt m {n} {w} h e = omega (arith, rank_step m n, rank_mono m h)

-- a rank is at most the node number
pub rank_le : (m n : ℕ) → rank m n ≤ n
unfolding rank
rank_le m zero = le_refl 0
rank_le m (suc n) = omega (arith, rank_le m n, bit_lt m n)

-- ---- the node of a rank

-- the node of rank r is the member with r members below it
pub select_at : (w m n r : ℕ) → n < w → bit m n ≡ 1 → rank m n ≡ r → select w m r ≡ n
unfolding select
select_at zero m n r h e q = absurd (not-suc-le-zero h)
select_at (suc w) m n r h e q =
    ⊎_elim same (λ l. rw (other l) (select_at w m n r l e q)) (eq-or-lt_of_le (le_of_suc-le-suc h))
  where
    same : n ≡ w → cond (has m w && eqb (rank m w) r) w (select w m r) ≡ n
    same x = rw (← x, eq-eqb (bit m n) 1 e, eq-eqb (rank m n) r q)

    other : n < w → (has m w && eqb (rank m w) r) ≡ false
    other l = rw (ne_eqb (rank m w) r (λ x. lt_irrefl r (omega (arith, rank_lt m l e)))) (and-false (has m w))

-- n is the node of rank r in a mask of w bits
pub record IsNode (m w r n : ℕ) : Type 0 where
  pub small : n < w
  pub member : bit m n ≡ 1
  pub ranked : rank m n ≡ r

-- each rank below the size has its node
pub select_is : (w m r : ℕ) → r < rank m w → IsNode m w r (select w m r)
unfolding rank select
select_is zero m r h = absurd (not-suc-le-zero h)
select_is (suc w) m r h = go (λ l. select_is w m r l) (eq-or-lt_of_le (le_of_suc-le-suc (le_trans h (omega (arith, bit_lt m w)))))
  where
    go : (r < rank m w → IsNode m w r (select w m r)) → (r ≡ rank m w) ⊎ (r < rank m w)
        → IsNode m (suc w) r (cond (has m w && eqb (rank m w) r) w (select w m r))
    go ih (inl x) =
        let o : bit m w ≡ 1 = omega arith in
        rw (eq-eqb (bit m w) 1 o, eq-eqb (rank m w) r (sym x)) (record { small = le_refl (suc w); member = o; ranked = sym x })
    go ih (inr l) =
        let i = ih l in
        rw (ne_eqb (rank m w) r (λ x. lt_irrefl r (omega arith)), and-false (has m w))
        (record { small = omega (arith, i.small); member = i.member; ranked = i.ranked })

-- ---- the lowest member: `trailing_zeros`

-- bit n + 1 of m is bit n of m / 2
pub bit_suc : (m n : ℕ) → bit m (suc n) ≡ bit (m / 2) n
bit_suc m n = ap (λ (x : ℕ). x % 2) (ap (λ (x : ℕ). m / 2 ^ x) (sym (one-add n)) ∙ sym (shr-shr m 1 n))

-- the ones below n + 1 are the lowest bit and the ones of m / 2 below n
pub rank_suc : (m n : ℕ) → rank m (suc n) ≡ m % 2 + rank (m / 2) n
unfolding rank
rank_suc m zero = zero-add (bit m 0) ∙ ap (λ (x : ℕ). x % 2) (div-one m) ∙ sym (add-zero (m % 2))
rank_suc m (suc n) = omega (arith, rank_suc m n, bit_suc m n)

-- `trailing_zeros(m)` is a node of the mask, and none is below it
pub trailing_is : (w m : ℕ) → 0 < m → m < 2 ^ w → IsNode m w 0 (count_trailing_zeros w m)
unfolding count_trailing_zeros rank
trailing_is zero m p h = absurd (omega arith)
trailing_is (suc w) m p h = go (m % 2) refl (mod-lt m (zero-lt-suc 1)) (λ q. trailing_is w (m / 2) q (omega arith))
  where
    go : (d : ℕ) → m % 2 ≡ d → d < 2 → (0 < m / 2 → IsNode (m / 2) w 0 (count_trailing_zeros w (m / 2))) → IsNode m (suc w) 0
        (under d (count_trailing_zeros w (m / 2)))
    go zero e l ih =
        let i = ih (omega arith) in
        let t = count_trailing_zeros w (m / 2) in
        record { small = suc-le-suc i.small; member = bit_suc m t ∙ i.member; ranked = rank_suc m t ∙ ap₂ (λ (x y : ℕ). x + y) e i.ranked }
    go (suc zero) e l ih = record { small = zero-lt-suc w; member = ap (λ (x : ℕ). x % 2) (div-one m) ∙ e; ranked = refl }
    go (suc (suc d)) e l ih = absurd (not-suc-le-zero (le_of_suc-le-suc (le_of_suc-le-suc l)))

-- `trailing_zeros(m)` is the node of rank 0
pub trailing_select : (w m : ℕ) → 0 < m → m < 2 ^ w → count_trailing_zeros w m ≡ select w m 0
trailing_select w m p h = let i = trailing_is w m p h in sym (select_at w m _ 0 i.small i.member i.ranked)

-- a mask that is not empty has a size above 0, and the other way
pub size_pos : (w m : ℕ) → 0 < m → m < 2 ^ w → 0 < rank m w
size_pos w m p h = let i = trailing_is w m p h in omega (arith, rank_lt m i.small i.member)

-- ---- one node, all nodes below k

-- the mask of one node has that node
pub bit_one : (n : ℕ) → bit (2 ^ n) n ≡ 1
bit_one n = ap (λ (x : ℕ). x % 2) (div_self (pow_pos n))

-- and no other
pub bit_other : (n k : ℕ) → (n ≡ k → ⊥) → bit (2 ^ n) k ≡ 0
bit_other zero zero h = absurd (h refl)
bit_other zero (suc k) h = bit_suc 1 k ∙ bit_none k
bit_other (suc n) zero h = omega arith
bit_other (suc n) (suc k) h =
    let half : 2 ^ suc n / 2 ≡ 2 ^ n = omega arith in
    bit_suc (2 ^ suc n) k ∙ ap (λ (x : ℕ). bit x k) half ∙ bit_other n k (λ e. h (ap suc e))

-- the nodes below k that are not in m
pub bit_others : (k m n : ℕ) → m < 2 ^ k → n < k → bit (all_nodes k - m) n ≡ 1 - bit m n
bit_others zero m n h l = absurd (not-suc-le-zero l)
bit_others (suc k) m zero h l = omega arith
bit_others (suc k) m (suc n) h l =
    let half : (all_nodes (suc k) - m) / 2 ≡ all_nodes k - m / 2 = omega arith in
    omega (arith, bit_suc (all_nodes (suc k) - m) n, ap (λ (x : ℕ). bit x n) half, bit_others k (m / 2) n (omega arith) (omega arith), bit_suc m n)

-- all nodes below k has each node below k
pub bit_below : (k n : ℕ) → n < k → bit (all_nodes k) n ≡ 1
bit_below k n h =
    let all : all_nodes k - 0 ≡ all_nodes k = omega arith in
    omega (arith, ap (λ (x : ℕ). bit x n) all, bit_others k 0 n (pow_pos k) h, bit_none n)

-- and none from k on
pub bit_below_out : (k n : ℕ) → k ≤ n → bit (all_nodes k) n ≡ 0
bit_below_out k n h = bit_above k (all_nodes k) n (ones_lt k) h

-- ---- m with one node more

-- a mask with one node more has its own nodes and that one
pub bit_insert : (m n k : ℕ) → bit (insert m n) k ≡ max (bit m k) (bit (2 ^ n) k)
bit_insert m n k = ap (λ (x : ℕ). bit x k) (sym (or_one m n)) ∙ bit_or_lem m (2 ^ n) k

-- it has that node
pub has_insert : (m n : ℕ) → has (insert m n) n ≡ true
has_insert m n = eq-eqb (bit (insert m n) n) 1 (bit_insert m n n ∙ omega (arith, bit_one n, bit_lt m n))

-- and any other where it had it
pub has_insert_other : (m n k : ℕ) → (k ≡ n → ⊥) → has (insert m n) k ≡ has m k
has_insert_other m n k d =
    let e : bit (insert m n) k ≡ bit m k = bit_insert m n k ∙ omega (arith, bit_other n k (λ q. d (sym q))) in
    ap (λ (x : ℕ). eqb x 1) e

-- a node below w leaves a mask of w bits
pub insert_lt : (w m n : ℕ) → m < 2 ^ w → n < w → insert m n < 2 ^ w
insert_lt w m n h l = subst (λ (x : ℕ). x < 2 ^ w) (or_one m n) (or_lt w m (2 ^ n) h (pow-lt l))

-- up to that node it has the ranks that it had
rank_insert : (w m n : ℕ) → w ≤ n → rank (insert m n) w ≡ rank m w
unfolding rank
rank_insert zero m n h = refl
rank_insert (suc w) m n h = omega (arith, rank_insert w m n (omega arith), bit_insert m n w, bit_other n w (λ e. omega arith))

-- and it has one node more, if it had that one not
pub size_insert : (w m n : ℕ) → n < w → rank (insert m n) w ≡ rank m w + (1 - bit m n)
unfolding rank
size_insert zero m n h = absurd (omega arith)
size_insert (suc w) m n h = go (ℕ_discrete n w) (size_insert w m n)
  where
    go : Dec (n ≡ w) → (n < w → rank (insert m n) w ≡ rank m w + (1 - bit m n)) → rank (insert m n) w + bit (insert m n) w ≡ rank m w + bit m w + (1 - bit m n)
    go (yes e) ih =
        let same : bit m w ≡ bit m n = ap (bit m) (sym e) in
        let one : bit (2 ^ n) w ≡ 1 = ap (bit (2 ^ n)) (sym e) ∙ bit_one n in
        omega (arith, rank_insert w m n (omega arith), bit_insert m n w, bit_lt m n)
    go (no d) ih = omega (arith, ih (omega arith), bit_insert m n w, bit_other n w d)

-- ---- the nodes f b, for b in u

-- one b more that is in u puts f b in
pub image_in : (u : ℕ) (f : ℕ → ℕ) (b : ℕ) → bit u b ≡ 1 → image u f (suc b) ≡ insert (image u f b) (f b)
unfolding image
image_in u f b e = ap (λ (t : Bool). cond t (insert (image u f b) (f b)) (image u f b)) (eq-eqb (bit u b) 1 e)

-- one b more that is not in u changes nothing
pub image_out : (u : ℕ) (f : ℕ → ℕ) (b : ℕ) → (bit u b ≡ 1 → ⊥) → image u f (suc b) ≡ image u f b
unfolding image
image_out u f b e = ap (λ (t : Bool). cond t (insert (image u f b) (f b)) (image u f b)) (ne_eqb (bit u b) 1 e)

-- nodes f b below k make a mask of k bits
pub image_lt : (k u : ℕ) (f : ℕ → ℕ) (w : ℕ) → ((b : ℕ) → b < w → bit u b ≡ 1 → f b < k) → image u f w < 2 ^ k
unfolding image
image_lt k u f zero h = pow_pos k
image_lt k u f (suc b) h = go (image_lt k u f b (λ i l e. h i (omega arith) e)) (bit_cases u b)
  where
    go : image u f b < 2 ^ k → (bit u b ≡ 0) ⊎ (bit u b ≡ 1) → image u f (suc b) < 2 ^ k
    go ih (inl e) = subst (λ (x : ℕ). x < 2 ^ k) (sym (image_out u f b (λ x. absurd (omega arith)))) ih
    go ih (inr e) = subst (λ (x : ℕ). x < 2 ^ k) (sym (image_in u f b e)) (insert_lt k (image u f b) (f b) ih (h b (le_refl (suc b)) e))

-- each f b is there
pub image_has : (u : ℕ) (f : ℕ → ℕ) (w b : ℕ) → b < w → bit u b ≡ 1 → bit (image u f w) (f b) ≡ 1
image_has u f zero b l e = absurd (not-suc-le-zero l)
image_has u f (suc w) b l e = go (λ q. image_has u f w b q e) (eq-or-lt_of_le (le_of_suc-le-suc l)) (bit_cases u w)
  where
    kept : (n : ℕ) → bit (image u f w) n ≡ 1 → bit (insert (image u f w) (f w)) n ≡ 1
    kept n x = bit_insert (image u f w) (f w) n ∙ omega (arith, bit_lt (2 ^ f w) n)

    go : (b < w → bit (image u f w) (f b) ≡ 1) → (b ≡ w) ⊎ (b < w) → (bit u w ≡ 0) ⊎ (bit u w ≡ 1) → bit (image u f (suc w)) (f b) ≡ 1
    go ih (inr q) (inl z) = ap (λ (x : ℕ). bit x (f b)) (image_out u f w (λ x. absurd (omega arith))) ∙ ih q
    go ih (inr q) (inr z) = ap (λ (x : ℕ). bit x (f b)) (image_in u f w z) ∙ kept (f b) (ih q)
    go ih (inl q) (inl z) = absurd (omega (arith, ap (bit u) q))
    go ih (inl q) (inr z) =
        ap (λ (x : ℕ). bit x (f b)) (image_in u f w z) ∙ bit_insert (image u f w) (f w) (f b)
        ∙ omega (arith, bit_lt (image u f w) (f b), ap (λ (x : ℕ). bit (2 ^ f w) (f x)) q, bit_one (f w))

-- and nothing else is
pub image_only : (u : ℕ) (f : ℕ → ℕ) (w n : ℕ) → bit (image u f w) n ≡ 1 → (b : ℕ) × (b < w) × (bit u b ≡ 1) × (f b ≡ n)
unfolding image
image_only u f zero n h = absurd (omega (arith, bit_none n))
image_only u f (suc w) n h = go (λ x. image_only u f w n x) (bit_cases u w) (bit_cases (image u f w) n) (ℕ_discrete (f w) n)
  where
    up : (b : ℕ) × (b < w) × (bit u b ≡ 1) × (f b ≡ n) → (b : ℕ) × (b < suc w) × (bit u b ≡ 1) × (f b ≡ n)
    up x = (x.0, omega arith, x.2, x.3)

    go : (bit (image u f w) n ≡ 1 → (b : ℕ) × (b < w) × (bit u b ≡ 1) × (f b ≡ n)) → (bit u w ≡ 0) ⊎ (bit u w ≡ 1)
        → (bit (image u f w) n ≡ 0) ⊎ (bit (image u f w) n ≡ 1) → Dec (f w ≡ n) → (b : ℕ) × (b < suc w) × (bit u b ≡ 1) × (f b ≡ n)
    go ih z (inr i) d = up (ih i)
    go ih (inl z) (inl i) d = absurd (omega (arith, ap (λ (x : ℕ). bit x n) (image_out u f w (λ x. absurd (omega arith)))))
    go ih (inr z) (inl i) (yes e) = (w, le_refl (suc w), z, e)
    go ih (inr z) (inl i) (no ne) =
        absurd (omega (arith, ap (λ (x : ℕ). bit x n) (image_in u f w z), bit_insert (image u f w) (f w) n, bit_other (f w) n ne))

-- ---- what the code tests

-- a test that failed: the bit is 0
pub in_false : (m n : ℕ) {r : Bool} → r ≡ has m n → r ≡ false → bit m n ≡ 0
in_false m n e t = omega (arith, eqb-false (bit m n) 1 (sym e ∙ t))

-- ---- a mask within another

-- each node of a mask within another is in the other
pub within_bits : (a b : ℕ) → bit_and a b ≡ a → (n : ℕ) → bit a n ≡ 1 → bit b n ≡ 1
within_bits a b e n o = omega (arith, bit_and_lem a b n, ap (λ (x : ℕ). bit x n) e, bit_lt b n)

-- a mask whose nodes are all in another is within it
pub bits_within : (w a b : ℕ) → a < 2 ^ w → ((n : ℕ) → bit a n ≡ 1 → bit b n ≡ 1) → bit_and a b ≡ a
bits_within w a b h q =
    same_nodes w (bit_and a b) a (lt_of_le_of_lt (and_le_l a b) h) h
    (λ n l o. omega (arith, bit_and_lem a b n, bit_lt b n))
    (λ n l o. bit_and_lem a b n ∙ omega (arith, q n o))

-- ---- what the folded and the remapped mask hold

module _ (w u : ℕ) (f : ℕ → ℕ) (r : ℕ → ℕ) (m : ℕ) (p : 0 < m) (h : m < 2 ^ w) (g : (b : ℕ) → f b ≡ select w m (r b % rank m w)) where
  -- each f b is a node of m
  pub onto_member : (b : ℕ) → IsNode m w (r b % rank m w) (f b)
  onto_member b = rw (g b) (select_is w m (r b % rank m w) (mod-lt (r b) (size_pos w m p h)))

  -- what is carried into m is a mask of w bits
  pub onto_lt : image u f w < 2 ^ w
  onto_lt = image_lt w u f w (λ b l e. (onto_member b).small)

  -- it lies within m
  pub onto_within : bit_and (image u f w) m ≡ image u f w
  onto_within =
      bits_within w (image u f w) m onto_lt
      (λ n e. let x = image_only u f w n e in ap (bit m) (sym x.3) ∙ (onto_member x.0).member)

  -- it is not empty where the source is not
  pub onto_pos : 0 < u → u < 2 ^ w → 0 < image u f w
  onto_pos q l =
      let t = trailing_is w u q l in
      let n = f (count_trailing_zeros w u) in
      pos_of_ne-zero
      (λ z. absurd (omega (arith, image_has u f w (count_trailing_zeros w u) t.small t.member, ap (λ (x : ℕ). bit x n) z, bit_none n)))

-- ---- from bit k on: `m >> k`

-- bit n of `m >> k` is bit k + n
pub bit_shift : (m k n : ℕ) → bit (m / 2 ^ k) n ≡ bit m (k + n)
bit_shift m k n = ap (λ (x : ℕ). x % 2) (shr-shr m k n)

-- the ones below k + n are those below k and those of `m >> k` below n
pub rank_shift : (m k n : ℕ) → rank m (k + n) ≡ rank m k + rank (m / 2 ^ k) n
unfolding rank
rank_shift m k zero = ap (rank m) (add-zero k) ∙ sym (add-zero (rank m k))
rank_shift m k (suc n) = ap (rank m) (add-suc k n) ∙ omega (arith, rank_step m (k + n), rank_shift m k n, bit_shift m k n)

-- the nodes of a mask of w bits are below w
pub below_width : (w m n : ℕ) → m < 2 ^ w → bit m n ≡ 1 → n < w
below_width w m n h e = lt_of_not-le (λ l. absurd (omega (arith, bit_above w m n h l)))

-- a mask with no node from k on has k bits
pub none_from : (m k : ℕ) → m / 2 ^ k ≡ 0 → m < 2 ^ k
none_from m k z = omega (arith, (div-lt_iff_lt-mul {x = m} {y = 1} (pow_pos k)).0 (omega arith))

-- a node of rank 0 has no node of the mask below it
pub none_under : (m d i : ℕ) → rank m d ≡ 0 → i < d → bit m i ≡ 0
none_under m d i r l = ⊎_elim (λ z. z) (λ o. absurd (omega (arith, rank_lt m l o))) (bit_cases m i)

-- the lowest node at k or above
pub trailing_from : (w m k : ℕ) → m < 2 ^ w → 0 < m / 2 ^ k → IsNode m w (rank m k) (k + count_trailing_zeros w (m / 2 ^ k))
trailing_from w m k h p =
    let t = trailing_is w (m / 2 ^ k) p (lt_of_le_of_lt (shr_le m k) h) in
    let e : bit m (k + count_trailing_zeros w (m / 2 ^ k)) ≡ 1 = sym (bit_shift m k (count_trailing_zeros w (m / 2 ^ k))) ∙ t.member in
    record {
      small = below_width w m (k + count_trailing_zeros w (m / 2 ^ k)) h e;
      member = e;
      ranked = rank_shift m k (count_trailing_zeros w (m / 2 ^ k)) ∙ omega (arith, t.ranked);
    }

-- ---- what the code computes

-- `below(k) & !m`, in words of j + k bits
pub and_not : (j k m : ℕ) → m < 2 ^ k → bit_and (all_nodes k) ((2 ^ (j + k) - 1) - m) ≡ all_nodes k - m
and_not j k m h = and_comm (all_nodes k) ((2 ^ (j + k) - 1) - m) ∙ and_mask ((2 ^ (j + k) - 1) - m) k ∙ not_mod j k h

-- the test `m & (1 << n) != 0`
pub and_one_test : (m n : ℕ) → not (eqb (bit_and m (2 ^ n)) 0) ≡ has m n
and_one_test m n =
    ⊎_elim
    (λ (z : bit m n ≡ 0). rw (and_one m n, z, zero-mul (2 ^ n)))
    (λ (o : bit m n ≡ 1). rw (and_one m n, o, one-mul (2 ^ n), ne_eqb (2 ^ n) 0 (λ e. omega (arith, pow_pos n))))
    (bit_cases m n)

-- what is folded or remapped lies within the target and is not empty where the source is not
module _ (w u m : ℕ) (p : 0 < m) (h : m < 2 ^ w) where
  -- a folded mask lies within the allowed set
  pub folded_within : bit_and (folded w u m) m ≡ folded w u m
  unfolding folded
  folded_within = onto_within w u (folded_to w m) (λ b. b) m p h (λ b. refl)

  -- it is not empty where the user mask is not
  pub folded_pos : 0 < u → u < 2 ^ w → 0 < folded w u m
  unfolding folded
  folded_pos = onto_pos w u (folded_to w m) (λ b. b) m p h (λ b. refl)

  -- a remapped mask lies within the new allowed set
  pub remapped_within : (old : ℕ) → bit_and (remapped w u old m) m ≡ remapped w u old m
  unfolding remapped
  remapped_within old = onto_within w u (remapped_to w old m) (rank old) m p h (λ b. refl)

  -- it is not empty where the effective mask is not
  pub remapped_pos : (old : ℕ) → 0 < u → u < 2 ^ w → 0 < remapped w u old m
  unfolding remapped
  remapped_pos old = onto_pos w u (remapped_to w old m) (rank old) m p h (λ b. refl)

-- ---- no bit at n or above

-- the test `m >> n == 0`
pub shifted_out : (m n : ℕ) → eqb (m / 2 ^ n) 0 ≡ below n m
shifted_out m n = go (dec_lt m (2 ^ n))
  where
    go : Dec (m < 2 ^ n) → eqb (m / 2 ^ n) 0 ≡ ltb m (2 ^ n)
    go (yes l) = eq-eqb (m / 2 ^ n) 0 (div-eq_of_lt l) ∙ sym (lt-ltb m (2 ^ n) l)
    go (no q) = ne_eqb (m / 2 ^ n) 0 (λ e. q (none_from m n e)) ∙ sym (le-ltb m (2 ^ n) (omega arith))

-- a mask of w bits has none at n or above, for each n from w on
pub below_wide : (w m n : ℕ) → m < 2 ^ w → w ≤ n → below n m ≡ true
below_wide w m n h l = lt-ltb m (2 ^ n) (lt_of_lt_of_le h (pow_mono l))

-- ---- the mask of a test

-- one bit more, put on top
top_lt : (w r : ℕ) (b : Bool) → r < 2 ^ w → r + cond b (2 ^ w) 0 < 2 ^ suc w
top_lt w r true h = omega arith
top_lt w r false h = omega arith

-- the mask of a test on the nodes below w has no bit at w or above
pub mask_of_lt : (w : ℕ) (p : ℕ → Bool) → mask_of w p < 2 ^ w
unfolding mask_of
mask_of_lt zero p = pow_pos 0
mask_of_lt (suc w) p = top_lt w (mask_of w p) (p w) (mask_of_lt w p)

-- a bit put on top of a mask of w bits is the mask with node w
top_insert : (w r : ℕ) → r < 2 ^ w → r + 2 ^ w ≡ insert r w
top_insert w r h = ap (λ (x : ℕ). r + x) (sym (one-mul (2 ^ w)) ∙ ap (λ (x : ℕ). (1 - x) * 2 ^ w) (sym (bit_above w r w h (le_refl w))))

has_top : (w r : ℕ) (b : Bool) → r < 2 ^ w → has (r + cond b (2 ^ w) 0) w ≡ b
has_top w r true h =
    ap (λ (x : ℕ). has x w) (top_insert w r h) ∙ has_insert r w
has_top w r false h =
    ap (λ (x : ℕ). has x w) (add-zero r) ∙ ne_eqb (bit r w) 1 (λ e. omega (arith, bit_above w r w h (le_refl w)))

has_under : (w n r : ℕ) (b : Bool) → r < 2 ^ w → n < w → has (r + cond b (2 ^ w) 0) n ≡ has r n
has_under w n r true h l = ap (λ (x : ℕ). has x n) (top_insert w r h) ∙ has_insert_other r w n (λ q. lt_irrefl n (omega arith))
has_under w n r false h l = ap (λ (x : ℕ). has x n) (add-zero r)

-- the mask of a test has exactly the nodes that pass it
pub has_mask_of : (w : ℕ) (p : ℕ → Bool) (n : ℕ) → n < w → has (mask_of w p) n ≡ p n
unfolding mask_of
has_mask_of zero p n h = absurd (not-suc-le-zero h)
has_mask_of (suc w) p n h =
    ⊎_elim
    (λ e. ap (has (mask_of w p + cond (p w) (2 ^ w) 0)) e ∙ has_top w (mask_of w p) (p w) (mask_of_lt w p) ∙ ap p (sym e))
    (λ l. has_under w n (mask_of w p) (p w) (mask_of_lt w p) l ∙ has_mask_of w p n l)
    (eq-or-lt_of_le (le_of_suc-le-suc h))

-- a mask of w bits whose nodes are those that pass a test is the mask of the test
pub mask_of_is : (w m : ℕ) (p : ℕ → Bool) → m < 2 ^ w → ((n : ℕ) → n < w → has m n ≡ p n) → m ≡ mask_of w p
mask_of_is w m p h q =
    same_nodes w m (mask_of w p) h (mask_of_lt w p)
    (λ n l o. eqb-true (bit (mask_of w p) n) 1 (has_mask_of w p n l ∙ sym (q n l) ∙ eq-eqb (bit m n) 1 o))
    (λ n l o. eqb-true (bit m n) 1 (q n l ∙ sym (has_mask_of w p n l) ∙ eq-eqb (bit (mask_of w p) n) 1 o))

-- tests that agree on the nodes below w have the same mask
pub mask_of_same : (w : ℕ) (p q : ℕ → Bool) → ((n : ℕ) → n < w → p n ≡ q n) → mask_of w p ≡ mask_of w q
mask_of_same w p q h = mask_of_is w (mask_of w p) q (mask_of_lt w p) (λ n l. has_mask_of w p n l ∙ h n l)

-- a test that no node from n on passes needs no more than n bits
pub mask_of_narrow : {n w : ℕ} (p : ℕ → Bool) → n ≤ w → ((k : ℕ) → n ≤ k → p k ≡ false) → mask_of w p ≡ mask_of n p
unfolding mask_of
mask_of_narrow {n} {w} p l h =
    le_ind (λ (k : ℕ). mask_of k p ≡ mask_of n p) refl (λ k q e. rw (h k q) (add-zero (mask_of k p) ∙ e)) w l

-- the mask of one node more, which passes, and which does not
pub mask_of_with : (p : ℕ → Bool) (n : ℕ) → p n ≡ true → insert (mask_of n p) n ≡ mask_of (suc n) p
unfolding mask_of
mask_of_with p n e = rw (e, bit_above n (mask_of n p) n (mask_of_lt n p) (le_refl n)) (omega arith)

pub mask_of_without : (p : ℕ → Bool) (n : ℕ) → p n ≡ false → mask_of n p ≡ mask_of (suc n) p
unfolding mask_of
mask_of_without p n e = rw e (sym (add-zero (mask_of n p)))

-- the nodes below n that are not in the mask of a test are those that do not pass it
pub mask_of_not : (n : ℕ) (p : ℕ → Bool) → all_nodes n - mask_of n p ≡ mask_of n (λ k. not (p k))
mask_of_not n p =
    mask_of_is n (all_nodes n - mask_of n p) (λ k. not (p k)) (lt_of_le_of_lt (sub-le (all_nodes n) (mask_of n p)) (ones_lt n))
    (λ k l. rw (bit_others n (mask_of n p) k (mask_of_lt n p) l) (flip k (bit_cases (mask_of n p) k) ∙ ap not (has_mask_of n p k l)))
  where
    flip : (k : ℕ) → (bit (mask_of n p) k ≡ 0) ⊎ (bit (mask_of n p) k ≡ 1) → eqb (1 - bit (mask_of n p) k) 1 ≡ not (has (mask_of n p) k)
    flip k (inl z) = rw z
    flip k (inr o) = rw o

-- ---- both masks together

-- a node is in `a | b` if it is in one of them
pub has_or : (a b n : ℕ) → has (bit_or a b) n ≡ (has a n || has b n)
has_or a b n = ap (λ (x : ℕ). eqb x 1) (bit_or_lem a b n) ∙ go (bit_cases a n) (bit_cases b n)
  where
    go : (bit a n ≡ 0) ⊎ (bit a n ≡ 1) → (bit b n ≡ 0) ⊎ (bit b n ≡ 1) → eqb (max (bit a n) (bit b n)) 1 ≡ (has a n || has b n)
    go (inl x) (inl y) = rw (x, y)
    go (inl x) (inr y) = rw (x, y)
    go (inr x) (inl y) = rw (x, y)
    go (inr x) (inr y) = rw (x, y)
