-- Laws of masks without one of their nodes, and of masks of ranks: wrapped round, gathered, and turned into nodes.
-- Assumes nothing.
use mathlib.Core.Path.{◌≡◌, refl, sym, ap, ap₂, ◌∙◌}
use mathlib.Core.Logic.{◌≢◌, ◌⊎◌, inl, inr, ⊎_elim}
use mathlib.Core.Bool.{Bool, true, false, ◌&&◌, ◌||◌, and-false, or-false, or_assoc}
use Prim.Native.Nat.{ℕ, zero, suc, ◌+◌, ◌-◌, ◌*◌, ◌/◌, ◌%◌, ◌^◌, ◌≤◌, ◌<◌, max}
use native.Mathlib.Nat.{le_refl, mod-lt, zero-lt-suc, zero-mul, one-mul, div-one, pow-suc, sub-add_cancel, add-div_right, add-mul-mod_self_right}
use native.Mathlib.Nat.{mod-eq_of_lt, lt_irrefl, div-add-mod', le_of_suc-le-suc, not-suc-le-zero, lt_of_not-le, lt_of_mul-lt-mul_right}
use native.Mathlib.Numerals.{lt_of_le_of_ne}
use native.Mathlib.Decide.{ℕ_discrete, le_ind}
use native.Mathlib.Omega.{arith}
use borrow.Author.Tests.{eqb-true, eq-eqb, leb-true, leb-false}
use lib.Arith.{lt-one}
use lib.Bits.{bit_and, bit_or, and_step, and_self, mask_lt}
use lib.Count.{count_trailing_zeros, under}
use lib.Dec.{eqb, leb}
use lib.Pow.{pow_pos}
use Rattle.rules.specs.Masks.{bit, has, rank, select, lowest, insert, image, mask_of, all_nodes}
use Rattle.rules.proofs.Lists.{both_true, same_test}
use Rattle.rules.proofs.Masks.{
  bit_lt,
  bit_cases,
  bit_above,
  bit_none,
  none_in,
  not_in,
  bit_suc,
  bit_or_lem,
  bit_and_lem,
  bit_insert,
  bit_one,
  bit_other,
  bit_below,
}
use Rattle.rules.proofs.Masks.{bit_shift, same_nodes, rank_step, IsNode, none_under, select_at, select_is, size_pos}
use Rattle.rules.proofs.Masks.{image_has, image_only, image_lt, below_width, has_or, mask_of_is, onto_lt, onto_member}

-- ---- a mask without one of its nodes

module _ (m n : ℕ) (h : bit m n ≡ 1) where
  -- a mask with node n is at least 2 ^ n
  pub member_le : 2 ^ n ≤ m
  member_le = le_of_suc-le-suc (lt_of_not-le (λ l. absurd (omega (arith, bit_above n m n l (le_refl n)))))

  taken : m ≡ (m - 2 ^ n) + 2 ^ n
  taken = sym (sub-add_cancel member_le)

  -- without node n, a mask has no node n
  pub without_self : bit (m - 2 ^ n) n ≡ 0
  without_self = omega (arith, h, ap (λ (x : ℕ). x / 2 ^ n) taken, add-div_right (m - 2 ^ n) (pow_pos n))

  -- and its other nodes are as they were
  pub without_other : (k : ℕ) → k ≢ n → bit (m - 2 ^ n) k ≡ bit m k
  without_other k d =
      let i : insert (m - 2 ^ n) n ≡ m = rw without_self (omega (arith, member_le)) in
      let b : bit m k ≡ max (bit (m - 2 ^ n) k) (bit (2 ^ n) k) = ap (λ (x : ℕ). bit x k) (sym i) ∙ bit_insert (m - 2 ^ n) n k in
      omega (arith, b, bit_other n k (λ e. d (sym e)))

  -- up to node n ranks are as they were
  without_below : (k : ℕ) → k ≤ n → rank (m - 2 ^ n) k ≡ rank m k
  unfolding rank
  without_below zero l = refl
  without_below (suc k) l = ap₂ (λ (a b : ℕ). a + b) (without_below k (omega arith)) (without_other k (λ e. lt_irrefl n (omega arith)))

  -- above node n they are one less
  pub without_rank : (k : ℕ) → n < k → suc (rank (m - 2 ^ n) k) ≡ rank m k
  without_rank k l =
      le_ind (λ (i : ℕ). suc (rank (m - 2 ^ n) i) ≡ rank m i)
      (omega (arith, rank_step (m - 2 ^ n) n, rank_step m n, without_below n (le_refl n), h, without_self))
      (λ i q e. omega (arith, rank_step (m - 2 ^ n) i, rank_step m i, without_other i (λ x. lt_irrefl n (omega arith))))
      k l

-- the lowest node is in the mask, and none below it is
pub lowest_is : (w m : ℕ) → 0 < m → m < 2 ^ w → IsNode m w 0 (lowest w m)
lowest_is w m p h = select_is w m 0 (size_pos w m p h)

-- `m & (m - 1)` is the mask without its lowest node
pub lowest_off : (w m : ℕ) → 0 < m → m < 2 ^ w → bit_and m (m - 1) + 2 ^ count_trailing_zeros w m ≡ m
unfolding count_trailing_zeros
lowest_off zero m p h = absurd (omega arith)
lowest_off (suc w) m p h = go (m % 2) refl (mod-lt m (zero-lt-suc 1)) (λ q. lowest_off w (m / 2) q (omega (arith, pow-suc 2 w)))
  where
    go : (d : ℕ) → m % 2 ≡ d → d < 2 → (0 < m / 2 → bit_and (m / 2) (m / 2 - 1) + 2 ^ count_trailing_zeros w (m / 2) ≡ m / 2)
        → bit_and m (m - 1) + 2 ^ under d (count_trailing_zeros w (m / 2)) ≡ m
    go zero e l ih =
        let t : ℕ = count_trailing_zeros w (m / 2) in
        let half : (m - 1) / 2 ≡ m / 2 - 1 = omega arith in
        omega (arith, and_step m (m - 1), ap (bit_and (m / 2)) half, ih (omega arith), pow-suc 2 t)
    go (suc zero) e l ih =
        let half : (m - 1) / 2 ≡ m / 2 = omega arith in
        omega (arith, and_step m (m - 1), ap (bit_and (m / 2)) half, and_self (m / 2))
    go (suc (suc d)) e l ih = absurd (not-suc-le-zero (le_of_suc-le-suc (le_of_suc-le-suc l)))

-- ---- wrapped round

-- Every bit of `laid` is a bit of u some times w further on, and those fewer than `turns` times w further on are laid.
pub record Laid (w u turns laid : ℕ) : Type 0 where
  pub only : (k : ℕ) → bit laid k ≡ 1 → (j : ℕ) × (bit u (k + j * w) ≡ 1)
  pub every : (k j : ℕ) → j < turns → bit u (k + j * w) ≡ 1 → bit laid k ≡ 1

-- u itself is laid once
pub laid_once : (w u : ℕ) → Laid w u 1 u
laid_once w u = record {
  only = λ k e. (0, ap (bit u) (omega (arith, zero-mul w)) ∙ e);
  every = λ k j l e. ap (bit u) (omega (arith, zero-mul w, ap (λ (x : ℕ). x * w) (lt-one l))) ∙ e;
}

-- laid over itself, it is laid twice as often
pub laid_twice : (w u turns laid step : ℕ) → step ≡ turns * w → Laid w u turns laid → Laid w u (turns + turns) (bit_or laid (laid / 2 ^ step))
laid_twice w u turns laid step q h = record { only = one; every = two }
  where
    bits : (k : ℕ) → bit (bit_or laid (laid / 2 ^ step)) k ≡ max (bit laid k) (bit laid (step + k))
    bits k = bit_or_lem laid (laid / 2 ^ step) k ∙ ap (max (bit laid k)) (bit_shift laid step k)

    one : (k : ℕ) → bit (bit_or laid (laid / 2 ^ step)) k ≡ 1 → (j : ℕ) × (bit u (k + j * w) ≡ 1)
    one k e = go (bit_cases laid k)
      where
        go : (bit laid k ≡ 0) ⊎ (bit laid k ≡ 1) → (j : ℕ) × (bit u (k + j * w) ≡ 1)
        go (inr o) = h.only k o
        go (inl z) =
            let x = h.only (step + k) (omega (arith, bits k, bit_lt laid (step + k))) in
            let at : k + (turns + x.0) * w ≡ (step + k) + x.0 * w = omega arith in
            (turns + x.0, ap (bit u) at ∙ x.1)

    two : (k j : ℕ) → j < turns + turns → bit u (k + j * w) ≡ 1 → bit (bit_or laid (laid / 2 ^ step)) k ≡ 1
    two k j l e = go (leb turns j) refl
      where
        go : (b : Bool) → leb turns j ≡ b → bit (bit_or laid (laid / 2 ^ step)) k ≡ 1
        go false f = omega (arith, bits k, h.every k j (leb-false turns j f) e, bit_lt laid (step + k))
        go true f =
            let m : turns ≤ j = leb-true turns j f in
            let j-is : turns + (j - turns) ≡ j = omega arith in
            let at : (step + k) + (j - turns) * w ≡ k + j * w = omega (arith, ap (λ (x : ℕ). x * w) j-is) in
            let o : bit laid (step + k) ≡ 1 = h.every (step + k) (j - turns) (omega arith) (ap (bit u) at ∙ e) in
            omega (arith, bits k, bit_lt laid k)

-- laid as often as there are bits, its lowest w bits are those of u, each moved to its number mod w
pub laid_all : (v w u turns laid : ℕ) → 0 < w → w ≤ v → u < 2 ^ v → v ≤ turns * w → Laid w u turns laid
    → bit_and laid (all_nodes w) ≡ image u (λ b. b % w) v
laid_all v w u turns laid p l f all h =
    same_nodes w (bit_and laid (all_nodes w)) (image u (λ b. b % w) v) (mask_lt laid w) (image_lt w u (λ b. b % w) v (λ b k e. mod-lt b p)) to from
  where
    to : (n : ℕ) → n < w → bit (bit_and laid (all_nodes w)) n ≡ 1 → bit (image u (λ b. b % w) v) n ≡ 1
    to n k e =
        let x = h.only n (omega (arith, bit_and_lem laid (all_nodes w) n, bit_below w n k)) in
        let at : (n + x.0 * w) % w ≡ n = add-mul-mod_self_right n x.0 w ∙ mod-eq_of_lt k in
        ap (bit (image u (λ b. b % w) v)) (sym at) ∙ image_has u (λ b. b % w) v (n + x.0 * w) (below_width v u (n + x.0 * w) f x.1) x.1

    from : (n : ℕ) → n < w → bit (image u (λ b. b % w) v) n ≡ 1 → bit (bit_and laid (all_nodes w)) n ≡ 1
    from n k e =
        let x = image_only u (λ b. b % w) v n e in
        let b : ℕ = x.0 in
        let parts : b / w * w + b % w ≡ b = div-add-mod' b w in
        let few : b / w < turns = lt_of_mul-lt-mul_right w (omega (arith, x.1)) in
        let o : bit laid n ≡ 1 = h.every n (b / w) few (ap (bit u) (omega (arith, x.3)) ∙ x.2) in
        omega (arith, bit_and_lem laid (all_nodes w) n, bit_below w n k)

-- ---- gathered

-- What is out are nodes f b of nodes b of u, and each node of u is still left or its f b is out.
pub record Gathered (u : ℕ) (f : ℕ → ℕ) (left out : ℕ) : Type 0 where
  pub still : (b : ℕ) → bit left b ≡ 1 → bit u b ≡ 1
  pub each : (b : ℕ) → bit u b ≡ 1 → (bit left b ≡ 1) ⊎ (bit out (f b) ≡ 1)
  pub only : (k : ℕ) → bit out k ≡ 1 → (b : ℕ) × (bit u b ≡ 1) × (f b ≡ k)

-- at first all are left
pub gathered_none : (u : ℕ) (f : ℕ → ℕ) → Gathered u f u 0
gathered_none u f = record { still = λ b e. e; each = λ b e. inl e; only = λ k e. absurd (omega (arith, bit_none k)) }

-- one node more
pub gathered_more : (u : ℕ) (f : ℕ → ℕ) (left out b : ℕ) {n next rest : ℕ} → bit left b ≡ 1 → n ≡ f b → next ≡ insert out n → rest ≡ left - 2 ^ b
    → Gathered u f left out → Gathered u f rest next
gathered_more u f left out b {n} {next} {rest} m en e q g = record { still = still; each = each; only = only }
  where
    other : (i : ℕ) → i ≢ b → bit rest i ≡ bit left i
    other i d = ap (λ (x : ℕ). bit x i) q ∙ without_other left b m i d

    self : bit rest b ≡ 0
    self = ap (λ (x : ℕ). bit x b) q ∙ without_self left b m

    has_next : (k : ℕ) → bit next k ≡ max (bit out k) (bit (2 ^ n) k)
    has_next k = ap (λ (x : ℕ). bit x k) e ∙ bit_insert out n k

    still : (i : ℕ) → bit rest i ≡ 1 → bit u i ≡ 1
    still i h = go (ℕ_discrete i b)
      where
        go : Dec (i ≡ b) → bit u i ≡ 1
        go (yes x) = absurd (omega (arith, ap (bit rest) x, self))
        go (no d) = g.still i (sym (other i d) ∙ h)

    put : bit next (f b) ≡ 1
    put = has_next (f b) ∙ omega (arith, bit_one n, ap (bit (2 ^ n)) en, bit_lt out (f b))

    each : (i : ℕ) → bit u i ≡ 1 → (bit rest i ≡ 1) ⊎ (bit next (f i) ≡ 1)
    each i h = go (ℕ_discrete i b) (g.each i h)
      where
        go : Dec (i ≡ b) → (bit left i ≡ 1) ⊎ (bit out (f i) ≡ 1) → (bit rest i ≡ 1) ⊎ (bit next (f i) ≡ 1)
        go (yes x) o = inr (ap (λ (y : ℕ). bit next (f y)) x ∙ put)
        go (no d) (inl o) = inl (other i d ∙ o)
        go (no d) (inr o) = inr (has_next (f i) ∙ omega (arith, bit_lt (2 ^ n) (f i)))

    only : (k : ℕ) → bit next k ≡ 1 → (b : ℕ) × (bit u b ≡ 1) × (f b ≡ k)
    only k h = go (bit_cases out k) (ℕ_discrete n k)
      where
        go : (bit out k ≡ 0) ⊎ (bit out k ≡ 1) → Dec (n ≡ k) → (b : ℕ) × (bit u b ≡ 1) × (f b ≡ k)
        go (inr o) d = g.only k o
        go (inl o) (yes x) = (b, g.still b m, sym en ∙ x)
        go (inl o) (no d) = absurd (omega (arith, has_next k, bit_other n k d))

-- at last all are out
pub gathered_all : (w u : ℕ) (f : ℕ → ℕ) (left out : ℕ) → u < 2 ^ w → out < 2 ^ w → ((b : ℕ) → b < w → f b < w) → left ≡ 0 → Gathered u f left out
    → out ≡ image u f w
gathered_all w u f left out hu ho hf z g = same_nodes w out (image u f w) ho (image_lt w u f w (λ b l e. hf b l)) to from
  where
    none_left : (b : ℕ) → bit left b ≡ 1 → ⊥
    none_left b e = omega (arith, ap (λ (x : ℕ). bit x b) z, bit_none b)

    to : (n : ℕ) → n < w → bit out n ≡ 1 → bit (image u f w) n ≡ 1
    to n l e = let x = g.only n e in ap (bit (image u f w)) (sym x.2) ∙ image_has u f w x.0 (below_width w u x.0 hu x.1) x.1

    from : (n : ℕ) → n < w → bit (image u f w) n ≡ 1 → bit out n ≡ 1
    from n l e = let x = image_only u f w n e in ⊎_elim (λ o. absurd (none_left x.0 o)) (λ o. ap (bit out) (sym x.3) ∙ o) (g.each x.0 x.2)

-- ---- the nodes of a set by their ranks

-- node n of a set has its rank among these
abbrev pub by_rank : ℕ → ℕ → ℕ → Bool
by_rank set ranks n = has set n && has ranks (rank set n)

-- the lowest node of a set takes the lowest bit; the others have theirs among the rest
pub ranked_split : (w set ranks t : ℕ) → IsNode set w 0 t → (n : ℕ) → by_rank set ranks n ≡ (has (ranks % 2 * 2 ^ t) n || by_rank (set - 2 ^ t) (ranks / 2) n)
ranked_split w set ranks t i n = go (ℕ_discrete n t) (leb t n) refl
  where
    -- one digit at place t
    digit : (d k : ℕ) → d < 2 → k ≢ t → has (d * 2 ^ t) k ≡ false
    digit zero k l h = rw (zero-mul (2 ^ t)) (none_in k)
    digit (suc zero) k l h = rw (one-mul (2 ^ t)) (not_in (2 ^ t) k (bit_other t k (λ x. h (sym x))))
    digit (suc (suc d)) k l h = absurd (not-suc-le-zero (le_of_suc-le-suc (le_of_suc-le-suc l)))

    own : (d : ℕ) → d < 2 → has (d * 2 ^ t) t ≡ eqb d 1
    own zero l = rw (zero-mul (2 ^ t)) (none_in t)
    own (suc zero) l = rw (one-mul (2 ^ t)) (eq-eqb (bit (2 ^ t) t) 1 (bit_one t))
    own (suc (suc d)) l = absurd (not-suc-le-zero (le_of_suc-le-suc (le_of_suc-le-suc l)))

    small : ranks % 2 < 2
    small = mod-lt ranks (zero-lt-suc 1)

    go : Dec (n ≡ t) → (b : Bool) → leb t n ≡ b → by_rank set ranks n ≡ (has (ranks % 2 * 2 ^ t) n || by_rank (set - 2 ^ t) (ranks / 2) n)
    go (yes e) b x =
        rw e
        (rw (
          eq-eqb (bit set t) 1 i.member,
          i.ranked,
          own (ranks % 2) small,
          not_in (set - 2 ^ t) t (without_self set t i.member),
        )
        (ap (λ (x : ℕ). eqb (x % 2) 1) (div-one ranks) ∙ sym (or-false (eqb (ranks % 2) 1))))
    go (no d) true x =
        let above : t < n = lt_of_le_of_ne (leb-true t n x) (λ e. d (sym e)) in
        rw (digit (ranks % 2) n small d, without_other set t i.member n d, ← without_rank set t i.member n above, bit_suc ranks (rank (set - 2 ^ t) n))
    go (no d) false x =
        rw (digit (ranks % 2) n small d, without_other set t i.member n d, none_under set t n i.ranked (leb-false t n x))

-- no rank is among none, and an empty set has no nodes
ranked_none : (set ranks n : ℕ) → (set ≡ 0) ⊎ (ranks ≡ 0) → by_rank set ranks n ≡ false
ranked_none set ranks n (inl z) = rw (z, none_in n)
ranked_none set ranks n (inr z) = rw (z, none_in (rank set n), and-false (has set n))

-- at first nothing is out
pub ranked_start : (set ranks n : ℕ) → (has 0 n || by_rank set ranks n) ≡ by_rank set ranks n
ranked_start set ranks n = rw (none_in n)

-- one turn of the loop: the lowest node takes the lowest bit
pub ranked_more : (w set ranks out n : ℕ) {t d next rest : ℕ} → 0 < set → set < 2 ^ w → t ≡ lowest w set → d ≡ ranks % 2 * 2 ^ t
    → rest ≡ set - 2 ^ lowest w set → next ≡ bit_or out d → (has next n || by_rank rest (ranks / 2) n) ≡ (has out n || by_rank set ranks n)
ranked_more w set ranks out n {t} {d} {next} {rest} p h et ed er en =
    rw (en, has_or out d n, er, ranked_split w set ranks (lowest w set) (lowest_is w set p h) n, ed, et) (or_assoc (has out n) _ _)

-- nothing is left: what is out is all
pub ranked_all : (w set ranks left bits out : ℕ) → out < 2 ^ w → (left ≡ 0) ⊎ (bits ≡ 0)
    → ((n : ℕ) → (has out n || by_rank left bits n) ≡ by_rank set ranks n) → out ≡ mask_of w (by_rank set ranks)
ranked_all w set ranks left bits out h e q =
    mask_of_is w out (by_rank set ranks) h (λ n l. sym (or-false (has out n)) ∙ ap (λ (b : Bool). has out n || b) (sym (ranked_none left bits n e)) ∙ q n)

-- ---- folded and remapped by ranks

-- nodes that take their ranks mod the size are the nodes whose rank is one of these
pub image_ranked : (w u : ℕ) (f r : ℕ → ℕ) (m : ℕ) → 0 < m → m < 2 ^ w → ((b : ℕ) → f b ≡ select w m (r b % rank m w))
    → mask_of w (by_rank m (image u (λ b. r b % rank m w) w)) ≡ image u f w
image_ranked w u f r m p h g = sym (mask_of_is w (image u f w) (by_rank m ranks) (onto_lt w u f r m p h g) same)
  where
    ranks : ℕ
    ranks = image u (λ b. r b % rank m w) w

    to : (n : ℕ) → bit (image u f w) n ≡ 1 → by_rank m ranks n ≡ true
    to n e =
        let x = image_only u f w n e in
        let i = onto_member w u f r m p h g x.0 in
        let o : bit ranks (r x.0 % rank m w) ≡ 1 = image_has u (λ b. r b % rank m w) w x.0 x.1 x.2 in
        rw (sym x.3) (rw (eq-eqb (bit m (f x.0)) 1 i.member, i.ranked) (eq-eqb (bit ranks (r x.0 % rank m w)) 1 o))

    from : (n : ℕ) → n < w → by_rank m ranks n ≡ true → bit (image u f w) n ≡ 1
    from n l e =
        let q = both_true {a = has m n} {b = has ranks (rank m n)} e in
        let x = image_only u (λ b. r b % rank m w) w (rank m n) (eqb-true (bit ranks (rank m n)) 1 q.1) in
        let same : f x.0 ≡ n = g x.0 ∙ select_at w m n (r x.0 % rank m w) l (eqb-true (bit m n) 1 q.0) (sym x.3) in
        ap (bit (image u f w)) (sym same) ∙ image_has u f w x.0 x.1 x.2

    same : (n : ℕ) → n < w → has (image u f w) n ≡ by_rank m ranks n
    same n l = same_test (λ t. to n (eqb-true (bit (image u f w) n) 1 t)) (λ t. eq-eqb (bit (image u f w) n) 1 (from n l t))

-- the image of an image
pub image_image : (w u : ℕ) (f g : ℕ → ℕ) → ((b : ℕ) → b < w → f b < w) → ((b : ℕ) → g b < w) → image (image u f w) g w ≡ image u (λ b. g (f b)) w
image_image w u f g hf hg =
    same_nodes w (image (image u f w) g w) (image u (λ b. g (f b)) w)
    (image_lt w (image u f w) g w (λ b l e. hg b)) (image_lt w u (λ b. g (f b)) w (λ b l e. hg (f b))) to from
  where
    to : (n : ℕ) → n < w → bit (image (image u f w) g w) n ≡ 1 → bit (image u (λ b. g (f b)) w) n ≡ 1
    to n l e =
        let x = image_only (image u f w) g w n e in
        let y = image_only u f w x.0 x.2 in
        let at : g (f y.0) ≡ n = ap g y.3 ∙ x.3 in
        ap (bit (image u (λ b. g (f b)) w)) (sym at) ∙ image_has u (λ b. g (f b)) w y.0 y.1 y.2

    from : (n : ℕ) → n < w → bit (image u (λ b. g (f b)) w) n ≡ 1 → bit (image (image u f w) g w) n ≡ 1
    from n l e =
        let x = image_only u (λ b. g (f b)) w n e in
        ap (bit (image (image u f w) g w)) (sym x.3) ∙ image_has (image u f w) g w (f x.0) (hf x.0 x.1) (image_has u f w x.0 x.1 x.2)
