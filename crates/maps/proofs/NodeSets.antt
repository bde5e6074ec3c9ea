-- The set of some nodes, and when they are different.
-- Assumes nothing.
use Prim.Native.Nat.{ℕ, zero, suc, ◌+◌, ◌-◌, ◌≤◌, ◌<◌}
use mathlib.Core.Path.{◌≡◌, refl, sym, ap, ap₂, ◌∙◌}
use mathlib.Core.Logic.{◌≢◌}
use mathlib.Core.Bool.{Bool, true, false, not, ◌&&◌, ◌||◌, or-false, or_comm}
use mathlib.Core.List.{List, [], ◌∷◌, ◌++◌}
use native.Mathlib.Decide.{ℕ_discrete}
use native.Mathlib.Omega.{arith}
use borrow.Author.Tests.{eqb-true, eqb-false, eq-eqb, ne_eqb, ltb-true}
use lib.Dec.{eqb, ltb}
use lib.ListN.{length, take, drop}
use lib.Bits.{or_lt}
use lib.Pow.{pow_pos}
use Rattle.rules.specs.Basics.{all, any}
use Rattle.rules.specs.Maps.{is_in, different, set_of}
use Rattle.rules.specs.Masks.{most_nodes, bit, has, either, rank, insert}
use Rattle.rules.proofs.Lists.{same_test, both_true, any_append}
use Rattle.rules.proofs.Masks.{bit_lt, bit_none, either_has, mask_of_same, rank_step, rank_le, none_in, has_insert}
use Rattle.rules.proofs.Masks.{has_insert_other, insert_lt, size_insert, mask_of_lt, has_mask_of, mask_of_is}
use Rattle.machine.proofs.Tables.{parts_all}

-- the set of no nodes
pub set_none : 0 ≡ set_of []
unfolding set_of any
set_none = mask_of_is most_nodes 0 (is_in []) (pow_pos most_nodes) (λ n l. none_in n)

-- it has no size
empty_size : (w : ℕ) → rank 0 w ≡ 0
empty_size zero = omega (arith, rank_le 0 0)
empty_size (suc w) = omega (arith, rank_step 0 w, empty_size w, bit_none w)

-- the set of some nodes has those below 64
pub set_has : (ks : List ℕ) (b : ℕ) → b < most_nodes → has (set_of ks) b ≡ is_in ks b
unfolding set_of
set_has ks b l = has_mask_of most_nodes (is_in ks) b l

-- the set of a list with one node more
set_with : (xs ys : List ℕ) (k : ℕ) → k < most_nodes → ((n : ℕ) → is_in ys n ≡ (eqb n k || is_in xs n)) → insert (set_of xs) k ≡ set_of ys
unfolding set_of
set_with xs ys k h e =
    mask_of_is most_nodes (insert (set_of xs) k) (is_in ys) (insert_lt most_nodes (set_of xs) k (mask_of_lt most_nodes (is_in xs)) h)
    (λ n l. go n l (ℕ_discrete n k))
  where
    go : (n : ℕ) → n < most_nodes → Dec (n ≡ k) → has (insert (set_of xs) k) n ≡ is_in ys n
    go n l (yes q) = ap (has (insert (set_of xs) k)) q ∙ has_insert (set_of xs) k ∙ sym (e n ∙ rw (eq-eqb n k q) refl)
    go n l (no d) = has_insert_other (set_of xs) k n d ∙ set_has xs n l ∙ sym (e n ∙ rw (ne_eqb n k d) refl)

-- at its end
pub set_more : (ks : List ℕ) (b : ℕ) → b < most_nodes → insert (set_of ks) b ≡ set_of (ks ++ (b ∷ []))
unfolding any
set_more ks b h =
    set_with ks (ks ++ (b ∷ [])) b h
    (λ n. any_append (eqb n) ks (b ∷ []) ∙ ap (λ (t : Bool). is_in ks n || t) (or-false (eqb n b)) ∙ or_comm (is_in ks n) (eqb n b))

-- a byte that is no node's number adds none
pub set_past : (ks : List ℕ) (b : ℕ) → most_nodes ≤ b → set_of ks ≡ set_of (ks ++ (b ∷ []))
unfolding set_of any
set_past ks b h =
    mask_of_same most_nodes (is_in ks) (is_in (ks ++ (b ∷ [])))
    (λ n l. sym (any_append (eqb n) ks (b ∷ []) ∙ rw (ne_eqb n b (λ q. omega arith)) (or-false (is_in ks n))))

-- the set of two lists
pub set_either : (xs ys : List ℕ) → either (set_of xs) (set_of ys) ≡ set_of (xs ++ ys)
unfolding set_of
set_either xs ys =
    mask_of_is most_nodes (either (set_of xs) (set_of ys)) (is_in (xs ++ ys))
    (or_lt most_nodes (set_of xs) (set_of ys) (mask_of_lt most_nodes (is_in xs)) (mask_of_lt most_nodes (is_in ys)))
    (λ n l. either_has (set_of xs) (set_of ys) n
    ∙ ap₂ (λ (s t : Bool). s || t) (set_has xs n l) (set_has ys n l) ∙ sym (any_append (eqb n) xs ys))

-- some one passes where not all fail
any_all : (p : ℕ → Bool) (xs : List ℕ) → any p xs ≡ not (all (λ x. not (p x)) xs)
unfolding any all
any_all p [] = refl
any_all p (x ∷ xs) = go (p x) (any_all p xs)
  where
    go : (t : Bool) → any p xs ≡ not (all (λ x. not (p x)) xs) → (t || any p xs) ≡ not (not t && all (λ x. not (p x)) xs)
    go true ih = refl
    go false ih = ih

not_and : (s t : Bool) → not (s && t) ≡ (not s || not t)
not_and true t = refl
not_and false t = refl

-- the set of two parts that are all
pub set_parts : (xs : List ℕ) (to from : ℕ) → to ≤ length xs → from ≤ to → set_of (take to xs ++ drop from xs) ≡ set_of xs
unfolding set_of
set_parts xs to from h l = mask_of_same most_nodes (is_in (take to xs ++ drop from xs)) (is_in xs) (λ n k. same (eqb n))
  where
    same : (p : ℕ → Bool) → any p (take to xs ++ drop from xs) ≡ any p xs
    same p =
        any_append p (take to xs) (drop from xs)
        ∙ ap₂ (λ (s t : Bool). s || t) (any_all p (take to xs)) (any_all p (drop from xs))
        ∙ sym (not_and (all (λ x. not (p x)) (take to xs)) (all (λ x. not (p x)) (drop from xs)))
        ∙ ap not (parts_all (λ x. not (p x)) xs to from h l) ∙ sym (any_all p xs)

-- two numbers are the same where the next ones are
next_same : (a b : ℕ) → eqb (suc a) (suc b) ≡ eqb a b
next_same a b =
    same_test (λ e. let q = eqb-true (suc a) (suc b) e in eq-eqb a b (omega arith)) (λ e. let q = eqb-true a b e in eq-eqb (suc a) (suc b) (omega arith))

-- The set of some nodes has no more of them than the list, and as many exactly where they are different.
pub record Sized (ks : List ℕ) : Type 0 where
  pub few : rank (set_of ks) most_nodes ≤ length ks
  pub all_of : eqb (rank (set_of ks) most_nodes) (length ks) ≡ different ks

pub sized : (ks : List ℕ) → all (λ k. ltb k most_nodes) ks ≡ true → Sized ks
unfolding all any different
sized [] h =
    let none : rank (set_of []) most_nodes ≡ 0 = ap (λ (m : ℕ). rank m most_nodes) (sym set_none) ∙ empty_size most_nodes in
    record { few = omega arith; all_of = rw none refl }
sized (k ∷ ks) h =
    let a = both_true {a = ltb k most_nodes} h in
    go (ltb-true k most_nodes a.0) (sized ks a.1) (is_in ks k) refl
  where
    go : k < most_nodes → Sized ks → (t : Bool) → is_in ks k ≡ t → Sized (k ∷ ks)
    go l ih t e =
        let more : rank (set_of (k ∷ ks)) most_nodes ≡ rank (set_of ks) most_nodes + (1 - bit (set_of ks) k) =
        ap (λ (m : ℕ). rank m most_nodes) (sym (set_with ks (k ∷ ks) k l (λ n. refl))) ∙ size_insert most_nodes (set_of ks) k l in
        by t (set_has ks k l ∙ e) e more ih
      where
        by : (t : Bool) → has (set_of ks) k ≡ t → is_in ks k ≡ t
            → rank (set_of (k ∷ ks)) most_nodes ≡ rank (set_of ks) most_nodes + (1 - bit (set_of ks) k) → Sized ks → Sized (k ∷ ks)
        by true s e more ih =
            let one : bit (set_of ks) k ≡ 1 = eqb-true (bit (set_of ks) k) 1 s in
            let less : rank (set_of (k ∷ ks)) most_nodes < length (k ∷ ks) = omega (arith, ih.few) in
            record { few = omega arith; all_of = ne_eqb (rank (set_of (k ∷ ks)) most_nodes) (length (k ∷ ks)) (λ q. omega arith) ∙ rw e refl }
        by false s e more ih =
            let none : bit (set_of ks) k ≢ 1 = eqb-false (bit (set_of ks) k) 1 s in
            let next : rank (set_of (k ∷ ks)) most_nodes ≡ suc (rank (set_of ks) most_nodes) = omega (arith, bit_lt (set_of ks) k) in
            record { few = omega (arith, ih.few); all_of = rw (next, e) (next_same (rank (set_of ks) most_nodes) (length ks) ∙ ih.all_of) }
