-- The picker's answer on a node's part of the page table, told of the whole table: the laws that its callers need.
-- Assumes nothing.
use Prim.Native.Nat.{ℕ, zero, suc, ◌+◌, ◌-◌, ◌≤◌, ◌<◌}
use mathlib.Core.Path.{◌≡◌, refl, ap, sym, ◌∙◌}
use mathlib.Core.Bool.{Bool, true, false, not, cond}
use mathlib.Core.List.{List, [], ◌∷◌, ◌++◌, map}
use Rattle.std.specs.Prelude.{Option, Some, None, is_some}
use native.Mathlib.Nat.{add-zero, add-sub_cancel_left}
use native.Mathlib.Omega.{arith}
use lib.Dec.{eqb}
use lib.ListN.{length, get_or, take, drop, length-take, length-drop}
use lib.Seq.{get_or-take, get_or-drop}
use Rattle.rules.specs.Basics.{keep, first, is_nil, from}
use Rattle.pages.specs.declared.Offset.{Offset}
use Rattle.pages.specs.FirstZero.{offset_of, shift}
use Rattle.pages.specs.Colours.{is_free, is_of, free_from, free_of, pick_of}

-- numbers that are each a more, and a test of them
module _ (p q : ℕ → Bool) (a : ℕ) where
  moved_keep : (xs : List ℕ) → ((i : ℕ) → p (a + i) ≡ q i) → keep p (map (λ i. a + i) xs) ≡ map (λ i. a + i) (keep q xs)
  unfolding keep
  moved_keep [] h = refl
  moved_keep (x ∷ xs) h = rw (h x, moved_keep xs h) (go (q x))
    where
      go : (t : Bool) → cond t ((a + x) ∷ map (λ i. a + i) (keep q xs)) (map (λ i. a + i) (keep q xs)) ≡ map (λ i. a + i) (cond t (x ∷ keep q xs) (keep q xs))
      go true = refl
      go false = refl

  moved : (b k : ℕ) → ((i : ℕ) → i < b + k → p (a + i) ≡ q i) → keep p (from (a + b) k) ≡ map (λ i. a + i) (keep q (from b k))
  unfolding keep from
  moved b zero h = refl
  moved b (suc k) h =
      let s : suc (a + b) ≡ a + suc b = omega arith in
      rw (h b (omega arith), s, moved (suc b) k (λ i l. h i (omega arith))) (go (q b))
    where
      rest : List ℕ
      rest = keep q (from (suc b) k)

      go : (t : Bool) → cond t ((a + b) ∷ map (λ i. a + i) rest) (map (λ i. a + i) rest) ≡ map (λ i. a + i) (cond t (b ∷ rest) rest)
      go true = refl
      go false = refl

first_moved : (a : ℕ) (xs ys : List ℕ) → shift a (first (xs ++ ys)) ≡ first (map (λ i. a + i) xs ++ map (λ i. a + i) ys)
unfolding first
first_moved a [] [] = refl
first_moved a [] (y ∷ ys) = refl
first_moved a (x ∷ xs) ys = refl

-- the free pages of a part are those of the table, moved
free_moved : (ledger : List ℕ) (a k : ℕ) → a + k ≤ length ledger
    → keep (λ p. eqb (get_or ledger p 1) 0) (from a k) ≡ map (λ i. a + i) (free_from 0 (take k (drop a ledger)))
unfolding free_from is_free
free_moved ledger a k l =
    let long : length (take k (drop a ledger)) - 0 ≡ k = simp (length-take, length-drop) (omega arith) in
    rw long
    (ap (λ (b : ℕ). keep (λ p. eqb (get_or ledger p 1) 0) (from b k)) (sym (add-zero a))
    ∙ moved (λ p. eqb (get_or ledger p 1) 0) (is_free (take k (drop a ledger))) a 0 k
    (λ i u. ap (λ (x : ℕ). eqb x 0) (sym (get_or-take k (drop a ledger) i 1 (omega arith) ∙ get_or-drop a ledger i 1))))

-- of the k pages from a on: the first free one whose offset is of the colour, else the first free one
pub pick_part : (c : ℕ) (ledger : List ℕ) (a k : ℕ) → a + k ≤ length ledger
    → shift a (pick_of c (take k (drop a ledger)))
    ≡ first (keep (λ p. is_of c (p - a)) (keep (λ p. eqb (get_or ledger p 1) 0) (from a k)) ++ keep (λ p. eqb (get_or ledger p 1) 0) (from a k))
unfolding pick_of free_of
pick_part c ledger a k l =
    let free = free_from 0 (take k (drop a ledger)) in
    rw (free_moved ledger a k l, moved_keep (λ p. is_of c (p - a)) (is_of c) a free (λ i. ap (is_of c) (add-sub_cancel_left a i)))
    (first_moved a (keep (is_of c) free) free)

-- ---- is there a free page?

-- a search for the first of a list finds one exactly where the list has one
pub some_found : (r : Option Offset) (xs : List ℕ) → offset_of r ≡ first xs → is_some r ≡ not (is_nil xs)
unfolding first is_nil
some_found (Some i) [] e = absurd (let z : ◌≡◌ {A = ℕ} 0 1 = cc in omega arith)
some_found (Some i) (x ∷ xs) e = refl
some_found None [] e = refl
some_found None (x ∷ xs) e = absurd (let z : ◌≡◌ {A = ℕ} 0 1 = cc in omega arith)

-- of the k pages from a on: some one is free exactly where one of the part is
pub free_part : (ledger : List ℕ) (a k : ℕ) → a + k ≤ length ledger
    → is_nil (free_from 0 (take k (drop a ledger))) ≡ is_nil (keep (λ p. eqb (get_or ledger p 1) 0) (from a k))
unfolding is_nil
free_part ledger a k l = rw (free_moved ledger a k l) (go (free_from 0 (take k (drop a ledger))))
  where
    go : (xs : List ℕ) → is_nil xs ≡ is_nil (map (λ i. a + i) xs)
    go [] = refl
    go (x ∷ xs) = refl
