-- Laws on where the strings of a list start. Assumes nothing.
use mathlib.Core.Path.{◌≡◌, refl, sym, ap, ◌∙◌}
use mathlib.Core.Bool.{Bool, true, false}
use mathlib.Core.List.{List, [], ◌∷◌, ◌++◌}
use Prim.Native.Nat.{ℕ, zero, suc, ◌+◌, ◌≤◌, ◌<◌}
use native.Mathlib.Omega.{arith}
use lib.Dec.{ltb}
use lib.ListN.{length, take, drop, get_or}
use lib.Seq.{drop-drop, length-take-le, drop-cons}
use borrow.Author.Tests.{ltb-true, ltb-false}
use Rattle.rules.specs.Notes.{strings, size_of, in_front}
use Rattle.notes.specs.Steps.{word_length, Split}
use Rattle.notes.proofs.Words.{strings_found, strings_none}

-- ---- the loop that passes k strings: left is the rest of the bytes, and m strings are still to be passed

pub record Passed (bytes left : List ℕ) (k m : ℕ) : Type 0 where
  pub rest : drop (size_of (take k (strings bytes))) bytes ≡ drop (size_of (take m (strings left))) left
  pub size : size_of (take k (strings bytes)) + length left ≡ length bytes + size_of (take m (strings left))

pub passed_start : (bytes : List ℕ) (k m : ℕ) → m ≡ k → Passed bytes bytes k m
passed_start bytes k m e = rw e (record { rest = refl; size = omega arith })

module _ (bytes left : List ℕ) (k m : ℕ) (h : Passed bytes left k m) where
  passed_end : size_of (take m (strings left)) ≡ 0 → (left ≡ drop (size_of (take k (strings bytes))) bytes) × (size_of (take k (strings bytes)) ≤ length bytes)
  passed_end z = (sym (h.rest ∙ ap (λ (s : ℕ). drop s left) z), omega (arith, h.size, z))

  -- no string is left
  pub passed_last : strings left ≡ [] → (left ≡ drop (size_of (take k (strings bytes))) bytes) × (size_of (take k (strings bytes)) ≤ length bytes)
  unfolding size_of
  passed_last e = passed_end (rw e (none m))
    where
      none : (m : ℕ) → size_of (take m []) ≡ 0
      none zero = refl
      none (suc m) = refl

  -- all are passed
  pub passed_all : m ≡ 0 → (left ≡ drop (size_of (take k (strings bytes))) bytes) × (size_of (take k (strings bytes)) ≤ length bytes)
  unfolding size_of
  passed_all e = passed_end (rw e refl)

  -- a string and its zero are passed
  pub passed_next : (word rest : List ℕ) (p : ℕ) → m ≡ suc p → Split left word rest → Passed bytes rest k p
  unfolding size_of
  passed_next word rest p e s =
      let n = size_of (take p (strings rest)) in
      let q : size_of (take m (strings left)) ≡ suc (length word) + n = rw (e, s.first) refl in
      record {
        rest = h.rest ∙ ap (λ (l : ℕ). drop l left) q ∙ sym (drop-drop n (suc (length word)) left) ∙ ap (drop n) (sym s.behind);
        size = omega (arith, h.size, q, s.size);
      }

-- ---- the k-th string and where it starts

-- the first string is the bytes before the first zero, and the zero is there
pub first_word : (xs w : List ℕ) (ws : List (List ℕ)) → strings xs ≡ w ∷ ws → (word_length xs < length xs) × (w ≡ take (word_length xs) xs)
first_word xs w ws e = by (ltb (word_length xs) (length xs)) refl
  where
    by : (t : Bool) → ltb (word_length xs) (length xs) ≡ t → (word_length xs < length xs) × (w ≡ take (word_length xs) xs)
    by true t =
        let l = ltb-true (word_length xs) (length xs) t in
        (l, ap (λ (vs : List (List ℕ)). get_or vs 0 []) (sym e ∙ strings_found xs l))
    by false t =
        let none : length (strings xs) ≡ 0 = ap length (strings_none xs (ltb-false (word_length xs) (length xs) t)) in
        absurd (omega (arith, none, ap length e))

-- the strings from the k-th on are those behind the bytes of the k before them
strings_next : (k : ℕ) (xs : List ℕ) → ((ys : List ℕ) → drop k (strings ys) ≡ strings (drop (size_of (take k (strings ys))) ys))
    → drop (suc k) (strings xs) ≡ strings (drop (size_of (take (suc k) (strings xs))) xs)
unfolding size_of
strings_next k xs more = by (ltb (word_length xs) (length xs)) refl
  where
    by : (t : Bool) → ltb (word_length xs) (length xs) ≡ t → drop (suc k) (strings xs) ≡ strings (drop (size_of (take (suc k) (strings xs))) xs)
    by true t =
        let l = ltb-true (word_length xs) (length xs) t in
        let rest = drop (suc (word_length xs)) xs in
        let n : length (take (word_length xs) xs) ≡ word_length xs = length-take-le (word_length xs) xs (omega arith) in
        rw (strings_found xs l, n) (more rest ∙ ap strings (drop-drop (size_of (take k (strings rest))) (suc (word_length xs)) xs))
    by false t =
        let none : strings xs ≡ [] = strings_none xs (ltb-false (word_length xs) (length xs) t) in
        ap (drop (suc k)) none ∙ sym none ∙ ap (λ (ws : List (List ℕ)). strings (drop (size_of (take (suc k) ws)) xs)) (sym none)

strings_from : (k : ℕ) (xs : List ℕ) → drop k (strings xs) ≡ strings (drop (size_of (take k (strings xs))) xs)
unfolding size_of
strings_from zero xs = refl
strings_from (suc k) xs = strings_next k xs (strings_from k)

module _ (xs : List ℕ) (k : ℕ) (l : k < length (strings xs)) where
  abbrev start : ℕ
  start = size_of (take k (strings xs))

  abbrev name : List ℕ
  name = get_or (strings xs) k []

  found : (word_length (drop start xs) < length (drop start xs)) × (name ≡ take (word_length (drop start xs)) (drop start xs))
  found = first_word (drop start xs) name (drop (suc k) (strings xs)) (sym (strings_from k xs) ∙ drop-cons (strings xs) k [] l)

  -- the k-th string ends at the first zero from its start on
  pub string_length : word_length (drop start xs) ≡ length name
  string_length = sym (ap length found.1 ∙ length-take-le (word_length (drop start xs)) (drop start xs) (omega (arith, found.0)))

  -- and these are its bytes
  pub string_bytes : take (length name) (drop start xs) ≡ name
  string_bytes = ap (λ (m : ℕ). take m (drop start xs)) (sym string_length) ∙ sym found.1

-- ---- two lists, one behind the other

front_append : (x : ℕ) (ws vs : List (List ℕ)) → 0 < length ws → in_front x (ws ++ vs) ≡ in_front x ws ++ vs
unfolding in_front
front_append x [] vs l = absurd (omega arith)
front_append x (w ∷ ws) vs l = refl

front_size : (x n : ℕ) (ws : List (List ℕ)) → size_of (in_front x ws) ≡ suc n → (0 < length ws) × (size_of ws ≡ n)
unfolding in_front size_of
front_size x n [] e = absurd (omega arith)
front_size x n (w ∷ ws) e = (omega arith, omega arith)

-- the strings of a list that they fill, and of what stands behind it
pub strings_append : (xs ys : List ℕ) → size_of (strings xs) ≡ length xs → strings (xs ++ ys) ≡ strings xs ++ strings ys
unfolding strings size_of
strings_append [] ys e = refl
strings_append (zero ∷ xs) ys e = ap (λ (ws : List (List ℕ)). [] ∷ ws) (strings_append xs ys (omega arith))
strings_append (suc x ∷ xs) ys e =
    let f = front_size (suc x) (length xs) (strings xs) e in
    ap (in_front (suc x)) (strings_append xs ys f.1) ∙ front_append (suc x) (strings xs) (strings ys) f.0
