-- Laws on the bytes up to the first zero, and on equal lists of bytes. Assumes nothing.
use mathlib.Core.Path.{◌≡◌, refl, sym, ap, ap₂, ◌∙◌}
use mathlib.Core.Bool.{Bool, true, false, cond, ◌&&◌}
use mathlib.Core.List.{List, [], ◌∷◌}
use Prim.Native.Nat.{ℕ, zero, suc, ◌+◌, ◌-◌, ◌≤◌, ◌<◌}
use native.Mathlib.Omega.{arith}
use lib.Dec.{eqb, ltb}
use lib.Pointwise.{pointwise}
use lib.ListN.{length, take, drop, length-drop}
use lib.Seq.{length-take-le, take-length}
use borrow.Author.Tests.{ne_eqb, ltb-false}
use Rattle.std.specs.Prelude.{Some, None}
use Rattle.std.specs.List.{position_or_len}
use Rattle.std.specs.Option.{unwrap_or}
use Rattle.rules.specs.Basics.{same}
use Rattle.rules.specs.Notes.{strings, in_front}
use Rattle.notes.specs.Steps.{word_length, Split}

-- ---- the first zero

pub word_within : (xs : List ℕ) → word_length xs ≤ length xs
unfolding word_length
word_within [] = omega arith
word_within (zero ∷ xs) = omega arith
word_within (suc x ∷ xs) = omega (arith, word_within xs)

first_zero : (xs : List ℕ) → position_or_len (λ x. eqb x 0) xs ≡ word_length xs
unfolding word_length
first_zero [] = refl
first_zero (zero ∷ xs) = refl
first_zero (suc x ∷ xs) = rw (ne_eqb (suc x) 0 (λ e. omega arith)) (omega (arith, first_zero xs))

-- the first zero as `position` finds it, else the end
pub zero_or_end : (xs : List ℕ) → let at = position_or_len (λ x. eqb x 0) xs in
    unwrap_or (cond (ltb at (length xs)) (Some at) None) (length xs) ≡ word_length xs
zero_or_end xs = rw (first_zero xs) (by (ltb (word_length xs) (length xs)) refl)
  where
    by : (t : Bool) → ltb (word_length xs) (length xs) ≡ t → unwrap_or (cond t (Some (word_length xs)) None) (length xs) ≡ word_length xs
    by true e = refl
    by false e = omega (arith, word_within xs, ltb-false (word_length xs) (length xs) e)

-- a string that ends in a zero comes first, those after its zero follow
pub strings_found : (xs : List ℕ) → word_length xs < length xs → strings xs ≡ take (word_length xs) xs ∷ strings (drop (suc (word_length xs)) xs)
unfolding word_length strings in_front
strings_found [] l = absurd (omega arith)
strings_found (zero ∷ xs) l = refl
strings_found (suc x ∷ xs) l = ap (in_front (suc x)) (strings_found xs (omega arith))

-- bytes with no zero make no string
pub strings_none : (xs : List ℕ) → length xs ≤ word_length xs → strings xs ≡ []
unfolding word_length strings in_front
strings_none [] l = refl
strings_none (zero ∷ xs) l = absurd (omega arith)
strings_none (suc x ∷ xs) l = ap (in_front (suc x)) (strings_none xs (omega arith))

-- ---- equal bytes

same_bytes : (xs ys : List ℕ) → pointwise eqb xs ys ≡ same xs ys
unfolding same
same_bytes [] [] = refl
same_bytes [] (y ∷ ys) = refl
same_bytes (x ∷ xs) [] = refl
same_bytes (x ∷ xs) (y ∷ ys) = ap (λ (b : Bool). eqb x y && b) (same_bytes xs ys)

-- what `==` says of two slices
pub equal_is : (b : Bool) (xs ys zs : List ℕ) → b ≡ pointwise eqb xs ys → ys ≡ zs → b ≡ same xs zs
equal_is b xs ys zs e f = e ∙ same_bytes xs ys ∙ ap (same xs) f

-- ---- parts of bytes as the code takes them

pub rest_is : (xs : List ℕ) (at : ℕ) → take (length xs - at) (drop at xs) ≡ drop at xs
rest_is xs at = ap (λ (m : ℕ). take m (drop at xs)) (sym (length-drop at xs)) ∙ take-length (drop at xs)

-- a zero at e: the bytes before it are the first string
pub split_at : (xs word rest : List ℕ) (e : ℕ) → e ≡ word_length xs → e ≤ length xs → (e ≡ length xs → ⊥) → word ≡ take e xs → rest ≡ drop (e + 1) xs
    → Split xs word rest
split_at xs word rest e p l n f g =
    let m : length word ≡ e = ap length f ∙ length-take-le e xs l in
    let s : suc (word_length xs) ≡ e + 1 = omega arith in
    record {
      first =
          strings_found xs (omega arith) ∙ ap₂ (λ (a b : ℕ). take a xs ∷ strings (drop b xs)) (sym p) s
          ∙ ap₂ (λ (w r : List ℕ). w ∷ strings r) (sym f) (sym g);
      size = omega (arith, m, ap length g, length-drop (e + 1) xs);
      behind = let q : e + 1 ≡ suc (length word) = omega arith in g ∙ ap (λ (k : ℕ). drop k xs) q;
    }
