-- Entries written one after the other over a list of equal ones.
-- Assumes nothing.
use Prim.Native.Nat.{ℕ, zero, suc, ◌+◌, ◌-◌, ◌≤◌, ◌<◌}
use mathlib.Core.Path.{◌≡◌, refl, sym, ap, ◌∙◌}
use mathlib.Core.Bool.{Bool, true, false, ◌&&◌}
use mathlib.Core.Logic.{◌⊎◌, inl, inr, ⊎_elim}
use mathlib.Core.List.{List, [], ◌∷◌, ◌++◌}
use native.Mathlib.Nat.{zero-add}
use native.Mathlib.Numerals.{add-one}
use native.Mathlib.Omega.{arith}
use borrow.Author.Tests.{ltb-false}
use lib.Dec.{ltb}
use lib.ListN.{length, get_or, take, drop, set, replicate, length-replicate}
use lib.Seq.{paste, paste-zero, paste-suc, take-append-add}

-- the first i of some entries, and v after them, w in all
unfoldable pub filled : ℕ → ℕ → List ℕ → ℕ → List ℕ
filled w v xs i = paste (replicate w v) 0 xs i

-- none is written yet
pub fill_none : (w v : ℕ) (xs : List ℕ) → replicate w v ≡ filled w v xs 0
unfolding filled
fill_none w v xs = paste-zero (replicate w v) 0 xs

-- one entry more is written
pub fill_step : (w v : ℕ) (xs : List ℕ) (i d : ℕ) → i < length xs → i < w → set (filled w v xs i) i (get_or xs i d) ≡ filled w v xs (i + 1)
unfolding filled
fill_step w v xs i d h l =
    ap (λ (k : ℕ). set (paste (replicate w v) 0 xs i) k (get_or xs i d)) (sym (zero-add i))
    ∙ paste-suc (replicate w v) 0 xs i d (rw (zero-add i, length-replicate) l) h
    ∙ ap (paste (replicate w v) 0 xs) (sym (add-one i))

-- the first of so many equal ones
pub equal_take : (k n v : ℕ) → k ≤ n → take k (replicate n v) ≡ replicate k v
equal_take zero n v h = refl
equal_take (suc k) zero v h = absurd (omega arith)
equal_take (suc k) (suc n) v h = ap (λ (xs : List ℕ). v ∷ xs) (equal_take k n v (omega arith))

-- the first i and v up to w are the first w of all and v, where no further one is there or has room
filled_up_lem : (w n v : ℕ) (xs : List ℕ) (i : ℕ) → w ≤ n → i ≤ length xs → i ≤ w → (length xs ≤ i) ⊎ (w ≤ i)
    → take i xs ++ drop i (replicate w v) ≡ take w (xs ++ replicate n v)
filled_up_lem w n v [] zero a b c e = sym (equal_take w n v a)
filled_up_lem w n v [] (suc i) a b c e = absurd (omega arith)
filled_up_lem zero n v (x ∷ xs) zero a b c e = refl
filled_up_lem zero n v (x ∷ xs) (suc i) a b c e = absurd (omega arith)
filled_up_lem (suc w) n v (x ∷ xs) zero a b c (inl e) = absurd (omega arith)
filled_up_lem (suc w) n v (x ∷ xs) zero a b c (inr e) = absurd (omega arith)
filled_up_lem (suc w) n v (x ∷ xs) (suc i) a b c e =
    ap (λ (ys : List ℕ). x ∷ ys)
    (filled_up_lem w n v xs i (omega arith) (omega arith) (omega arith) (⊎_elim (λ l. inl (omega arith)) (λ l. inr (omega arith)) e))

-- all that have room are written
pub fill_end : (w v : ℕ) (xs : List ℕ) (i : ℕ) → i ≤ length xs → i ≤ w → (length xs ≤ i) ⊎ (w ≤ i) → filled w v xs i ≡ take w (xs ++ replicate w v)
unfolding filled
fill_end w v xs i a b e =
    ap (λ (k : ℕ). take i xs ++ drop k (replicate w v)) (zero-add i) ∙ filled_up_lem w w v xs i (omega arith) a b e

-- where all have room, v follows them up to w
pub fill_short : (w v : ℕ) (xs : List ℕ) → length xs ≤ w → take w (xs ++ replicate w v) ≡ xs ++ replicate (w - length xs) v
fill_short w v xs h =
    let all : w ≡ length xs + (w - length xs) = omega arith in
    ap (λ (k : ℕ). take k (xs ++ replicate w v)) all ∙ take-append-add xs (replicate w v) (w - length xs)
    ∙ ap (λ (ys : List ℕ). xs ++ ys) (equal_take (w - length xs) w v (omega arith))

-- a loop that stops where a or b is reached
pub reached : (a b i : ℕ) → (ltb i a && ltb i b) ≡ false → (a ≤ i) ⊎ (b ≤ i)
reached a b i e = go (ltb i a) refl
  where
    go : (t : Bool) → ltb i a ≡ t → (a ≤ i) ⊎ (b ≤ i)
    go true p = inr (ltb-false i b (rw p at e))
    go false p = inl (ltb-false i a p)
