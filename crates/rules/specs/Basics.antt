-- Words about lists and tests that the rules use. Nothing here is particular to memory placement.
use Rattle.std.specs.Prelude.{ℕ, zero, suc, ◌+◌, ◌%◌, Bool, true, false, ◌&&◌, ◌||◌, cond, List, [], ◌∷◌, ◌++◌, leb, eqb}
use Rattle.std.proofs.Math.Option.{Option, none, some}

module _ {A : Type 0} where
  -- every one of a list passes the test
  unfoldable pub all : (A → Bool) → List A → Bool
  all p [] = true
  all p (x ∷ xs) = p x && all p xs

  -- some one of a list passes the test
  unfoldable pub any : (A → Bool) → List A → Bool
  any p [] = false
  any p (x ∷ xs) = p x || any p xs

  -- those of a list that pass the test, in their order
  unfoldable pub keep : (A → Bool) → List A → List A
  keep p [] = []
  keep p (x ∷ xs) = cond (p x) (x ∷ keep p xs) (keep p xs)

  -- the first of a list, if there is one
  unfoldable pub first : List A → Option A
  first [] = none
  first (x ∷ xs) = some x

  -- the first of a list, else d
  unfoldable pub first_or : List A → A → A
  first_or [] d = d
  first_or (x ∷ xs) d = x

  -- the last of a list, else d
  unfoldable pub last_or : List A → A → A
  last_or [] d = d
  last_or (x ∷ xs) d = last_or xs x

  -- a list without its last
  unfoldable pub but_last : List A → List A
  but_last [] = []
  but_last (x ∷ []) = []
  but_last (x ∷ y ∷ xs) = x ∷ but_last (y ∷ xs)

  -- how many of a list pass the test
  unfoldable pub count : (A → Bool) → List A → ℕ
  count p [] = 0
  count p (x ∷ xs) = cond (p x) 1 0 + count p xs

  -- the statement holds of each one of a list
  unfoldable pub Each : (A → Type 0) → List A → Type 0
  Each P [] = Unit {0}
  Each P (x ∷ xs) = P x × Each P xs

  -- the list is empty
  unfoldable pub is_nil : List A → Bool
  is_nil [] = true
  is_nil (x ∷ xs) = false

-- the list f x for each x of xs, end to end
unfoldable pub each : {A B : Type 0} → (A → List B) → List A → List B
each f [] = []
each f (x ∷ xs) = f x ++ each f xs

-- a, a + 1, .., k numbers in all
unfoldable pub from : ℕ → ℕ → List ℕ
from a zero = []
from a (suc k) = a ∷ from (suc a) k

-- k positions from c on, walking round n of them
unfoldable pub around : ℕ → ℕ → ℕ → List ℕ
around n c zero = []
around n c (suc k) = c % n ∷ around n (suc c) k

unfoldable pub sum : List ℕ → ℕ
sum [] = 0
sum (x ∷ xs) = x + sum xs

-- x is at least low and at most high
abbrev pub between : ℕ → ℕ → ℕ → Bool
between low high x = leb low x && leb x high

-- the test holds of each entry of a table, given its number and its value; the first entry has number k
unfoldable pub all_at : (ℕ → ℕ → Bool) → ℕ → List ℕ → Bool
all_at p k [] = true
all_at p k (x ∷ xs) = p k x && all_at p (suc k) xs

-- two lists of numbers are the same
unfoldable pub same : List ℕ → List ℕ → Bool
same [] [] = true
same [] (y ∷ ys) = false
same (x ∷ xs) [] = false
same (x ∷ xs) (y ∷ ys) = eqb x y && same xs ys

-- for a proof that computes: `unfolding open_basics` opens every definition of this file
unfoldable pub open_basics : Unit {0}
unfolding all any keep first first_or last_or but_last count is_nil each from around sum all_at same
open_basics = tt
