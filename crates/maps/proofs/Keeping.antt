-- The test of the numbers that a tenant keeps, number by number.
-- Assumes nothing.
use Prim.Native.Nat.{ℕ, ◌+◌, ◌≤◌, ◌<◌}
use mathlib.Core.Path.{◌≡◌, refl}
use mathlib.Core.Bool.{Bool, true, false, ◌&&◌, ◌||◌, and-false}
use mathlib.Core.Logic.{◌≢◌, ⊎_elim}
use mathlib.Core.List.{List, [], ◌∷◌}
use native.Mathlib.Numerals.{add-one}
use native.Mathlib.Omega.{arith}
use borrow.Author.Tests.{leb-true, ltb-true, le-leb, lt-ltb, le-ltb, lt-leb}
use lib.Dec.{leb, ltb}
use lib.ListN.{length, get_or, drop, drop_of_length-le}
use lib.Seq.{drop-cons}
use Rattle.rules.specs.Basics.{all, is_nil}
use Rattle.rules.specs.Maps.{rising, keeps_of}
use Rattle.rules.proofs.Lists.{either_true}

-- the numbers rise from `least` on, and all are below n
unfoldable pub keeps : ℕ → ℕ → List ℕ → Bool
keeps n least list = rising least list && all (λ a. ltb a n) list

-- a number that is too low or too high, whatever the others are
out_of_bounds : (a least n : ℕ) (rest others : Bool) → (ltb a least || leb n a) ≡ true → ((leb least a && rest) && (ltb a n && others)) ≡ false
out_of_bounds a least n rest others e = ⊎_elim low high (either_true {a = ltb a least} {b = leb n a} e)
  where
    low : ltb a least ≡ true → ((leb least a && rest) && (ltb a n && others)) ≡ false
    low t = rw (lt-leb least a (ltb-true a least t))

    high : leb n a ≡ true → ((leb least a && rest) && (ltb a n && others)) ≡ false
    high t = rw (le-ltb a n (leb-true n a t)) (and-false (leb least a && rest))

module _ (n least : ℕ) (list : List ℕ) (i : ℕ) where
  -- a number that may not come
  pub keeps_bad : i < length list → (ltb (get_or list i 0) least || leb n (get_or list i 0)) ≡ true → keeps n least (drop i list) ≡ false
  unfolding keeps rising all
  keeps_bad h e = rw (drop-cons list i 0) (out_of_bounds (get_or list i 0) least n _ _ e)

  -- a number that may come: the next ones lie above it
  pub keeps_next : i < length list → least ≤ get_or list i 0 → get_or list i 0 < n
      → keeps n least (drop i list) ≡ keeps n (get_or list i 0 + 1) (drop (i + 1) list)
  unfolding keeps rising all
  keeps_next h l b = rw (drop-cons list i 0, le-leb least (get_or list i 0) l, lt-ltb (get_or list i 0) n b, add-one (get_or list i 0), add-one i)

  -- all numbers are tested
  pub keeps_end : length list ≤ i → keeps n least (drop i list) ≡ true
  unfolding keeps rising all
  keeps_end h = rw (drop_of_length-le list h)

-- "one or more": no numbers are bad
pub keeps_none : (nodes list : List ℕ) → length list ≡ 0 → keeps_of nodes list ≡ false
unfolding keeps_of is_nil
keeps_none nodes [] e = refl
keeps_none nodes (a ∷ list) e = absurd (omega arith)

-- the test of one number or more
pub keeps_some : (nodes list : List ℕ) {n : ℕ} → n ≡ length nodes → length list ≢ 0 → keeps_of nodes list ≡ keeps n 0 list
unfolding keeps_of keeps is_nil
keeps_some nodes [] e d = absurd (d refl)
keeps_some nodes (a ∷ list) e d = rw e refl
