-- How many bytes are 0: laws of the loops that count them, and of a node's free pages.
-- Assumes nothing.
use Prim.Native.Nat.{ℕ, zero, suc, ◌+◌, ◌≤◌, ◌<◌}
use mathlib.Core.Path.{◌≡◌, refl}
use mathlib.Core.Bool.{Bool, true, false, cond}
use mathlib.Core.List.{List, [], ◌∷◌, ◌++◌}
use native.Mathlib.Numerals.{add-one}
use native.Mathlib.Omega.{arith}
use lib.Dec.{eqb}
use lib.ListN.{length, get_or, take, drop}
use lib.Seq.{drop-cons}
use Rattle.rules.specs.Basics.{keep, from}
use Rattle.rules.proofs.Lists.{entry_same}
use Rattle.pages.specs.FirstZero.{zeros}

-- one byte more
pub zeros_step : (b : List ℕ) (i : ℕ) → i < length b → zeros (drop i b) ≡ cond (eqb (get_or b i 0) 0) 1 0 + zeros (drop (i + 1) b)
zeros_step b i h = rw (add-one, drop-cons b i 0)

-- no more than there are bytes
pub zeros_most : (xs : List ℕ) → zeros xs ≤ length xs
zeros_most [] = omega arith
zeros_most (x ∷ xs) = go (eqb x 0) (zeros_most xs)
  where
    go : (b : Bool) → zeros xs ≤ length xs → cond b 1 0 + zeros xs ≤ suc (length xs)
    go true l = omega arith
    go false l = omega arith

-- a block, and what comes after it
pub zeros_append : (xs ys : List ℕ) → zeros (xs ++ ys) ≡ zeros xs + zeros ys
zeros_append [] ys = omega arith
zeros_append (x ∷ xs) ys = omega (arith, zeros_append xs ys)

-- of the k pages from a on, as many are free as bytes of the part are 0
pub zeros_free : (ledger : List ℕ) (a k : ℕ) → a + k ≤ length ledger
    → length (keep (λ p. eqb (get_or ledger p 1) 0) (from a k)) ≡ zeros (take k (drop a ledger))
unfolding keep from
zeros_free ledger a zero l = refl
zeros_free ledger a (suc k) l =
    rw (drop-cons ledger a 0 (omega arith), entry_same ledger a 1 0 (omega arith)) (go (eqb (get_or ledger a 0) 0) (zeros_free ledger (suc a) k (omega arith)))
  where
    rest : List ℕ
    rest = keep (λ p. eqb (get_or ledger p 1) 0) (from (suc a) k)

    go : (b : Bool) → length rest ≡ zeros (take k (drop (suc a) ledger)) → length (cond b (a ∷ rest) rest) ≡ cond b 1 0 + zeros (take k (drop (suc a) ledger))
    go true e = omega arith
    go false e = omega arith
