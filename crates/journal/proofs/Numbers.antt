-- The laws of "numbers little-endian", over how many bytes there are.
-- Assumes nothing.
use Prim.Native.Nat.{ℕ, zero, suc, ◌+◌, ◌*◌, ◌/◌, ◌%◌, ◌^◌, ◌≤◌, ◌<◌, min}
use mathlib.Core.Path.{◌≡◌, refl, sym, ap, ◌∙◌}
use mathlib.Core.List.{List, [], ◌∷◌, ◌++◌}
use native.Mathlib.Nat.{mul_assoc}
use native.Mathlib.Omega.{arith}
use borrow.Author.Tests.{leb-true, le-leb}
use lib.ListN.{length, get_or, take, drop, length-take, length-drop}
use lib.Pow.{pow-add}
use lib.Dec.{leb}
use lib.Seq.{take-add, take-take, take_all, take-suc, drop-drop, length-take-le}
use Rattle.std.specs.Int.{w32, byte_worth, sum_through, to_le_bytes}
use Rattle.rules.specs.Records.{bytes_of, from_bytes}
use Rattle.rules.specs.Journal.{part, number}
use Rattle.rules.proofs.Lists.{same_test}

-- ---- parts

-- the number of two lists of bytes end to end: the second stands above the first
pub from_append : (xs ys : List ℕ) → from_bytes (xs ++ ys) ≡ from_bytes ys * 2 ^ (8 * length xs) + from_bytes xs
unfolding from_bytes
from_append [] ys = omega arith
from_append (x ∷ xs) ys =
    let e : 8 * suc (length xs) ≡ 8 * length xs + 8 = omega arith in
    let p = 2 ^ (8 * length xs) in
    let ih : from_bytes (xs ++ ys) ≡ from_bytes ys * p + from_bytes xs = from_append xs ys in
    let s : from_bytes ys * (p * 2 ^ 8) ≡ from_bytes ys * p * 256 = sym (mul_assoc (from_bytes ys) p 256) in
    rw (e, pow-add 2 (8 * length xs) 8) (omega arith)

-- a part, and the part after it
pub part_add : (k a b : ℕ) (bs : List ℕ) → part k (a + b) bs ≡ part k a bs ++ part (k + a) b bs
unfolding part
part_add k a b bs = rw (take-add a b (drop k bs), drop-drop a k bs)

-- a part that lies in the bytes has its length
pub part_length : (k n : ℕ) (bs : List ℕ) → k + n ≤ length bs → length (part k n bs) ≡ n
unfolding part
part_length k n bs h = simp (length-take, length-drop) (omega arith)

-- ---- the first w bytes

-- they have at least k bytes, for k up to w, exactly when all have
pub long_take : (k w : ℕ) (bs : List ℕ) → k ≤ w → leb k (length (take w bs)) ≡ leb k (length bs)
long_take k w bs h =
    let l : length (take w bs) ≡ min w (length bs) = length-take w bs in
    same_test
    (λ t. le-leb k (length bs) (omega (arith, leb-true k (length (take w bs)) t)))
    (λ t. le-leb k (length (take w bs)) (omega (arith, leb-true k (length bs) t)))

-- a part of them is that part of all
pub part_take : (w k n : ℕ) (bs : List ℕ) → k + n ≤ w → part k n (take w bs) ≡ part k n bs
unfolding part
part_take w zero n bs h = take-take n w bs (omega arith)
part_take zero (suc k) n bs h = absurd (omega arith)
part_take (suc w) (suc k) n [] h = refl
part_take (suc w) (suc k) n (b ∷ bs) h = part_take w k n bs (omega arith)

-- a number in them is that number in all
pub number_take : (w k n : ℕ) (bs : List ℕ) → k + n ≤ w → number k n (take w bs) ≡ number k n bs
unfolding number
number_take w k n bs h = ap from_bytes (part_take w k n bs h)

-- ---- numbers as std makes them

-- 256 ^ n in bits
byte_power : (n : ℕ) → 2 ^ (8 * n) ≡ 256 ^ n
byte_power zero = refl
byte_power (suc n) =
    let e : 8 * suc n ≡ 8 * n + 8 = omega arith in
    rw (e, pow-add 2 (8 * n) 8, byte_power n) (omega arith)

-- the worth of each byte, summed up
worths : (xs : List ℕ) (n : ℕ) → n < length xs → sum_through (λ i. byte_worth i (get_or xs i 0)) n ≡ from_bytes (take (suc n) xs)
unfolding from_bytes
worths [] zero h = absurd (omega arith)
worths (x ∷ xs) zero h = omega arith
worths xs (suc n) h =
    let all : take (suc (suc n)) xs ≡ take (suc n) xs ++ (get_or xs (suc n) 0 ∷ []) = take-suc xs (suc n) 0 h in
    let size : length (take (suc n) xs) ≡ suc n = length-take-le (suc n) xs (omega arith) in
    rw (all, from_append (take (suc n) xs) (get_or xs (suc n) 0 ∷ []), size, byte_power (suc n), worths xs n (omega arith)) (omega arith)

-- the number of the suc n bytes at a place
pub number_le : (k n : ℕ) (bs : List ℕ) → k + suc n ≤ length bs
    → sum_through (λ i. byte_worth i (get_or (part k (suc n) bs) i 0)) n ≡ number k (suc n) bs
unfolding number
number_le k n bs h =
    let size : length (part k (suc n) bs) ≡ suc n = part_length k (suc n) bs h in
    worths (part k (suc n) bs) n (omega (arith, size)) ∙ ap from_bytes (take_all (suc n) (part k (suc n) bs) (omega (arith, size)))

-- the four bytes of a number
pub bytes_le : (n : ℕ) → to_le_bytes w32 n ≡ bytes_of 4 n
unfolding bytes_of
bytes_le n =
    let third : n / 256 ^ 2 % 256 ≡ n / 256 / 256 % 256 = omega arith in
    let fourth : n / 256 ^ 3 % 256 ≡ n / 256 / 256 / 256 % 256 = omega arith in
    rw (third, fourth)
