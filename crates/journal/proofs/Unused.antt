-- "Unused bytes are zero", told by whole numbers: the bytes of a number are zero exactly when it is.
-- Assumes nothing.
use Prim.Native.Nat.{ℕ, zero, suc, ◌+◌, ◌-◌, ◌*◌, ◌/◌, ◌^◌, ◌≤◌, ◌<◌}
use mathlib.Core.Path.{◌≡◌, refl, sym, ap, ap₂, ◌∙◌}
use mathlib.Core.Bool.{Bool, true, false, ◌&&◌, ◌||◌, and_assoc}
use mathlib.Core.List.{List, [], ◌∷◌, ◌++◌}
use native.Mathlib.Nat.{zero-add, add-zero}
use native.Mathlib.Omega.{arith}
use borrow.Author.Tests.{eqb-true, eqb-false, eq-eqb, ne_eqb, lt-ltb, le-ltb, le-leb, lt-leb}
use lib.Dec.{ltb, eqb}
use lib.ListN.{length, take, drop}
use lib.Pow.{high}
use lib.Seq.{drop-cons}
use Rattle.rules.specs.Basics.{all, from, all_at}
use Rattle.rules.specs.Records.{from_bytes}
use Rattle.rules.specs.Journal.{Kind, request', release', rebind', install', clear', byte_at, part, number, size_of, used, unused_bytes_zero}
use Rattle.rules.proofs.Bytes.{AreBytes, from_bytes_lt, take_bytes, drop_bytes}
use Rattle.journal.specs.Reads.{zeroed}
use Rattle.journal.proofs.Numbers.{from_append, part_add, part_length}

-- ---- numbers that are zero

zero_digit : (x b : ℕ) → eqb (x * 256 + b) 0 ≡ (eqb b 0 && eqb x 0)
zero_digit x b = go (eqb b 0) refl (eqb x 0) refl
  where
    go : (s : Bool) → eqb b 0 ≡ s → (t : Bool) → eqb x 0 ≡ t → eqb (x * 256 + b) 0 ≡ (s && t)
    go true e true f = eq-eqb (x * 256 + b) 0 (omega (arith, eqb-true b 0 e, eqb-true x 0 f))
    go true e false f = ne_eqb (x * 256 + b) 0 (λ z. eqb-false x 0 f (omega arith))
    go false e t f = ne_eqb (x * 256 + b) 0 (λ z. eqb-false b 0 e (omega arith))

-- a number is zero exactly when its bytes are
number_zero : (n k : ℕ) (bs : List ℕ) → k + n ≤ length bs → eqb (number k n bs) 0 ≡ zeroed k n bs
unfolding number part from_bytes zeroed all from
number_zero zero k bs h = refl
number_zero (suc n) k bs h =
    rw (drop-cons bs k 0 (omega arith))
    (zero_digit (number (suc k) n bs) (byte_at bs k) ∙ ap (λ (t : Bool). eqb (byte_at bs k) 0 && t) (number_zero n (suc k) bs (omega arith)))

-- the number of eight bytes without its k lowest
pub shifted_zero : (at k : ℕ) (bs : List ℕ) → AreBytes bs → at + 8 ≤ length bs → k ≤ 8
    → eqb (number at 8 bs / 2 ^ (8 * k)) 0 ≡ zeroed (at + k) (8 - k) bs
unfolding number part
shifted_zero at k bs h l m =
    let e : k + (8 - k) ≡ 8 = omega arith in
    let n : length (part at k bs) ≡ k = part_length at k bs (omega arith) in
    let low : from_bytes (part at k bs) < 2 ^ (8 * k) = rw n at (from_bytes_lt (part at k bs) (take_bytes k (drop at bs) (drop_bytes at bs h))) in
    let s : number at 8 bs ≡ number (at + k) (8 - k) bs * 2 ^ (8 * k) + number at k bs =
    ap (λ (x : ℕ). number at x bs) (sym e) ∙ ap from_bytes (part_add at k (8 - k) bs) ∙ rw n at (from_append (part at k bs) (part (at + k) (8 - k) bs)) in
    ap (λ (x : ℕ). eqb (x / 2 ^ (8 * k)) 0) s ∙ ap (λ (x : ℕ). eqb x 0) (high (number (at + k) (8 - k) bs) (8 * k) low)
    ∙ number_zero (8 - k) (at + k) bs (omega arith)

-- ---- bytes by their places

-- a test of each byte with its place goes by the places
by_places_lem : (p : ℕ → ℕ → Bool) (n k : ℕ) (bs : List ℕ) → k + n ≤ length bs → all_at p k (take n (drop k bs)) ≡ all (λ i. p i (byte_at bs i)) (from k n)
unfolding all_at all from
by_places_lem p zero k bs h = refl
by_places_lem p (suc n) k bs h = rw (drop-cons bs k 0 (omega arith)) (ap (λ (t : Bool). p k (byte_at bs k) && t) (by_places_lem p n (suc k) bs (omega arith)))

all_append : (p : ℕ → Bool) (xs ys : List ℕ) → all p (xs ++ ys) ≡ (all p xs && all p ys)
unfolding all
all_append p [] ys = refl
all_append p (x ∷ xs) ys = ap (λ (t : Bool). p x && t) (all_append p xs ys) ∙ sym (and_assoc (p x) (all p xs) (all p ys))

-- tests that are the same at some places
all_same : (p q : ℕ → Bool) (n k : ℕ) → ((i : ℕ) → k ≤ i → i < k + n → p i ≡ q i) → all p (from k n) ≡ all q (from k n)
unfolding all from
all_same p q zero k h = refl
all_same p q (suc n) k h = ap₂ ◌&&◌ (h k (omega arith) (omega arith)) (all_same p q n (suc k) (λ i l m. h i (omega arith) (omega arith)))

-- a test that every place passes
all_pass : (n k : ℕ) → all (λ i. true) (from k n) ≡ true
unfolding all from
all_pass zero k = refl
all_pass (suc n) k = all_pass n (suc k)

from_add : (m n k : ℕ) → from k (m + n) ≡ from k m ++ from (k + m) n
unfolding from
from_add zero n k = rw (zero-add, add-zero)
from_add (suc m) n k =
    let e : suc m + n ≡ suc (m + n) = omega arith in
    let f : suc k + m ≡ k + suc m = omega arith in
    ap (from k) e ∙ ap (λ (xs : List ℕ). k ∷ xs) (from_add m n (suc k) ∙ ap (λ (x : ℕ). from (suc k) m ++ from x n) f)

-- where no number is asked for, the start does not matter
from_start : (a b n : ℕ) → (1 ≤ n → a ≡ b) → from a n ≡ from b n
unfolding from
from_start a b zero h = refl
from_start a b (suc n) h = ap (λ (x : ℕ). from x (suc n)) (h (omega arith))

-- ---- the kinds

module _ (bs : List ℕ) where
  is_zero : ℕ → Bool
  is_zero i = eqb (byte_at bs i) 0

  -- byte i of a record may be what it is: it stands before the job, or it is used, or it is zero
  may_be : Kind → ℕ → Bool
  may_be kind i = ltb i 3 || used kind (byte_at bs 7) i || is_zero i

  -- zeros in two parts
  two : (xs ys : List ℕ) → (all is_zero xs && all is_zero ys) ≡ all is_zero (xs ++ ys)
  two xs ys = sym (all_append is_zero xs ys)

  -- zeros in three parts
  three : (xs ys zs : List ℕ) → ((all is_zero xs && all is_zero ys) && all is_zero zs) ≡ all is_zero ((xs ++ ys) ++ zs)
  three xs ys zs = ap (λ (t : Bool). t && all is_zero zs) (two xs ys) ∙ two (xs ++ ys) zs

  by_kind : (kind : Kind) → size_of kind ≡ 32 → 32 ≤ length bs → all (may_be kind) (from 0 32) ≡ unused_bytes_zero kind bs
  unfolding unused_bytes_zero may_be is_zero
  by_kind kind e l = rw e (sym (by_places_lem (λ i b. ltb i 3 || used kind (byte_at bs 7) i || eqb b 0) 32 0 bs l))

  module _ (l : 32 ≤ length bs) where
    -- "Request uses job and CPU"
    pub request_zero : ((zeroed 5 3 bs && zeroed 8 8 bs) && zeroed 16 16 bs) ≡ unused_bytes_zero request' bs
    unfolding zeroed used may_be all from size_of is_zero
    request_zero = three (from 5 3) (from 8 8) (from 16 16) ∙ by_kind request' refl l

    -- "release job and page"
    pub release_zero : ((zeroed 4 4 bs && zeroed 12 4 bs) && zeroed 16 16 bs) ≡ unused_bytes_zero release' bs
    unfolding zeroed used may_be all from size_of is_zero
    release_zero = three (from 4 4) (from 12 4) (from 16 16) ∙ by_kind release' refl l

    -- "rebind job and mask"
    pub rebind_zero : (zeroed 4 4 bs && zeroed 16 16 bs) ≡ unused_bytes_zero rebind' bs
    unfolding zeroed used may_be all from size_of is_zero
    rebind_zero = two (from 4 4) (from 16 16) ∙ by_kind rebind' refl l

    -- "clear job"
    pub clear_zero : ((zeroed 4 4 bs && zeroed 8 8 bs) && zeroed 16 16 bs) ≡ unused_bytes_zero clear' bs
    unfolding zeroed used may_be all from size_of is_zero
    clear_zero = three (from 4 4) (from 8 8) (from 16 16) ∙ by_kind clear' refl l

    -- a place of an install: one of its list, or zero
    place : (i : ℕ) → 16 ≤ i → may_be install' i ≡ (ltb i (16 + byte_at bs 7) || is_zero i)
    unfolding used may_be is_zero
    place i h =
        rw (le-ltb i 3 (omega arith), ne_eqb i 3 (λ e. omega arith), le-leb 5 i (omega arith), lt-leb i 15 (omega arith), le-leb 16 i (omega arith))

    -- "its places only up to the list length"
    listed : zeroed (16 + byte_at bs 7) (16 - byte_at bs 7) bs ≡ all (may_be install') (from 16 16)
    unfolding zeroed is_zero
    listed =
        let len = byte_at bs 7 in
        let q : ℕ = 16 - len in
        let n : ℕ = 16 - q in
        let whole : n + q ≡ 16 = omega arith in
        let free : all (may_be install') (from 16 n) ≡ true =
        all_same (may_be install') (λ i. true) n 16 (λ i a b. place i a ∙ rw (lt-ltb i (16 + len) (omega arith))) ∙ all_pass n 16 in
        let rest : all (may_be install') (from (16 + n) q) ≡ all is_zero (from (16 + n) q) =
        all_same (may_be install') is_zero q (16 + n) (λ i a b. place i (omega arith) ∙ rw (le-ltb i (16 + len) (omega arith))) in
        sym (ap (λ (x : ℕ). all (may_be install') (from 16 x)) (sym whole) ∙ ap (all (may_be install')) (from_add n q 16)
        ∙ all_append (may_be install') (from 16 n) (from (16 + n) q) ∙ ap₂ ◌&&◌ free rest
        ∙ ap (all is_zero) (from_start (16 + n) (16 + len) q (λ h. omega arith)))

    -- "install all but CPU, its places only up to the list length"
    pub install_zero : (eqb (byte_at bs 4) 0 && zeroed (16 + byte_at bs 7) (16 - byte_at bs 7) bs) ≡ unused_bytes_zero install' bs
    unfolding used may_be all from size_of is_zero
    install_zero = ap (λ (t : Bool). eqb (byte_at bs 4) 0 && t) listed ∙ by_kind install' refl l

    -- the places from a list length on, eight at a time
    pub places_low : (len : ℕ) → len < 8 → (zeroed (16 + len) (8 - len) bs && zeroed 24 8 bs) ≡ zeroed (16 + len) (16 - len) bs
    unfolding zeroed is_zero
    places_low len h =
        let e : (8 - len) + 8 ≡ 16 - len = omega arith in
        let f : (16 + len) + (8 - len) ≡ 24 = omega arith in
        two (from (16 + len) (8 - len)) (from 24 8)
        ∙ ap (all is_zero) (ap (λ (x : ℕ). from (16 + len) (8 - len) ++ from x 8) (sym f) ∙ sym (from_add (8 - len) 8 (16 + len)) ∙ ap (from (16 + len)) e)

    pub places_high : (len : ℕ) → 8 ≤ len → len < 16 → zeroed (24 + (len - 8)) (8 - (len - 8)) bs ≡ zeroed (16 + len) (16 - len) bs
    places_high len h k = ap₂ (λ (x n : ℕ). zeroed x n bs) (omega arith) (omega arith)

    pub places_past : (len : ℕ) → 16 ≤ len → true ≡ zeroed (16 + len) (16 - len) bs
    unfolding zeroed all from
    places_past len h = let e : 16 - len ≡ 0 = omega arith in rw e
