-- The laws of "one byte each, lowest byte first": a number as its lowest bytes, over how many there are.
-- Assumes nothing.
use Prim.Native.Nat.{ℕ, zero, suc, ◌+◌, ◌*◌, ◌/◌, ◌%◌, ◌^◌, ◌<◌}
use mathlib.Core.Path.{◌≡◌, refl, sym, ap, ◌∙◌}
use mathlib.Core.List.{List, [], ◌∷◌, ◌++◌}
use native.Mathlib.Nat.{div-one, mod-one, mod-eq_of_lt, le_of_suc-le-suc, not-suc-le-zero}
use native.Mathlib.Omega.{arith}
use lib.ListN.{length, get_or, take, drop}
use lib.Pow.{shr-shr, pow-add, mod-pow-add}
use lib.Seq.{get_or-drop}
use Rattle.rules.specs.Records.{bytes_of, from_bytes}

-- each of a list is a byte
abbrev pub AreBytes : List ℕ → Type 0
AreBytes bs = (k : ℕ) → get_or bs k 0 < 256

-- the k lowest bytes of a number are k
pub bytes_length : (k x : ℕ) → length (bytes_of k x) ≡ k
unfolding bytes_of
bytes_length zero x = refl
bytes_length (suc k) x = ap suc (bytes_length k (x / 256))

-- byte i of a number stands 8 * i bits up
pub bytes_at : (k x i : ℕ) → i < k → get_or (bytes_of k x) i 0 ≡ x / 2 ^ (8 * i) % 256
unfolding bytes_of
bytes_at zero x i h = absurd (not-suc-le-zero h)
bytes_at (suc k) x zero h = ap (λ (y : ℕ). y % 256) (sym (div-one x))
bytes_at (suc k) x (suc i) h =
    bytes_at k (x / 256) i (le_of_suc-le-suc h)
    ∙ ap (λ (y : ℕ). y % 256) (shr-shr x 8 (8 * i) ∙ ap (λ (e : ℕ). x / 2 ^ e) (omega arith))

-- each of the bytes of a number is below 256
pub bytes_small : (k x : ℕ) → AreBytes (bytes_of k x)
unfolding bytes_of
bytes_small zero x i = omega arith
bytes_small (suc k) x zero = omega arith
bytes_small (suc k) x (suc i) = bytes_small k (x / 256) i

-- the number of the k lowest bytes of x is what k bytes hold of x
pub from_bytes_mod : (k x : ℕ) → from_bytes (bytes_of k x) ≡ x % 2 ^ (8 * k)
unfolding bytes_of from_bytes
from_bytes_mod zero x = sym (mod-one x)
from_bytes_mod (suc k) x =
    let e : 8 * suc k ≡ 8 * k + 8 = omega arith in
    ap (λ (y : ℕ). y * 256 + x % 256) (from_bytes_mod k (x / 256)) ∙ rw (e, mod-pow-add x (8 * k) 8)

-- a number that fits k bytes is the number of them
pub from_bytes_lem : (k x : ℕ) → x < 2 ^ (8 * k) → from_bytes (bytes_of k x) ≡ x
from_bytes_lem k x h = from_bytes_mod k x ∙ mod-eq_of_lt h

-- a list of bytes is the bytes of its number
pub bytes_from : (bs : List ℕ) → AreBytes bs → bytes_of (length bs) (from_bytes bs) ≡ bs
unfolding bytes_of from_bytes
bytes_from [] h = refl
bytes_from (b ∷ bs) h =
    let low : b < 256 = h 0 in
    let first : (from_bytes bs * 256 + b) % 256 ≡ b = omega arith in
    let others : (from_bytes bs * 256 + b) / 256 ≡ from_bytes bs = omega arith in
    rw (first, others, bytes_from bs (λ k. h (suc k)))

-- k bytes make a number that fits k bytes
pub from_bytes_lt : (bs : List ℕ) → AreBytes bs → from_bytes bs < 2 ^ (8 * length bs)
unfolding from_bytes
from_bytes_lt [] h = omega arith
from_bytes_lt (b ∷ bs) h =
    let e : 8 * suc (length bs) ≡ 8 * length bs + 8 = omega arith in
    let low : b < 256 = h 0 in
    let high : from_bytes bs < 2 ^ (8 * length bs) = from_bytes_lt bs (λ k. h (suc k)) in
    rw (e, pow-add 2 (8 * length bs) 8) (omega arith)

-- bytes but the first n are bytes
pub drop_bytes : (n : ℕ) (bs : List ℕ) → AreBytes bs → AreBytes (drop n bs)
drop_bytes n bs h k = rw get_or-drop (h (n + k))

-- the first n bytes are bytes
pub take_bytes : (n : ℕ) (bs : List ℕ) → AreBytes bs → AreBytes (take n bs)
take_bytes zero bs h k = omega arith
take_bytes (suc n) [] h k = omega arith
take_bytes (suc n) (b ∷ bs) h zero = h 0
take_bytes (suc n) (b ∷ bs) h (suc k) = take_bytes n bs (λ i. h (suc i)) k

-- two lists of bytes, end to end, are bytes
pub append_bytes : (xs bs : List ℕ) → AreBytes xs → AreBytes bs → AreBytes (xs ++ bs)
append_bytes [] bs h l k = l k
append_bytes (x ∷ xs) bs h l zero = h 0
append_bytes (x ∷ xs) bs h l (suc k) = append_bytes xs bs (λ i. h (suc i)) l k
