-- What shifts and masks do to the words of a record.
-- Assumes nothing.
use Prim.Native.Nat.{ℕ, zero, suc, ◌+◌, ◌-◌, ◌*◌, ◌/◌, ◌%◌, ◌^◌, ◌≤◌, ◌<◌}
use mathlib.Core.Path.{◌≡◌, sym, ap, ◌∙◌}
use mathlib.Core.Bool.{true, ◌&&◌, and_assoc, and-true}
use mathlib.Core.List.{List, [], ◌++◌, append-nil}
use native.Mathlib.Nat.{mod-eq_of_lt, div-one}
use native.Mathlib.Omega.{arith}
use borrow.Author.Tests.{eqb-true, eq-eqb}
use lib.Bits.{bit_or, or_shifted_r}
use lib.Dec.{eqb}
use lib.ListN.{length, take, drop, length-drop, length-append, drop_of_length-le}
use lib.Pow.{shr_lt, shr-shr}
use lib.Seq.{take_all, drop-append-add}
use Rattle.rules.specs.Basics.{all}
use Rattle.rules.specs.Records.{places_per_job, bytes_of, from_bytes}
use Rattle.std.specs.Int.{w64, to_le_bytes, from_le_bytes}
use Rattle.std.proofs.lemmas.Nat.{le_bytes_8}
use Rattle.rules.proofs.Bytes.{from_bytes_lem, AreBytes, bytes_length}
use Rattle.rules.proofs.Lists.{both_true, both_hold, same_test}
use Rattle.rules.proofs.Records.{places_again}

-- a shift and an `|` put a above b, which has k bits
pub joined : (a b k : ℕ) → b < 2 ^ k → a * 2 ^ k < 2 ^ 64 → bit_or b ((a * 2 ^ k) % 2 ^ 64) ≡ b + a * 2 ^ k
joined a b k hb ha = rw (mod-eq_of_lt ha, or_shifted_r a k b hb) (omega arith)

-- ---- eight places in a word

-- the eight bytes of a word
pub word_bytes : (w : ℕ) → to_le_bytes w64 w ≡ bytes_of 8 w
unfolding bytes_of
word_bytes w = rw (shr-shr w 8 8, shr-shr w 16 8, shr-shr w 24 8, shr-shr w 32 8, shr-shr w 40 8, shr-shr w 48 8)

-- the word of eight bytes
pub word_of : (bs : List ℕ) (w : ℕ) → length bs ≡ 8 → AreBytes bs → w < 2 ^ 64 → w ≡ from_le_bytes w64 bs → w ≡ from_bytes bs
word_of bs w l small h e = sym (from_bytes_lem 8 w h) ∙ ap from_bytes (sym (word_bytes w) ∙ le_bytes_8 bs w l small e)

-- sixteen places packed into two words are the places of these words
pub packed : (places : List ℕ) (low high : ℕ) → length places ≡ places_per_job → AreBytes places
    → low ≡ from_bytes (take 8 places) → high ≡ from_bytes (take 8 (drop 8 places)) → bytes_of 8 low ++ bytes_of 8 high ≡ places
packed places low high l bytes e f =
    let few : length (drop 8 places) ≤ 8 = simp length-drop (omega arith) in
    rw (e, f, take_all 8 (drop 8 places) few) (places_again places l bytes)

-- ---- the places from one on

-- a number is zero exactly when its lowest byte is and what stands above it
zero_digit : (w : ℕ) → (eqb 0 (w % 256) && eqb (w / 256) 0) ≡ eqb w 0
zero_digit w =
    same_test
    (λ t. let z = both_true {a = eqb 0 (w % 256)} t in eq-eqb w 0 (omega (arith, eqb-true 0 (w % 256) z.0, eqb-true (w / 256) 0 z.1)))
    (λ t. let z = eqb-true w 0 t in both_hold (eq-eqb 0 (w % 256) (omega arith)) (eq-eqb (w / 256) 0 (omega arith)))

-- a number without its lowest byte takes a byte less
upper : (m : ℕ) {w : ℕ} → w < 2 ^ (8 * suc m) → w / 256 < 2 ^ (8 * m)
upper m h = let e : 8 * suc m ≡ 8 * m + 8 = omega arith in shr_lt (8 * m) 8 (rw e at h)

-- the bytes of w from byte k on, with others after them, are zero exactly when w without its k lowest bytes is and the others are
zero_bytes : (m k w : ℕ) (others : List ℕ) → w < 2 ^ (8 * m) → k ≤ m
    → all (eqb 0) (drop k (bytes_of m w ++ others)) ≡ (eqb (w / 2 ^ (8 * k)) 0 && all (eqb 0) others)
unfolding bytes_of all
zero_bytes zero zero w others h l = let z : w ≡ 0 = omega arith in rw z
zero_bytes zero (suc k) w others h l = absurd (omega arith)
zero_bytes (suc m) zero w others h l =
    rw (zero_bytes m 0 (w / 256) others (upper m h) (omega arith), div-one (w / 256), div-one w, ← and_assoc, zero_digit w)
zero_bytes (suc m) (suc k) w others h l =
    zero_bytes m k (w / 256) others (upper m h) (omega arith)
    ∙ ap (λ (x : ℕ). eqb x 0 && all (eqb 0) others) (shr-shr w 8 (8 * k) ∙ ap (λ (e : ℕ). w / 2 ^ e) (omega arith))

-- the places of a word from place k on are zero exactly when the word without its k lowest places is
zero_word : (w k : ℕ) → w < 2 ^ 64 → k ≤ 8 → all (eqb 0) (drop k (bytes_of 8 w)) ≡ eqb (w / 2 ^ (8 * k)) 0
unfolding all
zero_word w k h l = rw (append-nil, and-true) at (zero_bytes 8 k w [] h l)

-- from a place of the low word on
pub zero_low : (low high k : ℕ) → low < 2 ^ 64 → high < 2 ^ 64 → k < 8
    → (eqb (low / 2 ^ (8 * k)) 0 && eqb high 0) ≡ all (eqb 0) (drop k (bytes_of 8 low ++ bytes_of 8 high))
zero_low low high k hl hh h = rw (zero_bytes 8 k low (bytes_of 8 high) hl (omega arith), zero_word high 0 hh (omega arith), div-one high)

-- from a place of the high word on
pub zero_high : (low high k : ℕ) → high < 2 ^ 64 → 8 ≤ k → k < 16
    → eqb (high / 2 ^ (8 * (k - 8))) 0 ≡ all (eqb 0) (drop k (bytes_of 8 low ++ bytes_of 8 high))
zero_high low high k hh l h =
    let seam : length (bytes_of 8 low) + (k - 8) ≡ k = rw (bytes_length 8 low) (omega arith) in
    sym (zero_word high (k - 8) hh (omega arith)) ∙ ap (all (eqb 0)) (rw seam at (sym (drop-append-add (bytes_of 8 low) (bytes_of 8 high) (k - 8))))

-- from past the last place on
pub zero_past : (low high k : ℕ) → 16 ≤ k → true ≡ all (eqb 0) (drop k (bytes_of 8 low ++ bytes_of 8 high))
unfolding all
zero_past low high k l = rw (drop_of_length-le (bytes_of 8 low ++ bytes_of 8 high) {i = k} (simp (length-append, bytes_length) l))
