-- The laws of a job's record and of the job table: six words and the record they hold, and one job's record among the others.
-- Assumes nothing.
use Prim.Native.Nat.{ℕ, zero, suc, ◌+◌, ◌*◌, ◌/◌, ◌%◌, ◌^◌, ◌≤◌, ◌<◌}
use mathlib.Core.Path.{◌≡◌, refl, sym, ap, ap₂, ◌∙◌}
use mathlib.Core.Logic.{◌⊎◌, inl, inr, ◌≢◌}
use mathlib.Core.List.{List, [], ◌∷◌, ◌++◌, append_assoc}
use native.Mathlib.Nat.{add-zero, le_of_suc-le-suc, not-suc-le-zero}
use native.Mathlib.Decide.{dec_lt}
use native.Mathlib.Omega.{arith}
use lib.Arith.{digits_mod, lt_of_le-ne}
use lib.ListN.{length, get_or, take, drop, set, replicate, length-append, length-take, length-drop, length-replicate, take-append-drop}
use lib.Pow.{high, split, mod-pow-add}
use lib.Seq.{sets, sets-eq, length-sets, get_or-set_other, set-get_or, get_or-take, get_or-drop, take_at, drop_at, length-take-le}
use Rattle.rules.specs.Records.{words_per_job, places_per_job, Policy, Turn, Record, bytes_of, from_bytes, decode, encode, job_count, record_at, put_record}
use Rattle.rules.specs.Records.{fresh, installed, rebound, with_turn}
use Rattle.rules.proofs.Bytes.{AreBytes, bytes_length, bytes_small, from_bytes_lem, bytes_from, take_bytes, drop_bytes, append_bytes}

-- ---- the record that six words hold

-- What six words can hold: fields of one byte each, and sixteen bytes.
pub record Storable (r : Record) : Type 0 where
  pub mode_fits : r.mode < 256
  pub flag_fits_lem : r.flag < 256
  pub len_fits : r.len < 256
  pub cursor_fits_lem : r.turn.cursor < 256
  pub sixteen : length r.bytes ≡ places_per_job
  pub are_bytes : AreBytes r.bytes

-- every record that was read can be stored
pub decoded_storable : (w : List ℕ) → Storable (decode w)
unfolding decode
decoded_storable w = record {
  mode_fits = omega arith;
  flag_fits_lem = omega arith;
  len_fits = omega arith;
  cursor_fits_lem = omega arith;
  sixteen = simp (length-append, bytes_length);
  are_bytes = append_bytes (bytes_of 8 (get_or w 4 0)) (bytes_of 8 (get_or w 5 0)) (bytes_small 8 (get_or w 4 0)) (bytes_small 8 (get_or w 5 0));
}

-- every record of the table can be stored
pub record_storable : (t : List ℕ) (j : ℕ) → Storable (record_at t j)
unfolding record_at
record_storable t j = decoded_storable (take words_per_job (drop (words_per_job * j) t))

-- a fresh record can be stored
pub fresh_storable : Storable fresh
unfolding fresh
fresh_storable = decoded_storable (replicate words_per_job 0)

-- zeros are bytes
zeros_bytes : (n : ℕ) → AreBytes (replicate n 0)
zeros_bytes zero k = omega arith
zeros_bytes (suc n) zero = omega arith
zeros_bytes (suc n) (suc k) = zeros_bytes n k

-- what install stores can be stored: mode and flag of one byte, at most 255 places, each a byte
pub installed_storable : (r : Record) (p : Policy) → p.mode < 256 → p.flag < 256 → length p.places < 256 → AreBytes p.places
    → Storable (installed r p)
unfolding installed
installed_storable r p hm hf hl hb = record {
  mode_fits = hm;
  flag_fits_lem = hf;
  len_fits = hl;
  cursor_fits_lem = omega arith;
  sixteen = simp (length-take, length-append, length-replicate) (omega arith);
  are_bytes =
      take_bytes places_per_job (p.places ++ replicate places_per_job 0)
      (append_bytes p.places (replicate places_per_job 0) hb (zeros_bytes places_per_job));
}

-- what rebind stores can be stored
pub rebound_storable : (r : Record) (new : ℕ) → Storable r → Storable (rebound r new)
unfolding rebound
rebound_storable r new s = record {
  mode_fits = s.mode_fits;
  flag_fits_lem = s.flag_fits_lem;
  len_fits = s.len_fits;
  cursor_fits_lem = s.cursor_fits_lem;
  sixteen = s.sixteen;
  are_bytes = s.are_bytes;
}

-- a record with another turn, its cursor field of one byte, can be stored
pub turn_storable : (r : Record) (t : Turn) → Storable r → t.cursor < 256 → Storable (with_turn r t)
unfolding with_turn
turn_storable r t s h = record {
  mode_fits = s.mode_fits;
  flag_fits_lem = s.flag_fits_lem;
  len_fits = s.len_fits;
  cursor_fits_lem = h;
  sixteen = s.sixteen;
  are_bytes = s.are_bytes;
}

-- ---- a record written and read back

-- the byte d of a word that stands at bit k, above lo and below hi
byte_of_word : (k lo d hi w : ℕ) → lo < 2 ^ k → d < 256 → w ≡ (hi * 256 + d) * 2 ^ k + lo → w / 2 ^ k % 256 ≡ d
byte_of_word k lo d hi w h l e =
    ap (λ (x : ℕ). x / 2 ^ k % 256) e ∙ ap (λ (x : ℕ). x % 256) (high (hi * 256 + d) k h) ∙ digits_mod hi l

-- sixteen bytes stored as two words are read back
pub places_again : (bs : List ℕ) → length bs ≡ places_per_job → AreBytes bs
    → bytes_of 8 (from_bytes (take 8 bs)) ++ bytes_of 8 (from_bytes (drop 8 bs)) ≡ bs
places_again bs l h =
    let front : length (take 8 bs) ≡ 8 = simp length-take (omega arith) in
    let back : length (drop 8 bs) ≡ 8 = simp length-drop (omega arith) in
    ap₂ (λ (x y : List ℕ). x ++ y) (rw front at (bytes_from (take 8 bs) (take_bytes 8 bs h))) (rw back at (bytes_from (drop 8 bs) (drop_bytes 8 bs h)))
    ∙ take-append-drop 8 bs

-- a record that was stored is read back
pub decode_encode : (r : Record) → Storable r → decode (encode r) ≡ r
unfolding decode encode
decode_encode r s =
    let m = r.mode in
    let f = r.flag in
    let l = r.len in
    let c = r.turn.cursor in
    let h = r.turn.rest in
    let w = m + f * 2 ^ 8 + l * 2 ^ 16 + c * 2 ^ 24 + h * 2 ^ 32 in
    let hm : m < 256 = s.mode_fits in
    let hf : f < 256 = s.flag_fits_lem in
    let hl : l < 256 = s.len_fits in
    let hc : c < 256 = s.cursor_fits_lem in
    let e₀ : w % 256 ≡ m = omega arith in
    let e₁ : w / 2 ^ 8 % 256 ≡ f = byte_of_word 8 m f (l + c * 2 ^ 8 + h * 2 ^ 16) w (omega arith) hf (omega arith) in
    let e₂ : w / 2 ^ 16 % 256 ≡ l = byte_of_word 16 (m + f * 2 ^ 8) l (c + h * 2 ^ 8) w (omega arith) hl (omega arith) in
    let e₃ : w / 2 ^ 24 % 256 ≡ c = byte_of_word 24 (m + f * 2 ^ 8 + l * 2 ^ 16) c h w (omega arith) hc (omega arith) in
    let e₄ : w / 2 ^ 32 ≡ h = omega arith in
    λ i. record {
      mode = e₀ i;
      flag = e₁ i;
      len = e₂ i;
      turn = record { cursor = e₃ i; rest = e₄ i };
      user = r.user;
      allowed = r.allowed;
      effective = r.effective;
      bytes = places_again r.bytes s.sixteen s.are_bytes i;
    }

-- word 0 by its fields, the lowest three taken together
low_fields : (w : ℕ) → w % 256 + w / 2 ^ 8 % 256 * 2 ^ 8 + w / 2 ^ 16 % 256 * 2 ^ 16 ≡ w % 2 ^ 24
low_fields w = go (w % 256) (w / 2 ^ 8 % 256) (w / 2 ^ 16 % 256) (w % 2 ^ 16) (w % 2 ^ 24) (mod-pow-add w 8 8) (mod-pow-add w 8 16)
  where
    go : (a b c x y : ℕ) → x ≡ b * 2 ^ 8 + a → y ≡ c * 2 ^ 16 + x → a + b * 2 ^ 8 + c * 2 ^ 16 ≡ y
    go a b c x y e f = omega arith

-- word 0 by all its fields
all_fields : (w : ℕ) → w % 256 + w / 2 ^ 8 % 256 * 2 ^ 8 + w / 2 ^ 16 % 256 * 2 ^ 16 + w / 2 ^ 24 % 256 * 2 ^ 24 + w / 2 ^ 32 * 2 ^ 32 ≡ w
all_fields w = rw low_fields (go (w % 2 ^ 24) (w / 2 ^ 24 % 256) (w % 2 ^ 32) (w / 2 ^ 32) (mod-pow-add w 8 24) (split w 32))
  where
    go : (a b x h : ℕ) → x ≡ b * 2 ^ 24 + a → h * 2 ^ 32 + x ≡ w → a + b * 2 ^ 24 + h * 2 ^ 32 ≡ w
    go a b x h e f = omega arith

-- the six words that were read are written again; the words of the places are of 64 bits
pub encode_decode : (a b c d e f : ℕ) → e < 2 ^ 64 → f < 2 ^ 64
    → encode (decode (a ∷ b ∷ c ∷ d ∷ e ∷ f ∷ [])) ≡ a ∷ b ∷ c ∷ d ∷ e ∷ f ∷ []
unfolding encode decode
encode_decode a b c d e f he hf =
    rw (
      all_fields a,
      take_at (bytes_of 8 e) (bytes_of 8 f) 8 (bytes_length 8 e),
      drop_at (bytes_of 8 e) (bytes_of 8 f) 8 (bytes_length 8 e),
      from_bytes_lem 8 e he,
      from_bytes_lem 8 f hf,
    )

-- ---- one job's record in the table

-- a record depends on the first six words alone
decode_same : (v w : List ℕ) → ((k : ℕ) → k < words_per_job → get_or v k 0 ≡ get_or w k 0) → decode v ≡ decode w
unfolding decode
decode_same v w h =
    rw (h 0 (omega arith), h 1 (omega arith), h 2 (omega arith), h 3 (omega arith), h 4 (omega arith), h 5 (omega arith))

-- the n words of a table from word i on
abbrev pub words_from : ℕ → ℕ → List ℕ → List ℕ
words_from zero i t = []
words_from (suc n) i t = get_or t i 0 ∷ words_from n (suc i) t

-- word k of those words
words_at : (n i : ℕ) (t : List ℕ) (k : ℕ) → k < n → get_or (words_from n i t) k 0 ≡ get_or t (i + k) 0
words_at zero i t k h = absurd (not-suc-le-zero h)
words_at (suc n) i t zero h = ap (λ (x : ℕ). get_or t x 0) (sym (add-zero i))
words_at (suc n) i t (suc k) h = words_at n (suc i) t k (le_of_suc-le-suc h) ∙ ap (λ (x : ℕ). get_or t x 0) (omega arith)

-- a job's record by its six words, as they stand in the table
pub record_words : (t : List ℕ) (j : ℕ) → record_at t j ≡ decode (words_from words_per_job (words_per_job * j) t)
unfolding record_at
record_words t j =
    decode_same (take words_per_job (drop (words_per_job * j) t)) (words_from words_per_job (words_per_job * j) t)
    (λ k h. get_or-take words_per_job (drop (words_per_job * j) t) k 0 h ∙ get_or-drop (words_per_job * j) t k 0 ∙ sym
    (words_at words_per_job (words_per_job * j) t k h))

-- to store a record leaves the table as long as it was
pub length_put : (t : List ℕ) (j : ℕ) (r : Record) → length (put_record t j r) ≡ length t
unfolding put_record
length_put t j r = length-sets t (words_per_job * j) (encode r)

-- a job of the table has its six words there
job_fits : (words j : ℕ) → j < job_count words → words_per_job * j + words_per_job ≤ words
job_fits words j h = omega arith

-- the record stored for a job is the one read for it
pub record_same : (t : List ℕ) (j : ℕ) (r : Record) → j < job_count (length t) → Storable r → record_at (put_record t j r) j ≡ r
unfolding record_at put_record encode
record_same t j r h s =
    let at = words_per_job * j in
    let fits : at + words_per_job ≤ length t = job_fits (length t) j h in
    let front : length (take at t) ≡ at = length-take-le at t (omega arith) in
    let back = drop (at + words_per_job) t in
    ap (λ (l : List ℕ). decode (take words_per_job (drop at l))) (sets-eq (encode r) t at fits ∙ append_assoc (take at t) (encode r) back)
    ∙ ap (λ (l : List ℕ). decode (take words_per_job l)) (drop_at (take at t) (encode r ++ back) at front)
    ∙ ap decode (take_at (encode r) back words_per_job refl)
    ∙ decode_encode r s

-- a run of stores leaves the words before it and after it
pub sets_other : (l : List ℕ) (i : ℕ) (vs : List ℕ) (k : ℕ) → (k < i) ⊎ (i + length vs ≤ k) → get_or (sets l i vs) k 0 ≡ get_or l k 0
sets_other l i [] k h = refl
sets_other l i (v ∷ vs) k (inl h) =
    sets_other (set l i v) (suc i) vs k (inl (omega arith)) ∙ get_or-set_other l i k v 0 (λ e. omega arith)
sets_other l i (v ∷ vs) k (inr h) =
    sets_other (set l i v) (suc i) vs k (inr (omega arith)) ∙ get_or-set_other l i k v 0 (λ e. omega arith)

-- to store a job's record leaves every other job's
pub record_other : (t : List ℕ) (i j : ℕ) (r : Record) → i ≢ j → record_at (put_record t i r) j ≡ record_at t j
unfolding put_record encode
record_other t i j r ne =
    let u = sets t (words_per_job * i) (encode r) in
    record_words u j
    ∙ decode_same (words_from words_per_job (words_per_job * j) u) (words_from words_per_job (words_per_job * j) t)
    (λ k h. words_at words_per_job (words_per_job * j) u k h
    ∙ sets_other t (words_per_job * i) (encode r) (words_per_job * j + k) (apart k h (dec_lt j i))
    ∙ sym (words_at words_per_job (words_per_job * j) t k h))
    ∙ sym (record_words t j)
  where
    apart : (k : ℕ) → k < words_per_job → Dec (j < i) → (words_per_job * j + k < words_per_job * i) ⊎
        (words_per_job * i + words_per_job ≤ words_per_job * j + k)
    apart k h (yes l) = inl (omega arith)
    apart k h (no l) = inr (let g : i < j = lt_of_le-ne (omega arith) ne in omega arith)

-- ---- a record with another turn

-- to store what is there changes nothing
sets_same : (n i : ℕ) (l : List ℕ) → sets l i (words_from n i l) ≡ l
sets_same zero i l = refl
sets_same (suc n) i l = ap (λ (x : List ℕ). sets x (suc i) (words_from n (suc i) l)) (set-get_or l i 0) ∙ sets_same n (suc i) l

-- a store leaves the words past it
words_past : (n i k : ℕ) (v : ℕ) (l : List ℕ) → k < i → words_from n i (set l k v) ≡ words_from n i l
words_past zero i k v l h = refl
words_past (suc n) i k v l h = ap₂ (λ (x : ℕ) (xs : List ℕ). x ∷ xs) (get_or-set_other l k i v 0 (λ e. omega arith)) (words_past n (suc i) k v l (omega arith))

-- word 0 with another turn: bits 24 up
abbrev pub turn_word : ℕ → Turn → ℕ
turn_word w turn = w % 2 ^ 24 + turn.cursor * 2 ^ 24 + turn.rest * 2 ^ 32

-- the six words of a record with another turn are those that were read, but word 0
turn_words : (t : List ℕ) (i : ℕ) (turn : Turn) → ((k : ℕ) → get_or t k 0 < 2 ^ 64)
    → encode (with_turn (decode (words_from words_per_job i t)) turn) ≡ turn_word (get_or t i 0) turn ∷ words_from 5 (suc i) t
unfolding encode decode with_turn
turn_words t i turn h =
    let k = suc (suc (suc (suc i))) in
    let low = get_or t k 0 in
    let high = get_or t (suc k) 0 in
    rw (
      low_fields (get_or t i 0),
      take_at (bytes_of 8 low) (bytes_of 8 high) 8 (bytes_length 8 low),
      drop_at (bytes_of 8 low) (bytes_of 8 high) 8 (bytes_length 8 low),
      from_bytes_lem 8 low (h k),
      from_bytes_lem 8 high (h (suc k)),
    )

-- in a table of 64-bit words, a record with another turn differs in one word
pub put_turn : (t : List ℕ) (j : ℕ) (turn : Turn) → ((k : ℕ) → get_or t k 0 < 2 ^ 64)
    → put_record t j (with_turn (record_at t j) turn) ≡ set t (words_per_job * j) (turn_word (get_or t (words_per_job * j) 0) turn)
unfolding put_record
put_turn t j turn h =
    let at = words_per_job * j in
    let w = turn_word (get_or t at 0) turn in
    ap (λ (r : Record). sets t at (encode (with_turn r turn))) (record_words t j)
    ∙ ap (sets t at) (turn_words t at turn h)
    ∙ ap (sets (set t at w) (suc at)) (sym (words_past 5 (suc at) at w t (omega arith)))
    ∙ sets_same 5 (suc at) (set t at w)
