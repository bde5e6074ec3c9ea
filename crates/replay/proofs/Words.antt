-- The laws of the encoded calls: the places of a call, and the calls of a list one by one.
-- Assumes nothing.
use Prim.Native.Nat.{ℕ, zero, suc, ◌+◌, ◌-◌, ◌*◌, ◌/◌, ◌%◌, ◌^◌, ◌≤◌, ◌<◌}
use mathlib.Core.Path.{◌≡◌, refl, sym, ap, ◌∙◌}
use mathlib.Core.Bool.{Bool, true, false, ◌&&◌, ◌||◌, cond, and-false, or-false, false≢true}
use mathlib.Core.List.{List, [], ◌∷◌, ◌++◌, append_assoc}
use native.Mathlib.Nat.{zero-add, add-zero, sub-zero, add-sub_cancel_left}
use native.Mathlib.Decide.{dec_le}
use native.Mathlib.Omega.{arith}
use borrow.Author.Tests.{eq-eqb, ne_eqb, le-leb, lt-leb, le-ltb, lt-ltb}
use lib.Dec.{eqb, leb, ltb}
use lib.ListN.{length, get_or, take, drop, replicate, length-append, length-drop, length-replicate}
use lib.Seq.{get_or-take, take_all, take-append-le, length-take-le, take-take, drop-cons, drop-drop, take_at, drop_at, get_or-append-add, get_or-drop}
use Rattle.rules.specs.Basics.{all, each, from, between}
use Rattle.rules.specs.Records.{bytes_of, places_per_job, policy}
use Rattle.rules.specs.Decisions.{Decision, refuse, accept, is_accepted, accepted_in}
use Rattle.rules.specs.Book.{Call, request, release, install, rebind, clear, fresh_table, keep_nodes, set_map, drain}
use Rattle.rules.specs.Journal.{kind_of}
use Rattle.rules.proofs.Bytes.{bytes_length, bytes_at}
use Rattle.rules.proofs.Lists.{both_true, all_true, member_from, each_from_suc, all_from_step, all_from_end}
use Rattle.book.specs.Says.{Named}
use Rattle.std.specs.Prelude.{Option, Some, None, is_some}
use Rattle.std.specs.Option.{unwrap_or}
use Rattle.replay.specs.declared.encoding.Kind.{Kind}
use Rattle.replay.specs.declared.encoding.Kind.TheVariants.{Request, Release, Rebind, Install, Clear, Fresh, Keep, SetMap, Drain}
use Rattle.replay.specs.Kinds.{number_of, KindOf}
use Rattle.replay.specs.Encoding.{call_words, word_at, filled, list_in, call_of, own_call, call_in, words_of, call_count, calls_to, calls_ok}

-- ---- one call

-- "1 request, 2 release, 3 rebind, 4 install, 5 clear": these kinds of the journal are known
journal_kind : (call : List ℕ) (k : ℕ) → is_accepted (call_of (kind_of k) call) ≡ between 1 5 k
journal_kind call k = go k
  where
    go : (k : ℕ) → is_accepted (call_of (kind_of k) call) ≡ between 1 5 k
    go zero = unfold call_of in refl
    go (suc zero) = unfold call_of in refl
    go (suc (suc zero)) = unfold call_of in refl
    go (suc (suc (suc zero))) = unfold call_of in refl
    go (suc (suc (suc (suc zero)))) = unfold call_of in refl
    go (suc (suc (suc (suc (suc zero))))) = unfold call_of in refl
    go (suc (suc (suc (suc (suc (suc k)))))) =
        let n : ℕ = suc (suc (suc (suc (suc (suc k))))) in
        unfold call_of in rw (lt-leb n 5 (omega arith), and-false (leb 1 n))

-- the first four of the own kinds are known, and no other
own_kind : (call : List ℕ) (k : ℕ) → 16 ≤ k → is_accepted (own_call call (k - 16)) ≡ between 16 19 k
unfolding own_call
own_kind call k l = go (k - 16) refl
  where
    four : List (Decision Call)
    four =
        accept fresh_table ∷ accept (keep_nodes (word_at call 1) (list_in call)) ∷ accept (set_map (word_at call 1) (list_in call))
        ∷ accept (drain (word_at call 1) (word_at call 2)) ∷ []

    go : (d : ℕ) → k - 16 ≡ d → is_accepted (get_or four d (refuse 13)) ≡ between 16 19 k
    go zero e = rw (le-leb 16 k l, le-leb k 19 (omega arith))
    go (suc zero) e = rw (le-leb 16 k l, le-leb k 19 (omega arith))
    go (suc (suc zero)) e = rw (le-leb 16 k l, le-leb k 19 (omega arith))
    go (suc (suc (suc zero))) e = rw (le-leb 16 k l, le-leb k 19 (omega arith))
    go (suc (suc (suc (suc d)))) e = rw (lt-leb k 19 (omega arith), and-false (leb 16 k))

-- the kinds that are known: those of the journal, and 16 to 19
pub known_kind : (call : List ℕ) → is_accepted (call_in call) ≡ (between 1 5 (word_at call 0) || between 16 19 (word_at call 0))
unfolding call_in
known_kind call = go (word_at call 0) (dec_le 16 (word_at call 0))
  where
    go : (k : ℕ) → Dec (16 ≤ k) → is_accepted (cond (ltb k 16) (call_of (kind_of k) call) (own_call call (k - 16))) ≡ (between 1 5 k || between 16 19 k)
    go k (yes l) = rw (le-ltb k 16 l, lt-leb k 5 (omega arith), and-false (leb 1 k)) (own_kind call k l)
    go k (no l) = rw (lt-ltb k 16 (omega arith), lt-leb 16 k (omega arith), or-false (between 1 5 k)) (journal_kind call k)

-- the number of a kind is known
kind_among : (k : Kind) → (between 1 5 (number_of k) || between 16 19 (number_of k)) ≡ true
kind_among Request = refl
kind_among Release = refl
kind_among Rebind = refl
kind_among Install = refl
kind_among Clear = refl
kind_among Fresh = refl
kind_among Keep = refl
kind_among SetMap = refl
kind_among Drain = refl

-- a call is known exactly when its first word has a kind
pub kind_known : (r : Option Kind) (call : List ℕ) → KindOf r (word_at call 0) → is_some r ≡ is_accepted (call_in call)
kind_known (Some k) call h = sym (known_kind call ∙ ap (λ (w : ℕ). between 1 5 w || between 16 19 w) h ∙ kind_among k)
kind_known None call h = sym (known_kind call ∙ h)

-- the kind that a known call is read by
pub kind_read : (r : Option Kind) (call : List ℕ) {c : Call} {k : Kind} → KindOf r (word_at call 0) → call_in call ≡ accept c → k ≡ unwrap_or r Fresh
    → word_at call 0 ≡ number_of k
kind_read (Some k) call h e u = h ∙ ap number_of (sym u)
kind_read None call h e u = absurd (false≢true (sym (known_kind call ∙ h) ∙ ap is_accepted e))

-- the call of a kind
module _ (call : List ℕ) (c : Call) (e : call_in call ≡ accept c) where
  of_kind : (k : ℕ) → k < 16 → word_at call 0 ≡ k → call_of (kind_of k) call ≡ accept c
  unfolding call_in
  of_kind k l s = rw (s, lt-ltb k 16 l) at e

  -- 1 is a request
  pub says_request : word_at call 0 ≡ 1 → c ≡ request (word_at call 1) (word_at call 2)
  unfolding call_of
  says_request s = let q = of_kind 1 (omega arith) s in cc

  -- 2 is a release
  pub says_release : word_at call 0 ≡ 2 → c ≡ release (word_at call 1) (word_at call 2)
  unfolding call_of
  says_release s = let q = of_kind 2 (omega arith) s in cc

  -- 3 is a rebind
  pub says_rebind : word_at call 0 ≡ 3 → c ≡ rebind (word_at call 1) (word_at call 2)
  unfolding call_of
  says_rebind s = let q = of_kind 3 (omega arith) s in cc

  -- 4 is an install
  pub says_install : word_at call 0 ≡ 4 → c ≡ install (word_at call 1) (policy (word_at call 2) (word_at call 3) (word_at call 4) (list_in call))
  unfolding call_of
  says_install s = let q = of_kind 4 (omega arith) s in cc

  -- 5 is a clear
  pub says_clear : word_at call 0 ≡ 5 → c ≡ clear (word_at call 1)
  unfolding call_of
  says_clear s = let q = of_kind 5 (omega arith) s in cc

  -- 17 is a tenant's call
  pub says_keep : word_at call 0 ≡ 17 → c ≡ keep_nodes (word_at call 1) (list_in call)
  unfolding call_in own_call
  says_keep s = let q = rw s at e in cc

  -- 18 is an administrator's
  pub says_set : word_at call 0 ≡ 18 → c ≡ set_map (word_at call 1) (list_in call)
  unfolding call_in own_call
  says_set s = let q = rw s at e in cc

  -- 19 is a drain
  pub says_drain : word_at call 0 ≡ 19 → c ≡ drain (word_at call 1) (word_at call 2)
  unfolding call_in own_call
  says_drain s = let q = rw s at e in cc

  -- 16 is a fresh table
  pub says_fresh : word_at call 0 ≡ 16 → c ≡ fresh_table
  unfolding call_in own_call
  says_fresh s = let q = rw s at e in cc

-- a list of so many places has that length
pub places_length : (call : List ℕ) → length (list_in call) ≡ word_at call 5
unfolding list_in
places_length call =
    let n : ℕ = word_at call 5 in
    length-take-le n _ (omega (arith, length-append (each (bytes_of 8) (drop 8 call)) (replicate n 0), length-replicate n (let z : ℕ = 0 in z)))

-- the sixteen places of words 8 and 9
abbrev pub sixteen : List ℕ → List ℕ
sixteen call = bytes_of 8 (word_at call 8) ++ bytes_of 8 (word_at call 9)

module _ (call : List ℕ) (h : length call ≡ call_words) where
  -- all places of the words, those of words 8 and 9 first
  all_places : (rest : List ℕ) × (each (bytes_of 8) (drop 8 call) ≡ sixteen call ++ rest)
  unfolding each
  all_places =
      let rest = each (bytes_of 8) (drop 10 call) in
      let a = drop-cons call 8 0 (omega arith) in
      let b = drop-cons call 9 0 (omega arith) in
      (rest, rw (a, b) (sym (append_assoc (bytes_of 8 (word_at call 8)) (bytes_of 8 (word_at call 9)) rest)))

  -- there are sixteen of them
  pub sixteen_long : length (sixteen call) ≡ places_per_job
  sixteen_long =
      length-append (bytes_of 8 (word_at call 8)) (bytes_of 8 (word_at call 9)) ∙ omega
      (arith, bytes_length 8 (word_at call 8), bytes_length 8 (word_at call 9))

  -- the list that the words say, before it is cut at its length: the places of words 8 and 9 first
  listed : List ℕ
  listed = each (bytes_of 8) (drop 8 call) ++ replicate (word_at call 5) 0

  tail : List ℕ
  tail = all_places.0 ++ replicate (word_at call 5) 0

  sixteen_first : listed ≡ sixteen call ++ tail
  unfolding listed tail
  sixteen_first =
      ap (λ (l : List ℕ). l ++ replicate (word_at call 5) 0) all_places.1 ∙ append_assoc (sixteen call) all_places.0 (replicate (word_at call 5) 0)

  -- a list of at most sixteen places
  pub short_places : word_at call 5 ≤ places_per_job → filled (take (word_at call 5) (sixteen call)) ≡ filled (list_in call)
  unfolding list_in listed
  short_places l =
      ap filled (sym (ap (take (word_at call 5)) sixteen_first ∙ take-append-le (word_at call 5) (sixteen call) tail (omega (arith, sixteen_long))))

  -- a list of sixteen places or more
  pub long_places : places_per_job ≤ word_at call 5 → sixteen call ≡ filled (list_in call)
  unfolding list_in listed
  long_places l =
      let n : ℕ = word_at call 5 in
      let many : n ≤ length listed = omega (arith, length-append (each (bytes_of 8) (drop 8 call)) (replicate n 0), length-replicate n (let z : ℕ = 0 in z)) in
      sym (take-append-le places_per_job (take n listed) (replicate places_per_job 0) (omega (arith, length-take-le n listed many))
      ∙ take-take places_per_job n listed l ∙ ap (take places_per_job) sixteen_first
      ∙ take-append-le places_per_job (sixteen call) tail (omega (arith, sixteen_long)) ∙ take_all places_per_job (sixteen call) (omega (arith, sixteen_long)))

-- ---- a list for a map

-- so many words have eight bytes each
each_long : (ws : List ℕ) → length (each (bytes_of 8) ws) ≡ 8 * length ws
unfolding each
each_long [] = refl
each_long (w ∷ ws) = length-append (bytes_of 8 w) (each (bytes_of 8) ws) ∙ omega (arith, bytes_length 8 w, each_long ws)

-- an entry of the first of two lists
entry_first : (xs ys : List ℕ) (i : ℕ) → i < length xs → get_or (xs ++ ys) i 0 ≡ get_or xs i 0
entry_first [] ys i l = absurd (omega arith)
entry_first (x ∷ xs) ys zero l = refl
entry_first (x ∷ xs) ys (suc i) l = entry_first xs ys i (omega arith)

-- byte i of some words is byte i % 8 of word i / 8
each_byte : (ws : List ℕ) (i : ℕ) → i < 8 * length ws → get_or (each (bytes_of 8) ws) i 0 ≡ get_or ws (i / 8) 0 / 2 ^ (8 * (i % 8)) % 256
unfolding each
each_byte [] i l = absurd (omega arith)
each_byte (w ∷ ws) i l = go (dec_le 8 i) (each_byte ws (i - 8))
  where
    rest : List ℕ
    rest = each (bytes_of 8) ws

    go : Dec (8 ≤ i) → (i - 8 < 8 * length ws → get_or rest (i - 8) 0 ≡ get_or ws ((i - 8) / 8) 0 / 2 ^ (8 * ((i - 8) % 8)) % 256)
        → get_or (bytes_of 8 w ++ rest) i 0 ≡ get_or (w ∷ ws) (i / 8) 0 / 2 ^ (8 * (i % 8)) % 256
    go (no s) ih =
        let here : i / 8 ≡ 0 = omega arith in
        let same : i % 8 ≡ i = omega arith in
        rw (here, same) (entry_first (bytes_of 8 w) rest i (omega (arith, bytes_length 8 w)) ∙ bytes_at 8 w i (omega arith))
    go (yes b) ih =
        let past : i ≡ length (bytes_of 8 w) + (i - 8) = omega (arith, bytes_length 8 w) in
        let next : i / 8 ≡ suc ((i - 8) / 8) = omega arith in
        let same : i % 8 ≡ (i - 8) % 8 = omega arith in
        rw (next, same) (ap (λ (k : ℕ). get_or (bytes_of 8 w ++ rest) k 0) past ∙ get_or-append-add (bytes_of 8 w) rest (i - 8) 0 ∙ ih (omega arith))

-- the bytes of words 8 to 15
abbrev pub bytes_in : List ℕ → List ℕ
bytes_in call = each (bytes_of 8) (drop 8 call)

module _ (call : List ℕ) (h : length call ≡ call_words) where
  -- there are 64
  pub bytes_64 : length (bytes_in call) ≡ 64
  bytes_64 = each_long (drop 8 call) ∙ omega (arith, length-drop 8 call)

  -- byte i is one of word 8 + i / 8
  pub byte_in : (i : ℕ) → i < 64 → get_or (bytes_in call) i 0 ≡ word_at call (8 + i / 8) / 2 ^ (8 * (i % 8)) % 256
  byte_in i l =
      each_byte (drop 8 call) i (omega (arith, length-drop 8 call)) ∙ ap (λ (w : ℕ). w / 2 ^ (8 * (i % 8)) % 256) (get_or-drop 8 call (i / 8) 0)

  -- a call's list: these bytes begin with it, or it is too long for a map
  pub list_named : Named (word_at call 5) (bytes_in call) (list_in call)
  unfolding list_in
  list_named = record {
    long = sym (places_length call);
    held = λ l. sym (take-append-le (word_at call 5) (bytes_in call) (replicate (word_at call 5) 0) l);
    past = λ l. omega (arith, bytes_64, l);
  }

-- ---- the calls of a list

-- the part of the words from 16 * i to 16 more is call i's
pub part_words : (words : List ℕ) (i : ℕ) → take (call_words * i + call_words - call_words * i) (drop (call_words * i) words) ≡ words_of words i
part_words words i = ap (λ (n : ℕ). take n (drop (call_words * i) words)) (add-sub_cancel_left (call_words * i) call_words)

-- its first word is the one there
pub first_word : (words : List ℕ) (i : ℕ) → word_at (words_of words i) 0 ≡ get_or words (call_words * i) 0
first_word words i =
    get_or-take call_words (drop (call_words * i) words) 0 0 (omega arith) ∙ get_or-drop (call_words * i) words 0 0
    ∙ ap (λ (k : ℕ). get_or words k 0) (add-zero (call_words * i))

-- sixteen words cut off the rest are the next call
pub call_cut : (words call rest : List ℕ) (i : ℕ) → drop (call_words * i) words ≡ call ++ rest → length call ≡ call_words
    → (words_of words i ≡ call) × (rest ≡ drop (call_words * (i + 1)) words)
call_cut words call rest i e l =
    let next : call_words * i + call_words ≡ call_words * (i + 1) = omega arith in (
      ap (take call_words) e ∙ take_at call rest call_words l,
      sym (drop_at call rest call_words l) ∙ ap (drop call_words) (sym e) ∙ drop-drop call_words (call_words * i) words ∙ ap (λ (k : ℕ). drop k words) next,
    )

-- each call of a list that is in order is of a known kind
pub call_ok : (words : List ℕ) (i : ℕ) → calls_ok words ≡ true → i < call_count words → is_accepted (call_in (words_of words i)) ≡ true
unfolding calls_ok
call_ok words i h l =
    all_true (λ i. is_accepted (call_in (words_of words i))) (both_true {a = eqb (length words % call_words) 0} h).1
    (member_from 0 (call_count words) i (omega arith) (omega arith))

-- one call more, if it is of a known kind
pub calls_more : (words : List ℕ) (i : ℕ) (c : Call) → call_in (words_of words i) ≡ accept c → calls_to words (suc i) ≡ calls_to words i ++ (c ∷ [])
unfolding calls_to
calls_more words i c e =
    each_from_suc (λ k. accepted_in (call_in (words_of words k))) 0 i
    ∙ ap (λ (k : ℕ). each (λ k. accepted_in (call_in (words_of words k))) (from 0 i) ++ accepted_in (call_in (words_of words k))) (zero-add i)
    ∙ ap (λ (d : Decision Call). each (λ k. accepted_in (call_in (words_of words k))) (from 0 i) ++ accepted_in d) e

-- what the calls tested so far and those from call i on come to
abbrev pub Tested : List ℕ → ℕ → Bool → Type 0
Tested words i ok = (ok && all (λ k. is_accepted (call_in (words_of words k))) (from i (call_count words - i))) ≡ calls_ok words

-- a call that is cut short
pub cut_short : (words : List ℕ) → (length words % call_words ≡ 0 → ⊥) → calls_ok words ≡ false
unfolding calls_ok
cut_short words h = rw (ne_eqb (length words % call_words) 0 h)

-- no call is tested, only the length
pub none_tested : (words : List ℕ) → length words % call_words ≡ 0 → Tested words 0 true
unfolding calls_ok
none_tested words h = rw (eq-eqb (length words % call_words) 0 h, sub-zero (call_count words))

-- one call more is tested
pub one_tested : (words : List ℕ) (i : ℕ) (ok one : Bool) → i < call_count words → one ≡ is_accepted (call_in (words_of words i)) → Tested words i ok
    → Tested words (i + 1) (ok && one)
one_tested words i ok one l e h = rw e (sym (all_from_step (λ k. is_accepted (call_in (words_of words k))) (call_count words) i ok l) ∙ h)

-- all calls are tested
pub all_tested : (words : List ℕ) (i : ℕ) (ok : Bool) → call_count words ≤ i → Tested words i ok → ok ≡ calls_ok words
all_tested words i ok l h = sym (all_from_end (λ k. is_accepted (call_in (words_of words k))) (call_count words) i ok l) ∙ h
