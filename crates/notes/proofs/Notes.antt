-- Laws on a whole note: its numbers, its tests, its lists and its names. Assumes nothing.
use mathlib.Core.Path.{◌≡◌, sym, ap, ap₂, subst, ◌∙◌}
use mathlib.Core.Bool.{Bool, true, false, ◌&&◌}
use mathlib.Core.List.{List, [], ◌++◌}
use Prim.Native.Nat.{ℕ, suc, ◌+◌, ◌-◌, ◌*◌, ◌≤◌, ◌<◌}
use native.Mathlib.Nat.{add-sub_cancel_left}
use native.Mathlib.Numerals.{towards_suc}
use native.Mathlib.Omega.{arith}
use lib.Dec.{eqb, leb, ltb}
use lib.ListN.{length, take, drop, get_or, length-append, length-drop, take-append-drop}
use lib.Seq.{drop-cons, drop-drop, take-length}
use borrow.Author.Tests.{eq-eqb, ne_eqb, le-leb, lt-leb, leb-true, eqb-true, ltb-true}
use Rattle.std.specs.Prelude.{Option, Some}
use Rattle.std.specs.Option.{option_eq}
use Rattle.rules.specs.Journal.{part, number}
use Rattle.rules.specs.Records.{from_bytes}
use Rattle.rules.specs.Notes.{strings, size_of, list_ok, head_size, text_count, text_size, data_count, data_size, text_part, data_part, note_ok, all_names}
use Rattle.rules.specs.Notes.{has_name, part_at, name_part, list_part}
use Rattle.rules.proofs.Lists.{both_true}
use Rattle.notes.specs.Steps.{word_length, IsCount}
use Rattle.notes.proofs.GoodLists.{good_list, count_is}
use Rattle.notes.proofs.Words.{rest_is}
use Rattle.notes.proofs.Starts.{string_length, strings_append}

-- ---- a number of four bytes

pub number_four : (bs : List ℕ) (at : ℕ) → at + 4 ≤ length bs
    → get_or bs at 0 + get_or bs (at + 1) 0 * 256 + get_or bs (at + 2) 0 * 65536 + get_or bs (at + 3) 0 * 16777216 ≡ number at 4 bs
unfolding number part from_bytes
number_four bs at l =
    rw (
      drop-cons bs at 0 (omega arith),
      drop-cons bs (suc at) 0 (omega arith),
      drop-cons bs (suc (suc at)) 0 (omega arith),
      drop-cons bs (suc (suc (suc at))) 0 (omega arith),
    )
    (simp towards_suc (omega arith))

-- ---- a note's tests

pub note_short : (note : List ℕ) → length note < head_size → note_ok note ≡ false
unfolding note_ok
note_short note l = rw (lt-leb head_size (length note) l)

pub note_off : (note : List ℕ) (b d : ℕ) → head_size ≤ length note → b ≡ text_size note → d ≡ data_size note → (length note ≡ head_size + b + d → ⊥)
    → note_ok note ≡ false
unfolding note_ok
note_off note b d l p q e =
    rw (le-leb head_size (length note) l, ne_eqb (length note) (head_size + text_size note + data_size note) (λ z. e (rw (p, q) z)))

pub note_tested : (note : List ℕ) (b d a c : ℕ) (t u : Option ℕ) → head_size ≤ length note → b ≡ text_size note → d ≡ data_size note
    → length note ≡ head_size + b + d → a ≡ text_count note → c ≡ data_count note
    → IsCount (take (head_size + b - head_size) (drop head_size note)) t
    → IsCount (take (head_size + b + d - (head_size + b)) (drop (head_size + b) note)) u
    → (option_eq eqb t (Some a) && option_eq eqb u (Some c)) ≡ note_ok note
unfolding note_ok part
note_tested note b d a c t u l p q e h k f g =
    let ts : take (head_size + b - head_size) (drop head_size note) ≡ text_part note =
    ap (λ (m : ℕ). take m (drop head_size note)) (add-sub_cancel_left head_size b ∙ p) in
    let ds : take (head_size + b + d - (head_size + b)) (drop (head_size + b) note) ≡ data_part note =
    ap₂ (λ (m n : ℕ). take m (drop (head_size + n) note)) (add-sub_cancel_left (head_size + b) d ∙ q) p in
    let e' : length note ≡ head_size + text_size note + data_size note = e ∙ ap₂ (λ (m n : ℕ). head_size + m + n) p q in
    rw (le-leb head_size (length note) l, eq-eqb (length note) (head_size + text_size note + data_size note) e', h, k)
    (ap₂ (λ (x y : Bool). x && y) (count_is (text_part note) (text_count note) t (subst (λ (xs : List ℕ). IsCount xs t) ts f))
    (count_is (data_part note) (data_count note) u (subst (λ (xs : List ℕ). IsCount xs u) ds g)))

-- ---- what a good note is

pub record Good (note : List ℕ) : Type 0 where
  pub long : head_size ≤ length note
  pub exact : length note ≡ head_size + text_size note + data_size note
  pub text_good : list_ok (text_part note) ≡ true
  pub texts : length (strings (text_part note)) ≡ text_count note
  pub data_good : list_ok (data_part note) ≡ true
  pub datas : length (strings (data_part note)) ≡ data_count note

pub good_note : (note : List ℕ) → note_ok note ≡ true → Good note
unfolding note_ok
good_note note e =
    let p = leb head_size (length note) in
    let q = eqb (length note) (head_size + text_size note + data_size note) in
    let r = list_ok (text_part note) && eqb (length (strings (text_part note))) (text_count note) in
    let h = both_true {a = p && q && r} e in
    let g = both_true {a = p && q} h.0 in
    let f = both_true {a = p} g.0 in
    let t = both_true {a = list_ok (text_part note)} g.1 in
    let d = both_true {a = list_ok (data_part note)} h.1 in
    record {
      long = leb-true head_size (length note) f.0;
      exact = eqb-true (length note) (head_size + text_size note + data_size note) f.1;
      text_good = t.0;
      texts = eqb-true (length (strings (text_part note))) (text_count note) t.1;
      data_good = d.0;
      datas = eqb-true (length (strings (data_part note))) (data_count note) d.1;
    }

-- the data list is what stands behind the text list
pub data_rest : (note : List ℕ) → note_ok note ≡ true → data_part note ≡ drop (head_size + text_size note) note
unfolding part
data_rest note e =
    let g = good_note note e in
    let rest = drop (head_size + text_size note) note in
    let n : data_size note ≡ length rest = omega (arith, g.exact, length-drop (head_size + text_size note) note) in
    ap (λ (m : ℕ). take m rest) n ∙ take-length rest

-- "then the strings, text first"
pub note_strings : (note : List ℕ) → note_ok note ≡ true → strings (drop head_size note) ≡ all_names note
unfolding all_names part
note_strings note e =
    let g = good_note note e in
    ap strings (sym both) ∙ strings_append (text_part note) (data_part note) (good_list (text_part note) g.text_good).size
  where
    both : text_part note ++ data_part note ≡ drop head_size note
    both =
        ap (λ (l : List ℕ). text_part note ++ l) (data_rest note e ∙ sym (drop-drop (text_size note) head_size note))
        ∙ take-append-drop (text_size note) (drop head_size note)

-- ---- parts of a note as the code takes them

module _ (note : List ℕ) (which b : ℕ) (p : b ≡ text_size note) where
  pub text_list : which ≡ 0 → take (head_size + b - head_size) (drop head_size note) ≡ list_part note which
  unfolding list_part part
  text_list z = rw (eq-eqb which 0 z) (ap (λ (m : ℕ). take m (drop head_size note)) (add-sub_cancel_left head_size b ∙ p))

  pub data_list : note_ok note ≡ true → (which ≡ 0 → ⊥) → take (length note - (head_size + b)) (drop (head_size + b) note) ≡ list_part note which
  unfolding list_part
  data_list e z =
      rw (ne_eqb which 0 z)
      (rest_is note (head_size + b) ∙ ap (λ (m : ℕ). drop (head_size + m) note) p ∙ sym (data_rest note e))

-- ---- the k-th name

-- the number of names of a good note is what its two counts say
pub names_count : (note : List ℕ) → note_ok note ≡ true → length (all_names note) ≡ text_count note + data_count note
unfolding all_names
names_count note e =
    let g = good_note note e in
    length-append (strings (text_part note)) (strings (data_part note)) ∙ ap₂ (λ (m n : ℕ). m + n) g.texts g.datas

module _ (note : List ℕ) (k : ℕ) where
  pub no_note : note_ok note ≡ false → has_name note k ≡ false
  unfolding has_name
  no_note e = rw e

  pub name_below : (a c : ℕ) → note_ok note ≡ true → a ≡ text_count note → c ≡ data_count note → ltb k (a + c) ≡ has_name note k
  unfolding has_name
  name_below a c e p q = rw (e, p, q) (ap (ltb k) (sym (names_count note e)))

  pub no_name : has_name note k ≡ false → part_at 0 0 ≡ name_part note k
  unfolding name_part
  no_name e = rw e

  -- a note with a k-th name is good, and its strings are more than k
  pub name_there : has_name note k ≡ true → (note_ok note ≡ true) × (k < length (strings (drop head_size note)))
  unfolding has_name
  name_there e =
      let h = both_true {a = note_ok note} e in
      (h.0, omega (arith, ltb-true k (length (all_names note)) h.1, ap length (note_strings note h.0)))

  -- the string that the k-th string's bytes begin with is the k-th name
  pub name_found : has_name note k ≡ true → (rest names : List ℕ) (n : ℕ) → rest ≡ drop head_size note → names ≡ drop (size_of (take k (strings rest))) rest
      → size_of (take k (strings rest)) ≤ length rest → n ≡ word_length names → part_at (length note - length names) n ≡ name_part note k
  unfolding name_part
  name_found e rest names n z p w q =
      let there = name_there e in
      let l : k < length (strings rest) = omega (arith, there.1, ap (λ (l : List ℕ). length (strings l)) z) in
      let start : length note - length names ≡ head_size + size_of (take k (strings rest)) =
      omega (
        arith,
        w,
        ap length z,
        length-drop head_size note,
        ap length p,
        length-drop (size_of (take k (strings rest))) rest,
        (good_note note there.0).long,
      ) in
      rw e
      (ap₂ part_at start (q ∙ ap word_length p ∙ string_length rest k l)
      ∙ ap (λ (ws : List (List ℕ)). part_at (head_size + size_of (take k ws)) (length (get_or ws k []))) (ap strings z ∙ note_strings note there.0))
