-- "The k-th name .. is handed back as that part of the caller's own bytes, without its zero; an empty part if the note is bad or has no such
-- name": what the part holds. Assumes nothing.
use mathlib.Core.Path.{◌≡◌, refl, sym, ap, ◌∙◌}
use mathlib.Core.Bool.{Bool, true, false, not}
use mathlib.Core.List.{List, [], ◌∷◌, ◌++◌}
use Prim.Native.Nat.{ℕ, ◌+◌, ◌-◌, ◌≤◌, ◌<◌}
use native.Mathlib.Nat.{add-sub_cancel_left}
use native.Mathlib.Omega.{arith}
use lib.Dec.{ltb}
use lib.ListN.{length, take, drop, get_or, length-append, get_or-append, get_or-eq_default}
use lib.Seq.{drop-drop, get_or-append-add}
use borrow.Author.Tests.{ltb-true, ltb-false}
use Rattle.rules.specs.Basics.{is_nil}
use Rattle.rules.specs.Journal.{part}
use Rattle.rules.specs.Notes.{strings, size_of, head_size, text_part, data_part, note_ok, all_names, has_name, part_at, in_part, name_part}
use Rattle.rules.proofs.Lists.{both_true, both_hold}
use Rattle.notes.proofs.GoodLists.{good_list, names_some}
use Rattle.notes.proofs.Notes.{good_note, note_strings, name_there}
use Rattle.notes.proofs.Starts.{string_bytes}

module _ (note : List ℕ) (k : ℕ) where
  -- the part is the k-th name of a good note, text before data, without its zero
  pub part_is_name : has_name note k ≡ true → in_part note (name_part note k) ≡ get_or (all_names note) k []
  unfolding name_part part
  part_is_name e =
      let t = name_there note k e in
      let s = note_strings note t.0 in
      let rest = drop head_size note in
      rw e
      (ap (λ (ws : List (List ℕ)). take (length (get_or ws k [])) (drop (head_size + size_of (take k ws)) note)) (sym s)
      ∙ ap (take (length (get_or (strings rest) k []))) (sym (drop-drop (size_of (take k (strings rest))) head_size note))
      ∙ string_bytes rest k t.1
      ∙ ap (λ (ws : List (List ℕ)). get_or ws k []) s)

  -- "an empty part if the note is bad or has no such name"
  pub no_part : has_name note k ≡ false → in_part note (name_part note k) ≡ []
  unfolding name_part part
  no_part e = rw e

  -- a name has at least one byte
  name_some : has_name note k ≡ true → 1 ≤ length (get_or (all_names note) k [])
  unfolding has_name all_names
  name_some e = side (ltb k (length texts)) refl
    where
      texts : List (List ℕ)
      texts = strings (text_part note)

      datas : List (List ℕ)
      datas = strings (data_part note)

      h : (note_ok note ≡ true) × (ltb k (length (texts ++ datas)) ≡ true)
      h = both_true {a = note_ok note} e

      side : (t : Bool) → ltb k (length texts) ≡ t → 1 ≤ length (get_or (texts ++ datas) k [])
      side true l =
          let s = names_some texts k (good_list (text_part note) (good_note note h.0).text_good).names (ltb-true k (length texts) l) in
          omega (arith, s, ap length (get_or-append texts datas [] k (ltb-true k (length texts) l)))
      side false l =
          let j = k - length texts in
          let q : k ≡ length texts + j = omega (arith, ltb-false k (length texts) l) in
          let b : j < length datas = omega (arith, length-append texts datas, ltb-true k (length (texts ++ datas)) h.1, ltb-false k (length texts) l) in
          let s = names_some datas j (good_list (data_part note) (good_note note h.0).data_good).names b in
          omega (arith, s, ap length (ap (λ (m : ℕ). get_or (texts ++ datas) m []) q ∙ get_or-append-add texts datas j []))

  -- and only then
  pub empty_part : is_nil (in_part note (name_part note k)) ≡ not (has_name note k)
  unfolding is_nil
  empty_part = by (has_name note k) refl
    where
      full : (xs : List ℕ) → 1 ≤ length xs → is_nil xs ≡ false
      full [] l = absurd (omega arith)
      full (x ∷ xs) l = refl

      by : (t : Bool) → has_name note k ≡ t → is_nil (in_part note (name_part note k)) ≡ not (has_name note k)
      by true e = rw (part_is_name e, e) (full (get_or (all_names note) k []) (name_some e))
      by false e = rw (no_part e, e)

  -- the code's part of the note
  pub lent_part : (start len : ℕ) → part_at start len ≡ name_part note k → take (start + len - start) (drop start note) ≡ in_part note (name_part note k)
  unfolding part
  lent_part start len e = ap (λ (m : ℕ). take m (drop start note)) (add-sub_cancel_left start len) ∙ ap (in_part note) e

-- so each name of a good note is handed back, and past the last an empty part
pub good_names : (note : List ℕ) (k : ℕ) → note_ok note ≡ true → in_part note (name_part note k) ≡ get_or (all_names note) k []
unfolding has_name
good_names note k e = by (ltb k (length (all_names note))) refl
  where
    by : (t : Bool) → ltb k (length (all_names note)) ≡ t → in_part note (name_part note k) ≡ get_or (all_names note) k []
    by true l = part_is_name note k (both_hold e l)
    by false l =
        no_part note k (rw (e, l)) ∙ sym (get_or-eq_default (all_names note) [] (ltb-false k (length (all_names note)) l))
