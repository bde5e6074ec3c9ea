-- The places that a note's list is turned into can be installed: each but the last is an application number of the job's map, and the last is
-- one too or a closing 255. Assumes nothing.
use mathlib.Core.Path.{◌≡◌, refl, sym, ap, subst, ◌∙◌}
use mathlib.Core.Bool.{Bool, true, false, not, ◌&&◌, false≢true, and-false}
use mathlib.Core.List.{List, [], ◌∷◌, map}
use mathlib.Core.Logic.{◌⊎◌, inl, inr, ⊎_elim}
use Prim.Native.Nat.{ℕ, zero, suc, ◌≤◌, ◌<◌}
use native.Mathlib.Omega.{arith}
use lib.ListN.{length, take, drop, get_or, length-map}
use Rattle.rules.specs.Basics.{all, any, is_nil, between, same}
use Rattle.rules.specs.Calls.{is_job, mapped_tables_ok}
use Rattle.rules.specs.Decisions.{accept, refuse}
use Rattle.rules.specs.Maps.{map_bytes, nodes_in, is_in, good_map}
use Rattle.rules.specs.Notes.{strings, text_word, data_word, any_word, closing_word, name_ok, names_ok, most_names, list_ok, note_ok, table_ok, first_match}
use Rattle.rules.specs.Records.{closing_place}
use Rattle.rules.specs.Notes.{is_known, place_of, places_in, list_part, places_decision, note_places}
use Rattle.rules.proofs.Decisions.{passed}
use Rattle.rules.proofs.Lists.{both_true}
use Rattle.rules.proofs.Maps.{named}
use Rattle.notes.proofs.GoodLists.{good_list}
use Rattle.notes.proofs.Tests.{note_list}
use Rattle.notes.proofs.Outputs.{Wrote, call_wrote, call_refused}

-- place i is an application number of a map with so many nodes, or it is 255 and the last
abbrev pub Fits : ℕ → List ℕ → ℕ → Type 0
Fits entries places i = (get_or places i 0 < entries) ⊎ ((get_or places i 0 ≡ closing_place) × (suc i ≡ length places))

module _ (names : List (List ℕ)) (nodes : List ℕ) where
  -- a known name other than ANY has an application number of the map
  place_below : (w : List ℕ) → is_known names nodes w ≡ true → same w closing_word ≡ false → place_of names nodes w < length nodes
  unfolding is_known place_of
  place_below w k e =
      let h : (any (same w) names && is_in nodes (first_match w names)) ≡ true = rw e at k in
      let f = named 0 nodes (first_match w names) (both_true {a = any (same w) names} h).1 in
      rw e (omega (arith, f.number, f.below_end))

  -- ANY has 255
  place_closing : (w : List ℕ) → same w closing_word ≡ true → place_of names nodes w ≡ closing_place
  unfolding place_of
  place_closing w e = rw e

  -- "ANY is allowed only as the last of a list"
  closing_last : (w : List ℕ) (ws : List (List ℕ)) → name_ok w (is_nil ws) ≡ true → same w closing_word ≡ true → length ws ≡ 0
  unfolding name_ok is_nil
  closing_last w [] k e = refl
  closing_last w (v ∷ vs) k e = absurd (false≢true (sym (and-false others) ∙ rw e at k))
    where
      others : Bool
      others = between 1 15 (length w) && not (same w text_word) && not (same w data_word) && not (same w any_word)

  -- each place of known names fits
  known_fit : (ws : List (List ℕ)) → names_ok ws ≡ true → all (is_known names nodes) ws ≡ true → (i : ℕ) → i < length ws
      → Fits (length nodes) (map (place_of names nodes) ws) i
  unfolding names_ok all
  known_fit [] g k i l = absurd (omega arith)
  known_fit (w ∷ ws) g k zero l =
      first (both_true {a = name_ok w (is_nil ws)} g).0 (both_true {a = is_known names nodes w} k).0 (same w closing_word) refl
    where
      first : name_ok w (is_nil ws) ≡ true → is_known names nodes w ≡ true → (t : Bool) → same w closing_word ≡ t
          → Fits (length nodes) (place_of names nodes w ∷ map (place_of names nodes) ws) 0
      first o h true e = inr (place_closing w e, ap suc (sym (length-map ws (place_of names nodes) ∙ closing_last w ws o e)))
      first o h false e = inl (place_below w h e)
  known_fit (w ∷ ws) g k (suc i) l =
      ⊎_elim (λ b. inl b) (λ c. inr (c.0, ap suc c.1))
      (known_fit ws (both_true {a = name_ok w (is_nil ws)} g).1 (both_true {a = is_known names nodes w} k).1 i (omega arith))

  -- the places of a good list are at most 16, and each fits
  pub places_fit : (list : List ℕ) → list_ok list ≡ true → let places = places_in names nodes (strings list) in
      (length places ≤ most_names) × ((i : ℕ) → i < length places → Fits (length nodes) places i)
  unfolding places_in
  places_fit list e = by (all (is_known names nodes) (strings list)) refl
    where
      by : (t : Bool) → all (is_known names nodes) (strings list) ≡ t → let places = places_in names nodes (strings list) in
          (length places ≤ most_names) × ((i : ℕ) → i < length places → Fits (length nodes) places i)
      by true k =
          let g = good_list list e in
          rw k (
            omega (arith, length-map (strings list) (place_of names nodes), g.most),
            λ i l. known_fit (strings list) g.names k i (omega (arith, length-map (strings list) (place_of names nodes))),
          )
      by false k = rw k (omega arith, λ i l. absurd (omega arith))

-- ---- what the call leaves

module _ (n : ℕ) (records maps table note : List ℕ) (j which : ℕ) (out : List ℕ) where
  -- a refused call leaves the output
  pub refused_places : (r : ℕ) → (note_places n records maps table note j which out).answer ≡ refuse r
      → (note_places n records maps table note j which out).output ≡ out
  unfolding note_places
  refused_places r e = call_refused (places_decision n records maps table note j which) out r e

  module _ (k : ℕ) (e : (note_places n records maps table note j which out).answer ≡ accept k) where
    pub wrote_places : Wrote (places_decision n records maps table note j which) out k
    unfolding note_places
    wrote_places = call_wrote (places_decision n records maps table note j which) out k e

    -- "no output changes past what is written"
    pub places_past : drop k (note_places n records maps table note j which out).output ≡ drop k out
    unfolding note_places
    places_past = wrote_places.past

    -- the list was one of a good note
    turned_list : (list_ok (list_part note which) ≡ true)
        × (places_in (strings table) (nodes_in (map_bytes maps j)) (strings (list_part note which)) ≡ wrote_places.bytes)
    unfolding places_decision
    turned_list =
        let d1 = passed (mapped_tables_ok n (length records) (length maps) && table_ok n table) 1 _ wrote_places.tests in
        let d2 = passed (is_job records j) 2 _ d1.1 in
        let d3 = passed (good_map n (map_bytes maps j)) 15 _ d2.1 in
        let d4 = passed (note_ok note) 16 _ d3.1 in
        (note_list note which d4.0, cc)

    -- at most 16 places were written; each is an application number of the job's map, but that the last may be 255
    pub written_fit : (k ≤ most_names)
        × ((i : ℕ) → i < k → Fits (length (nodes_in (map_bytes maps j))) (take k (note_places n records maps table note j which out).output) i)
    unfolding note_places
    written_fit =
        let t = turned_list in
        let w = wrote_places in
        let f = places_fit (strings table) (nodes_in (map_bytes maps j)) (list_part note which) t.0 in
        let q = t.1 ∙ sym w.front in (
          omega (arith, f.0, ap length t.1, w.size),
          λ i l. subst (λ (places : List ℕ). Fits (length (nodes_in (map_bytes maps j))) places i) q (f.1 i (omega (arith, ap length t.1, w.size))),
        )
