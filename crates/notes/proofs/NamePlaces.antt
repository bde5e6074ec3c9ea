-- Laws on the places of names. Assumes nothing.
use mathlib.Core.Path.{◌≡◌, refl, sym, ap, ◌∙◌}
use mathlib.Core.Bool.{Bool, true, false, ◌&&◌, cond, and-false}
use mathlib.Core.List.{List, [], ◌∷◌, ◌++◌, map, append_assoc, append-nil}
use mathlib.Core.Option.{none, some}
use Prim.Native.Nat.{ℕ, suc, ◌+◌, ◌≤◌, ◌<◌}
use native.Mathlib.Numerals.{add-one}
use native.Mathlib.Omega.{arith}
use lib.Dec.{eqb}
use lib.ListN.{length, take, set, length-set}
use lib.Seq.{take-suc-set, length-take-le}
use borrow.Author.Tests.{eqb-true}
use Rattle.rules.specs.Basics.{all, any, same}
use Rattle.rules.specs.Masks.{most_nodes}
use Rattle.rules.specs.Maps.{map_size, no_node, nodes_in, is_in, application_node}
use Rattle.rules.specs.Records.{places_per_job, closing_place}
use Rattle.rules.specs.Notes.{strings, size_of, most_names, closing_word, table_ok, first_match, is_known, place_of, places_in}
use Rattle.rules.proofs.Lists.{both_true}
use Rattle.rules.proofs.Maps.{named, not_named, map_nodes}
use Rattle.notes.specs.Steps.{Split, Tested, found_in}

-- ---- the first match

pub match_le : (w : List ℕ) (vs : List (List ℕ)) → first_match w vs ≤ length vs
unfolding first_match
match_le w [] = omega arith
match_le w (v ∷ vs) = by (same w v) (match_le w vs)
  where
    by : (t : Bool) → first_match w vs ≤ length vs → cond t 0 (suc (first_match w vs)) ≤ suc (length vs)
    by true more = omega arith
    by false more = omega arith

-- ---- a name's place

module _ (n : ℕ) (bytes table : List ℕ) (t : Tested n bytes table) where
  -- the table has N names
  pub names_long : length (strings table) ≡ n
  unfolding table_ok
  names_long =
      let p = eqb (size_of (strings table)) (length table) in
      let q = eqb (length (strings table)) n in
      eqb-true (length (strings table)) n (both_true {a = p} (both_true {a = p && q} t.3).0).1

  -- the map has at most 64 nodes
  nodes_few : length (nodes_in bytes) ≤ map_size
  nodes_few = (map_nodes n bytes t.2).few

  module _ (w : List ℕ) where
    pub match_most : first_match w (strings table) ≤ most_nodes
    match_most = omega (arith, match_le w (strings table), names_long, t.0)

    -- "ANY becoming 255"
    pub found_closing : same w closing_word ≡ true → some closing_place ≡ found_in (strings table) (nodes_in bytes) w
    unfolding found_in is_known place_of
    found_closing e = rw e

    module _ (e : same w closing_word ≡ false) where
      -- no name of the table is this one
      pub found_none : any (same w) (strings table) ≡ false → none ≡ found_in (strings table) (nodes_in bytes) w
      unfolding found_in is_known
      found_none m = rw (e, m)

      -- "a first match outside the map counting as an unknown name"
      pub found_outside : application_node (nodes_in bytes) (first_match w (strings table)) ≡ no_node → none ≡ found_in (strings table) (nodes_in bytes) w
      unfolding found_in is_known
      found_outside o = by (is_in (nodes_in bytes) (first_match w (strings table))) refl
        where
          by : (b : Bool) → is_in (nodes_in bytes) (first_match w (strings table)) ≡ b → none ≡ found_in (strings table) (nodes_in bytes) w
          by true i =
              let f = named 0 (nodes_in bytes) (first_match w (strings table)) i in
              absurd (omega (arith, o, f.number, f.below_end, nodes_few))
          by false i = rw (e, i, and-false (any (same w) (strings table)))

      -- "a place is the node's application number"
      pub found_inside : any (same w) (strings table) ≡ true → (application_node (nodes_in bytes) (first_match w (strings table)) ≡ no_node → ⊥)
          → some (application_node (nodes_in bytes) (first_match w (strings table))) ≡ found_in (strings table) (nodes_in bytes) w
      unfolding found_in is_known place_of
      found_inside m o = by (is_in (nodes_in bytes) (first_match w (strings table))) refl
        where
          by : (b : Bool) → is_in (nodes_in bytes) (first_match w (strings table)) ≡ b
              → some (application_node (nodes_in bytes) (first_match w (strings table))) ≡ found_in (strings table) (nodes_in bytes) w
          by true i = rw (e, i, m)
          by false i = absurd (o (not_named 0 (nodes_in bytes) (first_match w (strings table)) i))

-- ---- the places of a list, name by name

module _ (names : List (List ℕ)) (nodes : List ℕ) where
  -- the places passed, and the names to come
  unfoldable pub places_left : List ℕ → List (List ℕ) → List ℕ
  places_left done ws = cond (all (is_known names nodes) ws) (done ++ map (place_of names nodes) ws) []

  pub left_start : (ws : List (List ℕ)) → places_in names nodes ws ≡ places_left [] ws
  unfolding places_in places_left
  left_start ws = refl

  pub left_none : (done : List ℕ) → places_left done [] ≡ done
  unfolding places_left all
  left_none done = append-nil done

  module _ (w : List ℕ) (ws : List (List ℕ)) (done : List ℕ) where
    -- a place is found exactly for a name that is known
    pub left_unknown : none ≡ found_in names nodes w → places_left done (w ∷ ws) ≡ []
    unfolding places_left all found_in
    left_unknown e = by (is_known names nodes w) refl e
      where
        by : (b : Bool) → is_known names nodes w ≡ b → none ≡ cond b (some (place_of names nodes w)) none → places_left done (w ∷ ws) ≡ []
        by true k f = let z : ◌≡◌ {A = ℕ} 0 1 = cc in absurd (omega arith)
        by false k f = rw k

    pub left_known : (p : ℕ) → some p ≡ found_in names nodes w → places_left done (w ∷ ws) ≡ places_left (done ++ (p ∷ [])) ws
    unfolding places_left all found_in
    left_known p e = by (is_known names nodes w) refl e
      where
        by : (b : Bool) → is_known names nodes w ≡ b → some p ≡ cond b (some (place_of names nodes w)) none
            → places_left done (w ∷ ws) ≡ places_left (done ++ (p ∷ [])) ws
        by true k f =
            let s : p ≡ place_of names nodes w = cc in
            let q = append_assoc done (place_of names nodes w ∷ []) (map (place_of names nodes) ws) in
            rw (k, s) (ap (λ (l : List ℕ). cond (all (is_known names nodes) ws) l []) (sym q))
        by false k f = let z : ◌≡◌ {A = ℕ} 0 1 = cc in absurd (omega arith)

-- ---- the loop over a list: n of its names are turned, and left is the rest of it

pub record Turned (names : List (List ℕ)) (nodes list left line : List ℕ) (n : ℕ) : Type 0 where
  pub room : n + length (strings left) ≤ most_names
  pub long : length line ≡ places_per_job
  pub places : places_in names nodes (strings list) ≡ places_left names nodes (take n line) (strings left)

-- what the loop leaves
abbrev Put : List (List ℕ) → List ℕ → List ℕ → List ℕ → ℕ → Type 0
Put names nodes list line r = (r ≡ length (places_in names nodes (strings list))) × (take r line ≡ places_in names nodes (strings list))

module _ (names : List (List ℕ)) (nodes list : List ℕ) where
  pub turned_start : (line : List ℕ) → length (strings list) ≤ most_names → length line ≡ places_per_job → Turned names nodes list list line 0
  turned_start line l e = record { room = omega arith; long = e; places = left_start names nodes (strings list) }

  module _ (left line : List ℕ) (n : ℕ) (h : Turned names nodes list left line n) where
    -- no string is left
    pub turned_last : strings left ≡ [] → Put names nodes list line n
    turned_last e =
        let q : places_in names nodes (strings list) ≡ take n line =
        h.places ∙ ap (places_left names nodes (take n line)) e ∙ left_none names nodes (take n line) in
        (sym (length-take-le n line (omega (arith, h.room, h.long))) ∙ ap length (sym q), sym q)

    module _ (word rest : List ℕ) (s : Split left word rest) where
      -- there is room for one place more
      pub turned_room : n < places_per_job
      turned_room = omega (arith, h.room, ap length s.first)

      -- "an unknown name drops that whole list to default"
      pub turned_unknown : none ≡ found_in names nodes word → Put names nodes list line 0
      turned_unknown u =
          let q : places_in names nodes (strings list) ≡ [] =
          h.places ∙ ap (places_left names nodes (take n line)) s.first ∙ left_unknown names nodes word (strings rest) (take n line) u in
          (sym (ap length q), sym q)

      pub turned_next : (p : ℕ) → some p ≡ found_in names nodes word → Turned names nodes list rest (set line n p) (n + 1)
      turned_next p k = record {
        room = omega (arith, h.room, ap length s.first);
        long = length-set line n p ∙ h.long;
        places =
            h.places ∙ ap (places_left names nodes (take n line)) s.first ∙ left_known names nodes word (strings rest) (take n line) p k
            ∙ ap (λ (d : List ℕ). places_left names nodes d (strings rest))
            (sym (take-suc-set line n p (omega (arith, turned_room, h.long))) ∙ ap (λ (m : ℕ). take m (set line n p)) (sym (add-one n)));
      }
