-- What a note's list is turned into can be installed in mode 4: for a job with a well-formed record and an allowed node nothing is refused.
-- Assumes nothing.
use Prim.Native.Nat.{ℕ, suc, ◌≤◌, ◌<◌}
use mathlib.Core.Path.{◌≡◌, refl, sym, ap, ◌∙◌}
use mathlib.Core.Logic.{inl, inr, ⊎_elim}
use mathlib.Core.Bool.{Bool, true, false, not, ◌&&◌, cond}
use mathlib.Core.List.{List, [], ◌∷◌, map}
use native.Mathlib.Omega.{arith}
use borrow.Author.Tests.{eq-eqb, ne_eqb, lt-ltb, le-leb}
use lib.Dec.{ltb}
use lib.ListN.{length, take, length-map}
use lib.Pow.{pow_pos}
use Rattle.rules.specs.Basics.{all, last_or, but_last}
use Rattle.rules.specs.Masks.{is_empty}
use Rattle.rules.specs.Records.{Policy, policy, row_of, is_known, flag_known, places_per_job, closing_place, closes, record_at, well_formed, installed}
use Rattle.rules.specs.Maps.{map_size, map_bytes, nodes_in, good_map, system_node, turned, named_places, within_map}
use Rattle.rules.specs.Decisions.{accept}
use Rattle.rules.specs.Calls.{
  Tables,
  map_of,
  is_job,
  is_mapped,
  mapped_tables_ok,
  flag_fits,
  policy_known,
  policy_fits,
  install_fits,
  install_decision,
  storing,
}
use Rattle.rules.specs.Notes.{table_ok, note_places, places_decision}
use Rattle.rules.proofs.Decisions.{passed}
use Rattle.rules.proofs.Lists.{both_true, both_hold}
use Rattle.rules.proofs.Maps.{turned_empty, map_nodes}
use Rattle.notes.proofs.PlacesFit.{Fits, wrote_places, written_fit}

-- a mode 4 policy of some places
abbrev list_of : List ℕ → Policy
list_of places = policy 4 0 0 places

-- places that fit name entries of the map, but for a closing 255
fit_named : (entries : ℕ) (places : List ℕ) → entries ≤ map_size → ((i : ℕ) → i < length places → Fits entries places i)
    → all (λ a. ltb a entries) (cond (closes places) (but_last places) places) ≡ true
unfolding all closes last_or but_last
fit_named entries [] few fit = refl
fit_named entries (a ∷ []) few fit =
    ⊎_elim
    (λ l. rw (ne_eqb a closing_place (λ q. omega arith), lt-ltb a entries l) refl)
    (λ q. rw (eq-eqb a closing_place q.0) refl)
    (fit 0 (omega arith))
fit_named entries (a ∷ b ∷ rest) few fit =
    ⊎_elim
    (λ l. by (closes (b ∷ rest)) (lt-ltb a entries l) (fit_named entries (b ∷ rest) few (λ i h. later i (fit (suc i) (omega arith)))))
    (λ q. absurd (omega (arith, q.1)))
    (fit 0 (omega arith))
  where
    later : (i : ℕ) → Fits entries (a ∷ b ∷ rest) (suc i) → Fits entries (b ∷ rest) i
    later i f = ⊎_elim (λ l. inl l) (λ q. inr (q.0, omega (arith, q.1))) f

    by : (t : Bool) → ltb a entries ≡ true → all (λ a. ltb a entries) (cond t (but_last (b ∷ rest)) (b ∷ rest)) ≡ true
        → all (λ a. ltb a entries) (cond t (a ∷ but_last (b ∷ rest)) (a ∷ b ∷ rest)) ≡ true
    by true e h = both_hold e h
    by false e h = both_hold e h

-- so an install of them in mode 4 names entries of the map alone
within : (nodes places : List ℕ) → length nodes ≤ map_size → ((i : ℕ) → i < length places → Fits (length nodes) places i)
    → within_map nodes (list_of places) ≡ true
unfolding within_map named_places
within nodes places few fit = both_hold (lt-ltb 0 _ (pow_pos (length nodes))) (fit_named (length nodes) places few fit)

-- and fits
places_fits : (n allowed : ℕ) (nodes places : List ℕ) → length nodes ≤ map_size → 1 ≤ length places → length places ≤ places_per_job
    → ((i : ℕ) → i < length places → Fits (length nodes) places i) → install_fits n nodes allowed (list_of places) ≡ true
unfolding install_fits policy_fits row_of turned
places_fits n allowed nodes places few some most fit =
    let inside = within nodes places few fit in
    let long = length-map places (system_node nodes) in
    let ps = map (system_node nodes) places in
    both_hold inside
    (both_hold (turned_empty nodes (list_of places) inside) (both_hold (le-leb 1 (length ps) (omega arith)) (le-leb (length ps) places_per_job (omega arith))))

-- a call that writes places leaves ones that can be installed: 4 and 7 are left, by the job's own record
module _ (n : ℕ) (t : Tables) (table note : List ℕ) (j which : ℕ) (out : List ℕ) (k : ℕ)
    (e : (note_places n t.records t.maps table note j which out).answer ≡ accept k) where
  -- the places written
  abbrev placed : List ℕ
  placed = take k (note_places n t.records t.maps table note j which out).output

  placed_long : length placed ≡ k
  unfolding note_places
  placed_long = let w = wrote_places n t.records t.maps table note j which out k e in ap length w.front ∙ sym w.size

  pub places_installed : 1 ≤ k → well_formed n (record_at t.records j) ≡ true → not (is_empty (record_at t.records j).allowed) ≡ true
      → install_decision n t j (list_of placed) ≡ accept (storing j (installed (record_at t.records j) (turned (map_of t j) (list_of placed))))
  unfolding install_decision places_decision is_mapped map_of policy_known is_known flag_known flag_fits row_of
  places_installed some formed allowed =
      let w = wrote_places n t.records t.maps table note j which out k e in
      let d1 = passed (mapped_tables_ok n (length t.records) (length t.maps) && table_ok n table) 1 _ w.tests in
      let d2 = passed (is_job t.records j) 2 _ d1.1 in
      let d3 = passed (good_map n (map_bytes t.maps j)) 15 _ d2.1 in
      let f = written_fit n t.records t.maps table note j which out k e in
      let long = placed_long in
      let few = (map_nodes n (map_bytes t.maps j) d3.0).few in
      let nodes = nodes_in (map_bytes t.maps j) in
      let fits =
      places_fits n (record_at t.records j).allowed nodes placed few (omega (arith, long)) (omega (arith, long, f.0)) (λ i l. f.1 i (omega (arith, long)))
      in
      rw (
        (both_true {a = mapped_tables_ok n (length t.records) (length t.maps)} {b = table_ok n table} d1.0).0,
        d2.0,
        d3.0,
        formed,
        allowed,
        fits,
      )
