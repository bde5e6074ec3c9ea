-- M-104: what a closing 255 changes of the search order and of a stored record, and that nothing else changes.
-- Assumes nothing.
use Prim.Native.Nat.{ℕ, ◌≤◌}
use mathlib.Core.Path.{◌≡◌, refl, sym, ap, ◌∙◌}
use mathlib.Core.Bool.{Bool, true, false, ◌&&◌, ◌||◌, cond}
use mathlib.Core.List.{List, [], ◌∷◌, ◌++◌, map}
use native.Mathlib.Omega.{arith}
use borrow.Author.Tests.{eqb-true, ne_eqb, le-ltb, ltb-true}
use lib.Dec.{ltb, eqb}
use lib.ListN.{length, replicate, get_or-eq_default}
use lib.Seq.{take-take, take-append_seam}
use Rattle.rules.specs.Basics.{all, keep, last_or, but_last}
use Rattle.rules.specs.Masks.{most_nodes, has, below}
use Rattle.rules.specs.Records.{Record, Mode, default, preferred, bind, interleave, list, ring, early, unknownMode, Turn, Policy}
use Rattle.rules.specs.Records.{places_per_job, places_of, closing_place, closes, carries, mode_of, record_at, installed}
use Rattle.rules.specs.Maps.{map_size, no_node, map_bytes, system_node, named_places, within_map, turned}
use Rattle.rules.specs.SearchOrder.{Try, try, near, listed, plan_in, plan, mode_in_force, tried, order}
use Rattle.rules.specs.Calls.{Tables, map_of, is_mapped}
use Rattle.rules.specs.Unclosed.{plan_unclosed_in, plan_unclosed}
use Rattle.rules.proofs.Lists.{both_true}
use Rattle.rules.proofs.Calls.{InstallPasses}
use Rattle.rules.proofs.Kept.{install_fits_lem, mapped_nodes}
use Rattle.rules.proofs.Maps.{entry_below, map_nodes}
use Rattle.rules.proofs.WellFormed.{few_places}

-- ---- the search order

-- "elsewhere nothing changes": a mode 4 record without a closing 255, and every record of another mode, has the order that it had
pub order_as_it_was : (limit : ℕ) (r : Record) (x : ℕ) → (mode_in_force r ≡ list → closes (places_of r) ≡ false) → plan limit r x ≡ plan_unclosed limit r x
unfolding plan plan_unclosed plan_unclosed_in plan_in listed
order_as_it_was limit r x open-list = go (mode_in_force r) refl
  where
    go : (k : Mode) → mode_in_force r ≡ k → plan_in k limit r x ≡ plan_unclosed_in k limit r x
    go default e = refl
    go preferred e = refl
    go bind e = refl
    go interleave e = refl
    go list e = rw (open-list e) refl
    go ring e = refl
    go early e = refl
    go unknownMode e = refl

-- the last of some places, if it is a byte of n or more, is passed over
last_passed_over : (n limit : ℕ) (turn : Turn) (places : List ℕ) → n ≤ last_or places 0
    → tried n limit (map (try turn) places) ≡ tried n limit (map (try turn) (but_last places))
unfolding last_or but_last tried keep
last_passed_over n limit turn [] l = refl
last_passed_over n limit turn (a ∷ []) l = rw (le-ltb a n l) refl
last_passed_over n limit turn (a ∷ b ∷ rest) l =
    ap (λ (ts : List Try). cond (ltb a n && has limit a) (try turn a ∷ ts) ts) (last_passed_over n limit turn (b ∷ rest) l)

-- "a 255 in the last place of a mode 4 list stands .. for near(CPU's node) there": the places before it, and then near(x) over the nodes
-- that the job may get
pub closing_order : (n : ℕ) (distances : List ℕ) (limit : ℕ) (r : Record) (x : ℕ) → n ≤ closing_place → mode_in_force r ≡ list → closes (places_of r) ≡ true
    → order n distances limit (plan limit r x)
    ≡ tried n limit (map (try r.turn) (but_last (places_of r))) ++ map (try r.turn) (near n distances limit x)
unfolding plan plan_in listed order closes
closing_order n distances limit r x few mode closing =
    let last = eqb-true (last_or (places_of r) 0) closing_place closing in
    let passed_over = last_passed_over n limit r.turn (places_of r) (omega arith) in
    rw (mode, closing) (ap (λ (ts : List Try). ts ++ map (try r.turn) (near n distances limit x)) passed_over)

-- ---- the record that an install stores

-- the last of some places that are turned is the last of them, turned
last_turned : (f : ℕ → ℕ) (a : ℕ) (places : List ℕ) (d : ℕ) → last_or (map f (a ∷ places)) d ≡ f (last_or (a ∷ places) d)
unfolding last_or
last_turned f a [] d = refl
last_turned f a (b ∷ rest) d = last_turned f b rest d

-- what holds of all of them holds of the last
all_last : (p : ℕ → Bool) (a : ℕ) (places : List ℕ) (d : ℕ) → all p (a ∷ places) ≡ true → p (last_or (a ∷ places) d) ≡ true
unfolding last_or all
all_last p a [] d h = (both_true {a = p a} h).0
all_last p a (b ∷ rest) d h = all_last p b rest d (both_true {a = p a} h).1

-- a place that is turned by a map of few nodes is 255 exactly if it was: 255 itself is past the map's end, and a node is below 64
module _ (n : ℕ) (nodes : List ℕ) (few : n ≤ most_nodes) (short : length nodes ≤ map_size) (known : all (λ k. ltb k n) nodes ≡ true) where
  closes_turned : (p : Policy) → within_map nodes p ≡ true → closes (turned nodes p).places ≡ closes p.places
  unfolding within_map named_places turned closes
  closes_turned p inside = go p.places (eqb p.mode 4 && closes p.places) refl (both_true {a = masked} inside).1
    where
      masked : Bool
      masked = eqb p.flag 2 || below (length nodes) p.user

      go : (places : List ℕ) (b : Bool) → (eqb p.mode 4 && closes places) ≡ b → all (λ a. ltb a (length nodes)) (cond b (but_last places) places) ≡ true
          → closes (map (system_node nodes) places) ≡ closes places
      go [] b e h = refl
      go (a ∷ rest) true e h =
          let last = eqb-true (last_or (a ∷ rest) 0) closing_place (both_true {a = eqb p.mode 4} e).1 in
          let past = get_or-eq_default nodes no_node {n = closing_place} (omega arith) in
          ap (λ (k : ℕ). eqb k closing_place) (last_turned (system_node nodes) a rest 0 ∙ ap (system_node nodes) last ∙ past ∙ sym last)
      go (a ∷ rest) false e h =
          let low = ltb-true _ (length nodes) (all_last (λ k. ltb k (length nodes)) a rest 0 h) in
          let node = entry_below n nodes (last_or (a ∷ rest) 0) no_node known low in
          ap (λ (k : ℕ). eqb k closing_place) (last_turned (system_node nodes) a rest 0)
          ∙ ne_eqb (system_node nodes (last_or (a ∷ rest) 0)) closing_place (λ q. omega arith)
          ∙ sym (ne_eqb (last_or (a ∷ rest) 0) closing_place (λ q. omega arith))

-- "unmapped": the record that an install stores closes exactly if the list that it asks for does
pub install_closes : (n : ℕ) (t : Tables) (j : ℕ) (p : Policy) → InstallPasses n t j p
    → closes (places_of (installed (record_at t.records j) (turned (map_of t j) p))) ≡ closes p.places
unfolding places_of installed is_mapped map_of
install_closes n t j p h =
    let q = turned (map_of t j) p in
    let fits = install_fits_lem n t j p h in
    let few = few_places (carries (mode_of q.mode)) n (record_at t.records j).allowed q fits.1 in
    let good = map_nodes n (map_bytes t.maps j) h.mapped in
    let stored =
    take-take (length q.places) places_per_job (q.places ++ replicate places_per_job 0) few
    ∙ take-append_seam q.places (replicate places_per_job 0) in
    ap closes stored
    ∙ closes_turned n (map_of t j) (mapped_nodes n (length t.records) (length t.maps) h.tables_ok).1 good.few good.known p fits.0
