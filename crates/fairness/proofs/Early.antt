-- Request M-101, proved: after every list of requests and releases a job in mode 6 goes on from its last grant.
-- Assumes nothing.
use Prim.Native.Nat.{ℕ}
use mathlib.Core.Path.{◌≡◌, refl, sym, ap, ap₂, ◌∙◌}
use mathlib.Core.Logic.{◌≢◌}
use mathlib.Core.Bool.{true}
use mathlib.Core.Option.{Option, none, some}
use mathlib.Core.List.{List, [], ◌∷◌, ◌++◌}
use Rattle.rules.specs.Basics.{around, Each}
use Rattle.rules.specs.Machine.{Machine, node_count, node_of_cpu}
use Rattle.rules.specs.Records.{Record, Turn, last_is, row_of, mode_of, places_of, with_turn, well_formed}
use Rattle.rules.specs.SearchOrder.{Try, node_at, ring_places, place_tries, ring_tries, plan_in, mode_in_force, plan, tried, order, counted, chosen}
use Rattle.rules.specs.Masks.{both}
use Rattle.rules.specs.Maps.{set_of}
use Rattle.rules.specs.Calls.{Tables, map_of, limit_of, order_of}
use Rattle.rules.specs.Book.{Call, clear, step, final}
use Rattle.rules.specs.Ledger.{last_else}
use Rattle.rules.proofs.WellFormed.{formed, list_in_force}
use Rattle.fairness.specs.Demand3.{record_in, Grant, grant_in, grants, PolicyKept}
use Rattle.fairness.specs.Early.{place_serves, early_place, GoesOn, EarlyGoesOn}
use Rattle.fairness.proofs.Search.{place_grant}
use Rattle.fairness.proofs.Kept.{Served, Same, Effect, quiet, gave, cleared, effect}

-- ---- one search

-- the order goes by the job's record and map alone
order_by : Machine → ℕ → Record → List ℕ → List Try
order_by m k r nodes =
    let limit = both r.allowed (set_of nodes) in
    order (node_count m) m.distances limit (plan limit r (node_of_cpu m.cpu_nodes k))

same_order : (m : Machine) (t : Tables) (j k : ℕ) (r : Record) (nodes : List ℕ) → record_in t j ≡ r → map_of t j ≡ nodes
    → order_of m t j k ≡ order_by m k r nodes
unfolding order_by order_of limit_of
same_order m t j k r nodes e f = ap₂ (order_by m k) e f

-- "Early: place 0, then as ring": the order of a record in mode 6 with any turn
early_order : (m : Machine) (k : ℕ) (r : Record) (nodes : List ℕ) (turn : Turn) → well_formed (node_count m) r ≡ true → r.mode ≡ 6
    → order_by m k (with_turn r turn) nodes
    ≡ tried (node_count m) (both r.allowed (set_of nodes)) (place_tries r (0 ∷ around r.len turn.cursor r.len))
unfolding order_by order plan plan_in ring_tries node_at places_of mode_in_force with_turn row_of
early_order m k r nodes turn w six = rw (list_in_force (node_count m) r (formed (node_count m) r w) (rw six refl) ∙ ap mode_of six)

-- ---- a grant, and the calls after it

module _ (m : Machine) (j : ℕ) where
  -- right after the grant
  granted_goes_on : (g : Grant) (s : Try) (later : Tables) → (record_in g.before j).mode ≡ 6 → Served m j g s
      → record_in later j ≡ with_turn (record_in g.before j) s.turn → map_of later j ≡ map_of g.before j → GoesOn m j g later
  unfolding early_place place_serves chosen limit_of with_turn
  granted_goes_on g s later six v e f =
      let r = record_in g.before j in
      let nodes = map_of g.before j in
      let o = same_order m g.before j v.cpu r nodes refl refl ∙ early_order m v.cpu r nodes r.turn v.well_formed_lem six in
      let p = place_grant (node_count m) (limit_of g.before j) (counted g.before.free) r (0 ∷ ring_places r) s (rw o at v.chose) in
      let stored = e ∙ ap (with_turn r) p.moves in
      record {
        place = p.place;
        granted_at = p.by_turn;
        in_node = v.in_node ∙ p.serves;
        stored = stored;
        next_search = λ k. same_order m later j k _ nodes stored f ∙ early_order m k r nodes (last_is p.place) v.well_formed_lem six;
      }

  -- as long as the job's record and map stay
  goes_on_still : (g : Grant) (a b : Tables) → Same j a b → GoesOn m j g a → GoesOn m j g b
  goes_on_still g a b e h = record {
    place = h.place;
    granted_at = h.granted_at;
    in_node = h.in_node;
    stored = e.held ∙ h.stored;
    next_search = λ k. same_order m b j k _ _ e.held e.mapped ∙ sym (same_order m a j k _ _ refl refl) ∙ h.next_search k;
  }

  -- where the last grant o, if there was one, left the job in tables t
  Stopped : Option Grant → Tables → Type 0
  Stopped none t = Unit {0}
  Stopped (some g) t = GoesOn m j g t

  still : (o : Option Grant) (a b : Tables) → Same j a b → Stopped o a → Stopped o b
  unfolding Stopped
  still none a b e h = tt
  still (some g) a b e h = goes_on_still g a b e h

  -- along a list
  stopped : (t : Tables) (cs : List Call) (o : Option Grant) → PolicyKept m j t cs → Each (λ c. c ≢ clear j) cs → (record_in t j).mode ≡ 6 → Stopped o t
      → Stopped (last_else o (grants m j t cs)) (final m t cs)
  unfolding PolicyKept Each last_else grants final Stopped with_turn
  stopped t [] o u n six h = h
  stopped t (c ∷ cs) o u n six h = go (effect m j t c u.0) (λ o s. stopped next cs o u.1 n.1 s)
    where
      next : Tables
      next = (step m t c).tables

      go : Effect m j t c
          → ((o : Option Grant) → (record_in next j).mode ≡ 6 → Stopped o next → Stopped (last_else o (grants m j next cs)) (final m next cs))
          → Stopped (last_else o (grant_in m j t c ++ grants m j next cs)) (final m next cs)
      go (quiet e s) ih = rw e (ih o (ap (λ (r : Record). r.mode) s.held ∙ six) (still o t next s h))
      go (gave p s e v q f) ih =
          let g : Grant = record { before = t; page = p } in
          rw e (ih (some g) (ap (λ (r : Record). r.mode) q ∙ six) (granted_goes_on g s next six v q f))
      go (cleared q e z) ih = absurd (n.0 q)

-- M-101 holds of every list of calls that leaves the job's policy, from any tables.
pub early_goes_on : (m : Machine) (t : Tables) (cs : List Call) → EarlyGoesOn m t cs
unfolding Stopped
early_goes_on m t cs j u n six g e = rw e at (stopped m j t cs none u n six tt)
