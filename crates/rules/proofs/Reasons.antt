-- The reasons of request M-106 are true of document 01's order.
-- Assumes nothing.
use Prim.Native.Nat.{ℕ, ◌+◌, ◌^◌, ◌≤◌, ◌<◌}
use mathlib.Core.Path.{◌≡◌, refl, sym, ap, ◌∙◌}
use mathlib.Core.Logic.{◌↔◌}
use mathlib.Core.Bool.{Bool, true, false, not, true≢false, false≢true}
use mathlib.Core.List.{List, [], ◌∷◌}
use mathlib.Core.Option.{Option, none, some}
use native.Mathlib.Decide.{dec_le}
use native.Mathlib.Omega.{arith}
use borrow.Author.Tests.{eqb-true, eq-eqb, le-leb, not-true, not-false}
use lib.Dec.{leb, eqb}
use lib.ListN.{get_or, take}
use Rattle.rules.specs.Basics.{all, Each}
use Rattle.rules.specs.Machine.{Machine, node_count, node_of_cpu, distance}
use Rattle.rules.specs.Masks.{most_nodes, has}
use Rattle.rules.specs.Records.{Record, Turn, bind, record_at, places_of, closes}
use Rattle.rules.specs.SearchOrder.{Try, Plan, nearest, placed, closed, node_at, mode_in_force, counted, chosen}
use Rattle.rules.specs.Calls.{Tables, limit_of, order_of}
use Rattle.rules.specs.Reasons.{outside_bind, is_far, unreachable, names, unnamed, is_chosen, reason_in, plan_for, reason_of}
use Rattle.rules.proofs.Lists.{both_true, both_hold, fails, true_any, first_keep, first_member}
use Rattle.rules.proofs.Admission.{Passes}
use Rattle.rules.proofs.InOrder.{machine_ok_lem}
use Rattle.rules.proofs.Machine.{InOrder, in_order as machine-in-order}
use Rattle.rules.proofs.Records.{record_storable}
use Rattle.rules.proofs.WellFormed.{formed}
use Rattle.rules.proofs.ReasonsOf.{first_fit, fits_at, fits_from, fits_past, bind_outside, planned_names}
use Rattle.rules.proofs.ReasonsPlan.{ByPlaces, listed_reached, listed_unnamed, by_places_lem, by_near}

-- ---- which nodes are in the order

module _ (m : Machine) (t : Tables) (j k : ℕ) where
  -- the record that the request goes by
  abbrev own : Record
  own = record_at t.records j

  -- the tests of node n's reason, in their order
  abbrev tests : ℕ → List Bool
  tests n =
      not (has (limit_of t j) n)
      ∷ outside_bind (mode_in_force own) own.effective n
      ∷ unreachable (node_count m) m.distances (plan_for m t j k) n
      ∷ unnamed (node_count m) m.distances (plan_for m t j k) n
      ∷ not (counted t.free n)
      ∷ is_chosen (chosen t.free (order_of m t j k)) n
      ∷ []

  -- the reason is the first of them that fits
  by_tests : (n : ℕ) → reason_of m t j k n ≡ first_fit 1 (tests n)
  unfolding reason_of reason_in order_of
  by_tests n = refl

  -- what each reason says of the tests
  reads : (i n : ℕ) → i ≤ 6 → (reason_of m t j k n ≡ 1 + i) ↔ (Each (λ b. b ≡ false) (take i (tests n)) × (get_or (tests n) i true ≡ true))
  reads i n l = rw (by_tests n) (fits_at 1 i (tests n) l)

  -- the machine of a request that passes its tests is in order
  in_order_machine : Passes m t j k → InOrder m
  in_order_machine p = machine-in-order m (machine_ok_lem m t p.tables_ok)

  -- a node is in the order exactly if none of the first four tests holds
  passes_names : Passes m t j k → (n : ℕ) → n < node_count m → names (order_of m t j k) n ≡ all not (take 4 (tests n))
  unfolding order_of
  passes_names p n l = planned_names (node_count m) m.distances (in_order_machine p).distances (limit_of t j) own (node_of_cpu m.cpu_nodes k) n l

  -- a node with reason 5, 6 or 7 is in the order; one with 1, 2, 3 or 4 is not
  pub in_order : Passes m t j k → (n : ℕ) → n < node_count m → leb 5 (reason_of m t j k n) ≡ names (order_of m t j k) n
  in_order p n l = ap (leb 5) (by_tests n) ∙ fits_from 1 4 (tests n) (omega arith) ∙ sym (passes_names p n l)

  -- ---- a law for each reason

  -- "1 not allowed": not allowed, or outside the map
  pub reason_1 : (n : ℕ) → (reason_of m t j k n ≡ 1) ↔ (has (limit_of t j) n ≡ false)
  unfolding Each
  reason_1 n =
      let f = reads 0 n (omega arith) in
      (λ e. not-true _ (f.0 e).1, λ h. f.1 (tt, ap not h))

  -- "2 outside a bind set in force": allowed, mode 2 is in force, and the node is not effective
  pub record OutsideBind (n : ℕ) : Type 0 where
    pub allowed : has (limit_of t j) n ≡ true
    pub in_force : mode_in_force own ≡ bind
    pub outside : has own.effective n ≡ false

  pub reason_2 : (n : ℕ) → (reason_of m t j k n ≡ 2) ↔ OutsideBind n
  unfolding Each
  reason_2 n =
      let f = reads 1 n (omega arith) in
      let b = bind_outside (mode_in_force own) own.effective n in (
        λ e. let h = f.0 e in record { allowed = not-false _ h.0.0; in_force = (b.0 h.1).0; outside = (b.0 h.1).1 },
        λ h. f.1 ((ap not h.allowed, tt), b.1 (h.in_force, h.outside)),
      )

  -- a request of mode 4 to 6 searches by places
  own_places : Passes m t j k → 4 ≤ own.mode → ByPlaces (limit_of t j) own (node_of_cpu m.cpu_nodes k)
  own_places p l = by_places_lem (limit_of t j) own _ (node_count m) (formed (node_count m) own p.formed) (record_storable t.records j).sixteen l

  -- and no node is unreachable
  places_reached : (p : ByPlaces (limit_of t j) own (node_of_cpu m.cpu_nodes k)) (n : ℕ) → unreachable (node_count m) m.distances (plan_for m t j k) n ≡ false
  places_reached p n = rw p.searches (listed_reached (node_count m) m.distances p.closing p.tries _ own.turn n)

  -- and it is unnamed where no place names it, nor a closing 255 reaches it
  places_unnamed : (p : ByPlaces (limit_of t j) own (node_of_cpu m.cpu_nodes k)) (n : ℕ)
      → (unnamed (node_count m) m.distances (plan_for m t j k) n ≡ true)
      ↔ ((names p.tries n ≡ false) × (p.closing ≡ true → distance (node_count m) m.distances (node_of_cpu m.cpu_nodes k) n ≡ 255))
  places_unnamed p n = rw p.searches (listed_unnamed (node_count m) m.distances p.closing p.tries _ own.turn n)

  -- "3 unreachable, in modes other than 4 to 6": from the x of the near(x) by which the request searches
  pub record Unreachable (n : ℕ) : Type 0 where
    pub allowed : has (limit_of t j) n ≡ true
    pub within : OutsideBind n → ⊥
    pub by_near : own.mode < 4
    pub set : ℕ
    pub x : ℕ
    pub turn : Turn
    pub searches : plan_for m t j k ≡ nearest set x turn
    pub far : distance (node_count m) m.distances x n ≡ 255

  pub reason_3 : Passes m t j k → (n : ℕ) → (reason_of m t j k n ≡ 3) ↔ Unreachable n
  unfolding Each unreachable is_far
  reason_3 p n =
      let f = reads 2 n (omega arith) in
      let b = bind_outside (mode_in_force own) own.effective n in (
        λ e. let h = f.0 e in there (not-false _ h.0.0) (λ o. true≢false (sym (b.1 (o.in_force, o.outside)) ∙ h.0.1.0)) (plan_for m t j k) refl h.1,
        λ h. f.1 (
          (ap not h.allowed, (fails (λ e. h.within (record { allowed = h.allowed; in_force = (b.0 e).0; outside = (b.0 e).1 })), tt)),
          rw h.searches (eq-eqb _ 255 h.far),
        ),
      )
    where
      near_mode : unreachable (node_count m) m.distances (plan_for m t j k) n ≡ true → Dec (4 ≤ own.mode) → own.mode < 4
      near_mode e (yes l) = absurd (true≢false (sym e ∙ places_reached (own_places p l) n))
      near_mode e (no l) = omega arith

      there : has (limit_of t j) n ≡ true → (OutsideBind n → ⊥) → (q : Plan) → plan_for m t j k ≡ q
          → unreachable (node_count m) m.distances q n ≡ true → Unreachable n
      there a w (nearest set x turn) s e = record {
        allowed = a;
        within = w;
        by_near = near_mode (rw s e) (dec_le 4 own.mode);
        set = set;
        x = x;
        turn = turn;
        searches = s;
        far = eqb-true _ 255 e;
      }
      there a w (placed ts) s e = absurd (false≢true e)
      there a w (closed ts x turn) s e = absurd (false≢true e)

  -- "4 named by no place, in modes 4 to 6 (under a closing 255: nor reachable)"
  pub record Unnamed (n : ℕ) : Type 0 where
    pub allowed : has (limit_of t j) n ≡ true
    pub by_places : 4 ≤ own.mode
    pub no_place : (p : ℕ) → p < own.len → node_at own p ≡ n → ⊥
    pub far : own.mode ≡ 4 → closes (places_of own) ≡ true → distance (node_count m) m.distances (node_of_cpu m.cpu_nodes k) n ≡ 255

  -- The words of a job table have 64 bits: for a user mask of more than that a record of mode 3 might be well formed and have no target.
  pub reason_4 : Passes m t j k → own.user < 2 ^ most_nodes → (n : ℕ) → (reason_of m t j k n ≡ 4) ↔ Unnamed n
  unfolding Each unnamed
  reason_4 p word n =
      let f = reads 3 n (omega arith) in
      (λ e. let h = f.0 e in there (not-false _ h.0.0) h.1 (dec_le 4 own.mode), λ h. f.1 (back h (own_places p h.by_places)))
    where
      nodes_few : node_count m ≤ most_nodes
      nodes_few = (in_order_machine p).counts.nodes_most

      there : has (limit_of t j) n ≡ true → unnamed (node_count m) m.distances (plan_for m t j k) n ≡ true → Dec (4 ≤ own.mode) → Unnamed n
      there a e (no l) =
          let q = by_near (limit_of t j) own (node_of_cpu m.cpu_nodes k) (node_count m) nodes_few p.formed word (omega arith) in
          absurd (false≢true (rw q.3 at e))
      there a e (yes l) =
          let q = own_places p l in
          let u = (places_unnamed q n).0 e in
          record {
            allowed = a;
            by_places = l;
            no_place = λ i s z. true≢false (sym ((q.named n).1 (i, s, z)) ∙ u.0);
            far = λ four c. u.1 (q.closes_if ∙ both_hold (eq-eqb _ 4 four) c);
          }

      back : Unnamed n → ByPlaces (limit_of t j) own (node_of_cpu m.cpu_nodes k) → Each (λ b. b ≡ false) (take 3 (tests n)) × (get_or (tests n) 3 true ≡ true)
      back h q =
          let unbound = fails (λ e. q.not_bind ((bind_outside (mode_in_force own) own.effective n).0 e).0) in
          let unnamed-there = fails (λ e. let i = (q.named n).0 e in h.no_place i.0 i.1 i.2) in (
            (ap not h.allowed, (unbound, (places_reached q n, tt))),
            (places_unnamed q n).1 (
              unnamed-there,
              λ c. let d = both_true {a = eqb own.mode 4} (sym q.closes_if ∙ c) in h.far (eqb-true _ 4 d.0) d.1,
            ),
          )

  -- "full", "chosen", "had room but came later": the tests of a node that is in the order
  abbrev late_tests : ℕ → List Bool
  late_tests n = not (counted t.free n) ∷ is_chosen (chosen t.free (order_of m t j k)) n ∷ []

  module _ (p : Passes m t j k) (n : ℕ) (l : n < node_count m) where
    -- its reason is the first of these that fits, from 5 on
    by_late_tests : names (order_of m t j k) n ≡ true → reason_of m t j k n ≡ first_fit 5 (late_tests n)
    by_late_tests e = by_tests n ∙ fits_past 1 4 (tests n) (omega arith) (sym (passes_names p n l) ∙ e)

    -- what the reasons 5, 6 and 7 say of them
    reads_late : (i : ℕ) → i ≤ 2 → (reason_of m t j k n ≡ 5 + i)
        ↔ ((names (order_of m t j k) n ≡ true) × Each (λ b. b ≡ false) (take i (late_tests n)) × (get_or (late_tests n) i true ≡ true))
    reads_late i few = (
      λ e. let o = sym (in_order p n l) ∙ ap (leb 5) e ∙ le-leb 5 (5 + i) (omega arith) in
          let h = (fits_at 5 i (late_tests n) few).0 (sym (by_late_tests o) ∙ e) in
          (o, h.0, h.1),
      λ h. by_late_tests h.0 ∙ (fits_at 5 i (late_tests n) few).1 (h.1, h.2),
    )

  -- the node that is chosen is that of a try of the order, and counted above 0
  chosen_named : {s : Try} → chosen t.free (order_of m t j k) ≡ some s → {n : ℕ} → s.node ≡ n
      → (names (order_of m t j k) n ≡ true) × (counted t.free n ≡ true)
  unfolding chosen names
  chosen_named {s} e q =
      let f = first_keep (λ s. counted t.free s.node) (order_of m t j k) e in
      (true_any _ (first_member f) (eq-eqb s.node _ q), ap (counted t.free) (sym q) ∙ f.passes)

  -- the test of the chosen node
  is_chosen_lem : (o : Option Try) (n : ℕ) → (is_chosen o n ≡ true) ↔ ((s : Try) × (o ≡ some s) × (s.node ≡ n))
  unfolding is_chosen
  is_chosen_lem none n = (λ e. absurd (false≢true e), λ h. absurd (let e = h.1 in let z : ◌≡◌ {A = ℕ} 0 1 = cc in omega arith))
  is_chosen_lem (some s) n = (λ e. (s, refl, eqb-true s.node n e), λ h. let q : s ≡ h.0 = cc h.1 in rw q (eq-eqb _ n h.2))

  -- a node with reason 6 is the chosen one, whatever was tested before
  pub six_chosen : (n : ℕ) → reason_of m t j k n ≡ 6 → (s : Try) × (chosen t.free (order_of m t j k) ≡ some s) × (s.node ≡ n)
  six_chosen n e = (is_chosen_lem (chosen t.free (order_of m t j k)) n).0 ((reads 5 n (omega arith)).0 e).1

  -- "5 full", "6 chosen", "7 had room but came later", by whatever counts there are
  pub reason_5 : Passes m t j k → (n : ℕ) → n < node_count m
      → (reason_of m t j k n ≡ 5) ↔ ((names (order_of m t j k) n ≡ true) × (counted t.free n ≡ false))
  unfolding Each
  reason_5 p n l =
      let f = reads_late p n l 0 (omega arith) in
      (λ e. let h = f.0 e in (h.0, not-true _ h.2), λ h. f.1 (h.0, tt, ap not h.1))

  pub reason_6 : Passes m t j k → (n : ℕ) → n < node_count m
      → (reason_of m t j k n ≡ 6) ↔ ((s : Try) × (chosen t.free (order_of m t j k) ≡ some s) × (s.node ≡ n))
  unfolding Each
  reason_6 p n l = (
    six_chosen n,
    λ h. let c = chosen_named h.1 h.2 in
        (reads_late p n l 1 (omega arith)).1 (c.0, (ap not c.1, tt), (is_chosen_lem (chosen t.free (order_of m t j k)) n).1 h),
  )

  pub reason_7 : Passes m t j k → (n : ℕ) → n < node_count m
      → (reason_of m t j k n ≡ 7)
      ↔ ((names (order_of m t j k) n ≡ true) × (counted t.free n ≡ true) × (is_chosen (chosen t.free (order_of m t j k)) n ≡ false))
  unfolding Each
  reason_7 p n l =
      let f = reads_late p n l 2 (omega arith) in
      (λ e. let h = f.0 e in (h.0, not-false _ h.1.0, h.1.1.0), λ h. f.1 (h.0, (ap not h.1, (h.2, tt)), refl))
