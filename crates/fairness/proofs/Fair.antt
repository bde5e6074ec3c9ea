-- Demand 3, proved: the grants of a ring or interleave job walk round its places or effective nodes, so each gets its turns.
-- Assumes nothing.
use Prim.Native.Nat.{ℕ, zero, suc, ◌+◌, ◌*◌, ◌%◌, ◌≤◌, ◌<◌}
use mathlib.Core.Path.{◌≡◌, refl, sym, ap, ◌∙◌}
use mathlib.Core.Bool.{Bool, true, false, cond, false≢true}
use mathlib.Core.Option.{some}
use mathlib.Core.List.{List, [], ◌∷◌}
use native.Mathlib.Nat.{mod-lt, mul-one}
use native.Mathlib.Omega.{arith}
use borrow.Author.Tests.{eqb-true, eq-eqb}
use lib.ListN.{length, drop}
use lib.Dec.{eqb}
use Rattle.rules.specs.Basics.{count, Each}
use Rattle.rules.specs.Machine.{Machine}
use Rattle.rules.specs.Masks.{most_nodes, bit, has, rank, size}
use Rattle.rules.specs.Records.{Record, Turn, last_is, with_turn}
use Rattle.rules.specs.SearchOrder.{Try, node_at}
use Rattle.rules.specs.Calls.{Tables}
use Rattle.rules.specs.Book.{Call}
use Rattle.rules.proofs.Masks.{in_false}
use Rattle.fairness.specs.Demand3.{record_in, Grant, grants, row, is_open, place_open, place_granted, node_granted, times_place, times_node}
use Rattle.fairness.specs.Demand3.{FairPlaces, FairNodes}
use Rattle.fairness.specs.Demand3.{Demand3}
use Rattle.fairness.proofs.Turns.{upto, hits, is, is_other, round, Under, upto_all, upto_is, round_once, Walk, at_least, exactly}
use Rattle.fairness.proofs.Search.{first_around, RingGrant, ring_grant, InterleaveGrant, interleave_grant}
use Rattle.fairness.proofs.Kept.{ServedFirst, Linked, linked, linked_drop, linked_take}

hits_all : (ps : List ℕ) → hits (λ _. 1) ps ≡ length ps
unfolding hits
hits_all [] = refl
hits_all (p ∷ ps) = omega (arith, hits_all ps)

not_both : {b : Bool} → b ≡ true → b ≡ false → ⊥
not_both t f = false≢true (sym f ∙ t)

-- ---- ring

-- the search of one grant of a ring job whose record is P but for the turn c
ring_served : (m : Machine) (j : ℕ) (P : Record) (c : Turn) (g : Grant) (s : Try) → P.mode ≡ 5 → record_in g.before j ≡ with_turn P c
    → ServedFirst m j g s → RingGrant m g.before j s
unfolding with_turn
ring_served m j P c g s five e v =
    ring_grant m g.before j v.served.cpu s v.served.well_formed_lem (ap (λ (x : Record). x.mode) e ∙ five) v.with_room

-- the places granted to a ring job: a walk round its places that passes over no place where h is not 0
record Places (m : Machine) (j : ℕ) (P : Record) (h : ℕ → ℕ) (c : Turn) (gs : List Grant) : Type 0 where
  places : List ℕ
  walks : Walk P.len h c.cursor places
  as_many : length places ≡ length gs
  counts : (q : ℕ) → times_place m j q gs ≡ hits (is q) places

-- the places that are not open before a grant are no hits of h
Missed : Machine → ℕ → Record → (ℕ → ℕ) → Grant → Type 0
Missed m j P h g = (i : ℕ) → i < P.len → place_open m g.before j i ≡ false → h i ≡ 0

ring_places_lem : (m : Machine) (j : ℕ) (P : Record) (h : ℕ → ℕ) (c : Turn) (gs : List Grant) → P.mode ≡ 5 → Linked m j P c gs → Each (Missed m j P h) gs
    → Places m j P h c gs
unfolding Linked Each Missed Walk count hits place_granted with_turn
ring_places_lem m j P h c [] five l o = record { places = []; walks = tt; as_many = refl; counts = λ q. refl }
ring_places_lem m j P h c (g ∷ gs) five l o =
    let r = ring_served m j P c g l.1 five l.0 l.2 in
    let turn : place_granted m j g ≡ some r.place = r.by_turn in
    let f = first_around (place_open m g.before j) P.len c.cursor P.len r.place (rw l.0 at turn) in
    let rest = ring_places_lem m j P h (last_is r.place) gs five (rw r.moves at l.3) o.1 in
    record {
      places = r.place ∷ rest.places;
      walks = (f.past, f.here, λ e lt. o.0 ((c.cursor + e) % P.len) (mod-lt (c.cursor + e) (omega (arith, f.short))) (f.failed e lt), rest.walks);
      as_many = ap suc rest.as_many;
      counts = λ q. rw turn (omega (arith, rest.counts q));
    }

-- a place open before each grant is missed by none
open_missed : (m : Machine) (j : ℕ) (P : Record) (p : ℕ) (gs : List Grant) → Each (λ g. place_open m g.before j p ≡ true) gs → Each (Missed m j P (is p)) gs
unfolding Each Missed
open_missed m j P p [] o = tt
open_missed m j P p (g ∷ gs) o =
    (λ i small shut. is_other p i (λ e. not_both o.0 (ap (place_open m g.before j) (sym e) ∙ shut)), open_missed m j P p gs o.1)

-- and where all are open, none is missed
all_missed : (m : Machine) (j : ℕ) (P : Record) (gs : List Grant) → Each (λ g. (q : ℕ) → q < P.len → place_open m g.before j q ≡ true) gs
    → Each (Missed m j P (λ _. 1)) gs
unfolding Each Missed
all_missed m j P [] o = tt
all_missed m j P (g ∷ gs) o = (λ i small shut. absurd (not_both (o.0 i small) shut), all_missed m j P gs o.1)

-- once round, a place comes once
place_once : (L p : ℕ) → p < L → upto (round L (is p)) L ≡ 1
place_once L p l = round_once L (is p) ∙ upto_is p L l

ring_fair : (m : Machine) (j : ℕ) (P : Record) → P.mode ≡ 5 → (c : Turn) (gs : List Grant) → Linked m j P c gs → (k : ℕ) → length gs ≡ k * P.len
    → FairPlaces m j P.len k gs
unfolding Under
ring_fair m j P five c gs l k long = record {
  at_least = λ p small o.
      let r = ring_places_lem m j P (is p) c gs five l (open_missed m j P p gs o) in
      omega (
        arith,
        at_least P.len (is p) c.cursor r.places r.walks k (r.as_many ∙ long),
        r.counts p,
        ap (λ (x : ℕ). k * x) (place_once P.len p small),
        mul-one k,
      );
  exactly = λ o p small.
      let r = ring_places_lem m j P (λ _. 1) c gs five l (all_missed m j P gs o) in
      let once : upto (round P.len (λ _. 1)) P.len ≡ P.len = upto_all P.len in
      r.counts p
      ∙ exactly P.len (is p) (λ _. 1) (λ i z. absurd (omega arith)) c.cursor r.places r.walks (hits_all r.places) k
      (r.as_many ∙ long ∙ ap (λ (x : ℕ). k * x) (sym once))
      ∙ ap (λ (x : ℕ). k * x) (place_once P.len p small)
      ∙ mul-one k;
}

ring_pages : (m : Machine) (j : ℕ) (P : Record) (c : Turn) (gs : List Grant) → P.mode ≡ 5 → Linked m j P c gs
    → Each (λ g. (p : ℕ) × (place_granted m j g ≡ some p) × (node_granted m g ≡ node_at (record_in g.before j) p)) gs
unfolding Linked Each place_granted
ring_pages m j P c [] five l = tt
ring_pages m j P c (g ∷ gs) five l =
    let r = ring_served m j P c g l.1 five l.0 l.2 in
    ((r.place, r.by_turn, l.2.served.in_node ∙ r.serves), ring_pages m j P l.1.turn gs five l.3)

-- ---- interleave

upto_rank : (e n : ℕ) → upto (bit e) n ≡ rank e n
unfolding upto rank
upto_rank e zero = refl
upto_rank e (suc n) = omega (arith, upto_rank e n)

-- the targets of the grants: each grant's page is in its target where that is open
Aimed : Machine → ℕ → List Grant → List ℕ → Type 0
Aimed m j [] [] = Unit {0}
Aimed m j [] (p ∷ ps) = ⊥
Aimed m j (g ∷ gs) [] = ⊥
Aimed m j (g ∷ gs) (p ∷ ps) = (is_open m g.before j p ≡ true → node_granted m g ≡ p) × Aimed m j gs ps

-- the targets of an interleave job: a walk round all nodes that stops at each effective one
record Targets (m : Machine) (j : ℕ) (P : Record) (c : Turn) (gs : List Grant) : Type 0 where
  targets : List ℕ
  walks : Walk most_nodes (bit P.effective) c.cursor targets
  as_many : length targets ≡ length gs
  effective : Each (λ p. (p < most_nodes) × (has P.effective p ≡ true)) targets
  aimed : Aimed m j gs targets

-- the search of one grant of an interleave job whose record is P but for the turn c
interleave_served : (m : Machine) (j : ℕ) (P : Record) (c : Turn) (q : ℕ) (g : Grant) (s : Try) → P.mode ≡ 3 → has P.effective q ≡ true
    → record_in g.before j ≡ with_turn P c → ServedFirst m j g s → InterleaveGrant m g.before j s
unfolding with_turn
interleave_served m j P c q g s three h e v =
    interleave_grant m g.before j v.served.cpu q s (ap (λ (x : Record). x.mode) e ∙ three) (ap (λ (x : Record). has x.effective q) e ∙ h)
    v.with_room

interleave_targets : (m : Machine) (j : ℕ) (P : Record) (c : Turn) (q : ℕ) (gs : List Grant) → P.mode ≡ 3 → has P.effective q ≡ true → Linked m j P c gs
    → Targets m j P c gs
unfolding Linked Each Walk Aimed with_turn
interleave_targets m j P c q [] three h l = record { targets = []; walks = tt; as_many = refl; effective = tt; aimed = tt }
interleave_targets m j P c q (g ∷ gs) three h l =
    let v = l.2 in
    let r = interleave_served m j P c q g l.1 three h l.0 v in
    let f = first_around (has P.effective) most_nodes c.cursor most_nodes r.goal (rw l.0 at r.by_turn) in
    let rest = interleave_targets m j P (last_is r.goal) q gs three h (rw r.moves at l.3) in
    record {
      targets = r.goal ∷ rest.targets;
      walks = (f.past, f.here, λ e lt. in_false P.effective ((c.cursor + e) % most_nodes) refl (f.failed e lt), rest.walks);
      as_many = ap suc rest.as_many;
      effective = ((rw f.here (mod-lt (c.cursor + f.past) (omega arith)), f.passes), rest.effective);
      aimed = (λ o. v.served.in_node ∙ r.serves o, rest.aimed);
    }

-- every target is effective
all_hit : (e : ℕ) (ps : List ℕ) → Each (λ p. (p < most_nodes) × (has e p ≡ true)) ps → hits (bit e) ps ≡ length ps
unfolding Each hits
all_hit e [] f = refl
all_hit e (p ∷ ps) f = omega (arith, eqb-true (bit e p) 1 f.0.1, all_hit e ps f.1)

module _ (m : Machine) (j : ℕ) (P : Record) (n : ℕ) where
  -- a target that is open before each grant is served each time
  aimed_least : (gs : List Grant) (ps : List ℕ) → Aimed m j gs ps → Each (λ g. is_open m g.before j n ≡ true) gs → hits (is n) ps ≤ times_node m n gs
  unfolding Aimed Each hits count
  aimed_least [] [] a o = omega arith
  aimed_least [] (p ∷ ps) a o = absurd a
  aimed_least (g ∷ gs) [] a o = absurd a
  aimed_least (g ∷ gs) (p ∷ ps) a o = go (eqb p n) refl (aimed_least gs ps a.1 o.1)
    where
      go : (b : Bool) → eqb p n ≡ b → hits (is n) ps ≤ times_node m n gs
          → cond b 1 0 + hits (is n) ps ≤ cond (eqb (node_granted m g) n) 1 0 + times_node m n gs
      go true e ih =
          let q : p ≡ n = eqb-true p n e in
          let s : node_granted m g ≡ n = a.0 (rw q o.0) ∙ q in
          rw (eq-eqb (node_granted m g) n s) (omega arith)
      go false e ih = omega arith

  -- and where all are, each grant's page is in its target
  aimed_exact : (gs : List Grant) (ps : List ℕ) → Aimed m j gs ps → Each (λ p. (p < most_nodes) × (has P.effective p ≡ true)) ps
      → Each (λ g. (q : ℕ) → q < most_nodes → has P.effective q ≡ true → is_open m g.before j q ≡ true) gs → times_node m n gs ≡ hits (is n) ps
  unfolding Aimed Each hits count
  aimed_exact [] [] a f o = refl
  aimed_exact [] (p ∷ ps) a f o = absurd a
  aimed_exact (g ∷ gs) [] a f o = absurd a
  aimed_exact (g ∷ gs) (p ∷ ps) a f o =
      let s : node_granted m g ≡ p = a.0 (o.0 p f.0.0 f.0.1) in
      rw s (omega (arith, aimed_exact gs ps a.1 f.1 o.1))

  -- a walk over the effective nodes comes to each as often
  each_turn : n < most_nodes → has P.effective n ≡ true → (c : Turn) (gs : List Grant) (k : ℕ) → length gs ≡ k * size most_nodes P.effective
      → (r : Targets m j P c gs) → hits (is n) r.targets ≡ k
  unfolding Under
  each_turn small h c gs k long r =
      exactly most_nodes (is n) (bit P.effective) under c.cursor r.targets r.walks (all_hit P.effective r.targets r.effective) k
      (r.as_many ∙ long ∙ ap (λ (x : ℕ). k * x) (sym (round_once most_nodes (bit P.effective) ∙ upto_rank P.effective most_nodes)))
      ∙ ap (λ (x : ℕ). k * x) (place_once most_nodes n small)
      ∙ mul-one k
    where
      under : (i : ℕ) → bit P.effective i ≡ 0 → is n i ≡ 0
      under i z = is_other n i (λ e. let o : bit P.effective n ≡ 1 = eqb-true (bit P.effective n) 1 h in omega (arith, ap (bit P.effective) e))

interleave_fair : (m : Machine) (j : ℕ) (P : Record) → P.mode ≡ 3 → (c : Turn) (gs : List Grant) → Linked m j P c gs → (k : ℕ)
    → length gs ≡ k * size most_nodes P.effective → FairNodes m j P.effective k gs
interleave_fair m j P three c gs l k long = record {
  at_least = λ n small h o.
      let r = interleave_targets m j P c n gs three h l in
      omega (arith, each_turn m j P n small h c gs k long r, aimed_least m j P n gs r.targets r.aimed o);
  exactly = λ o n small h.
      let r = interleave_targets m j P c n gs three h l in
      aimed_exact m j P n gs r.targets r.aimed r.effective o ∙ each_turn m j P n small h c gs k long r;
}

-- ---- the demand

-- Demand 3 holds of every list of calls, from any tables whose counts match.
pub demand3 : (m : Machine) (t : Tables) (cs : List Call) → Demand3 m t cs
demand3 m t cs a j u = record {
  ring = λ five k s long. let c = in_row s (k * (record_in t j).len) in ring_fair m j (record_in t j) five c.0 _ c.1 k long;
  interleave = λ three k s long.
      let c = in_row s (k * size most_nodes (record_in t j).effective) in
      interleave_fair m j (record_in t j) three c.0 _ c.1 k long;
  ring_page = λ five. ring_pages m j (record_in t j) (record_in t j).turn (grants m j t cs) five (linked m j t cs a u);
}
  where
    in_row : (s n : ℕ) → (c : Turn) × Linked m j (record_in t j) c (row m j t cs s n)
    in_row s n =
        let d = linked_drop m j (record_in t j) (record_in t j).turn (grants m j t cs) s (linked m j t cs a u) in
        (d.0, linked_take m j (record_in t j) d.0 (drop s (grants m j t cs)) n d.1)
