-- What a grant says of the search: in ring mode the place is the first open one, in interleave mode the target is the next effective node.
-- Assumes nothing.
use Prim.Native.Nat.{ℕ, zero, suc, ◌+◌, ◌%◌, ◌<◌, zero-le}
use mathlib.Core.Path.{◌≡◌, refl, sym, ap, ◌∙◌}
use mathlib.Core.Bool.{Bool, true, false, ◌&&◌, cond, and-false}
use mathlib.Core.Option.{Option, none, some}
use mathlib.Core.List.{List, [], ◌∷◌, map}
use native.Mathlib.Nat.{add-zero, add-suc, suc-add, zero-lt-suc}
use native.Mathlib.Omega.{arith}
use borrow.Author.Tests.{eqb-true, ne_eqb}
use lib.Dec.{eqb, ltb}
use Rattle.rules.specs.Basics.{keep, first, around}
use Rattle.rules.specs.Machine.{Machine, node_count}
use Rattle.rules.specs.Masks.{most_nodes, bit, has, is_empty}
use Rattle.rules.specs.Records.{Record, Turn, last_is, interleave, row_of, mode_of, well_formed}
use Rattle.rules.specs.SearchOrder.{Try, try, near, tried, node_at, ring_places, place_tries, ring_tries, target, interleaved, plan_in, mode_in_force}
use Rattle.rules.specs.SearchOrder.{plan, order, has_room}
use Rattle.rules.specs.Calls.{Tables, limit_of, order_of}
use Rattle.rules.specs.FreeCounts.{first_with_room}
use Rattle.rules.proofs.Lists.{both_true, map_member, first_keep, first_member}
use Rattle.rules.proofs.Masks.{bit_above}
use Rattle.rules.proofs.Near.{near_order}
use Rattle.rules.proofs.WellFormed.{formed, list_in_force}
use Rattle.fairness.specs.Demand3.{record_in, is_open, place_open}

-- ---- the first that passes

-- p is the first position that passes, of k positions from c on, walking round n
pub record Passing (ok : ℕ → Bool) (n c k p : ℕ) : Type 0 where
  pub past : ℕ
  pub short : past < k
  pub here : p ≡ (c + past) % n
  pub passes : ok p ≡ true
  pub failed : (e : ℕ) → e < past → ok ((c + e) % n) ≡ false

pub first_around : (ok : ℕ → Bool) (n c k p : ℕ) → first (keep ok (around n c k)) ≡ some p → Passing ok n c k p
unfolding first keep around
first_around ok n c zero p e = absurd (let z : ◌≡◌ {A = ℕ} 0 1 = cc in omega arith)
first_around ok n c (suc k) p e = go (ok (c % n)) refl e (first_around ok n (suc c) k p)
  where
    later : (g : Passing ok n (suc c) k p) → ok (c % n) ≡ false → (e : ℕ) → e < suc g.past → ok ((c + e) % n) ≡ false
    later g q zero l = rw add-zero q
    later g q (suc e) l = rw (add-suc, ← suc-add) (g.failed e (omega arith))

    go : (b : Bool) → ok (c % n) ≡ b → first (cond b (c % n ∷ keep ok (around n (suc c) k)) (keep ok (around n (suc c) k))) ≡ some p
        → (first (keep ok (around n (suc c) k)) ≡ some p → Passing ok n (suc c) k p) → Passing ok n c (suc k) p
    go true q e ih =
        let r : p ≡ c % n = cc in
        record { past = 0; short = omega arith; here = rw add-zero r; passes = ap ok r ∙ q; failed = λ e l. absurd (omega arith) }
    go false q e ih =
        let g = ih e in
        record {
          past = suc g.past;
          short = omega (arith, g.short);
          here = rw (add-suc, ← suc-add) g.here;
          passes = g.passes;
          failed = later g q;
        }

-- the first of f p, for p of a list, that passes two tests one after the other
first_mapped : {A B : Type 0} (f : A → B) (r q : B → Bool) (ps : List A) (s : B) → first (keep q (keep r (map f ps))) ≡ some s
    → (p : A) × (first (keep (λ p. r (f p) && q (f p)) ps) ≡ some p) × (s ≡ f p)
unfolding first keep
first_mapped f r q [] s e = absurd (let z : ◌≡◌ {A = ℕ} 0 1 = cc in omega arith)
first_mapped {A} {B} f r q (x ∷ xs) s e = go (r (f x)) (q (f x)) refl e (first_mapped f r q xs s)
  where
    rest : List A
    rest = keep (λ p. r (f p) && q (f p)) xs

    kept : List B
    kept = keep q (keep r (map f xs))

    go : (a b : Bool) → q (f x) ≡ b → first (keep q (cond a (f x ∷ keep r (map f xs)) (keep r (map f xs)))) ≡ some s
        → (first kept ≡ some s → (p : A) × (first rest ≡ some p) × (s ≡ f p))
        → (p : A) × (first (cond (a && b) (x ∷ rest) rest) ≡ some p) × (s ≡ f p)
    go true true t e ih = (x, refl, cc (rw t at e))
    go true false t e ih = ih (rw t at e)
    go false b t e ih = ih e

-- ---- places

-- A grant by places: the place granted is the first of some that passes a test, and the cursor field becomes one more.
pub record PlaceGrant (ok : ℕ → Bool) (places : List ℕ) (r : Record) (s : Try) : Type 0 where
  pub place : ℕ
  pub by_turn : first (keep ok places) ≡ some place
  pub moves : s.turn ≡ last_is place
  pub serves : s.node ≡ node_at r place

-- the first try of some places whose node is one of n, in the limit, and passes a test
pub place_grant : (n limit : ℕ) (room : ℕ → Bool) (r : Record) (ps : List ℕ) (s : Try)
    → first (keep (λ u. room u.node) (tried n limit (place_tries r ps))) ≡ some s
    → PlaceGrant (λ p. ltb (node_at r p) n && has limit (node_at r p) && room (node_at r p)) ps r s
unfolding tried
place_grant n limit room r ps s e =
    let f = first_mapped (λ (p : ℕ). try (last_is p) (node_at r p)) (λ u. ltb u.node n && has limit u.node) (λ u. room u.node) ps s e in
    record { place = f.0; by_turn = f.1; moves = ap (λ (u : Try). u.turn) f.2; serves = ap (λ (u : Try). u.node) f.2 }

-- a grant to a ring job: the first place that is open
abbrev pub RingGrant : Machine → Tables → ℕ → Try → Type 0
RingGrant m t j s = PlaceGrant (place_open m t j) (ring_places (record_in t j)) (record_in t j) s

pub ring_grant : (m : Machine) (t : Tables) (j k : ℕ) (s : Try) → well_formed (node_count m) (record_in t j) ≡ true → (record_in t j).mode ≡ 5
    → first_with_room m.page_counts t.ledger (order_of m t j k) ≡ some s → RingGrant m t j s
unfolding first_with_room order_of order plan plan_in ring_tries place_open is_open row_of
ring_grant m t j k s w five e =
    let r = record_in t j in
    let in-force = list_in_force (node_count m) r (formed (node_count m) r w) (rw five refl) ∙ ap mode_of five in
    place_grant (node_count m) (limit_of t j) (has_room m.page_counts t.ledger) r (ring_places r) s (rw in-force at e)

-- ---- interleave

-- a mask with a node in it is not empty
pub not_empty : (e q : ℕ) → has e q ≡ true → is_empty e ≡ false
not_empty e q h =
    ne_eqb e 0 (λ z. let x : bit 0 q ≡ 1 = eqb-true (bit 0 q) 1 (rw z at h) in omega (arith, bit_above 0 0 q (zero-lt-suc 0) zero-le))

in_interleave : (j : Record) (q : ℕ) → j.mode ≡ 3 → has j.effective q ≡ true → mode_in_force j ≡ interleave
unfolding mode_in_force
in_interleave j q three h = rw (not_empty j.effective q h, and-false (eqb j.flag 1), three)

-- A grant to an interleave job: the target is the next effective node, the cursor field becomes one more, and the target serves if it is open.
pub record InterleaveGrant (m : Machine) (t : Tables) (j : ℕ) (s : Try) : Type 0 where
  pub goal : ℕ
  pub by_turn : first (keep (has (record_in t j).effective) (around most_nodes (record_in t j).turn.cursor most_nodes)) ≡ some goal
  pub moves : s.turn ≡ last_is goal
  pub serves : is_open m t j goal ≡ true → s.node ≡ goal

-- every try of near(x) leaves the same turn
first_turn : (room : Try → Bool) (turn : Turn) (ns : List ℕ) (s : Try) → first (keep room (map (try turn) ns)) ≡ some s → s.turn ≡ turn
first_turn room turn ns s e =
    let f = first_keep room (map (try turn) ns) e in
    ap (λ (u : Try). u.turn) (map_member (try turn) ns (first_member f)).2

pub interleave_grant : (m : Machine) (t : Tables) (j k q : ℕ) (s : Try) → (record_in t j).mode ≡ 3 → has (record_in t j).effective q ≡ true
    → first_with_room m.page_counts t.ledger (order_of m t j k) ≡ some s → InterleaveGrant m t j s
unfolding first_with_room order_of order plan plan_in is_open interleaved target tried first keep
interleave_grant m t j k q s three h e =
    go (target (record_in t j).effective (record_in t j).turn.cursor) refl (rw (in_interleave (record_in t j) q three h) at e)
  where
    limit : ℕ
    limit = limit_of t j

    room : Try → Bool
    room u = has_room m.page_counts t.ledger u.node

    nodes : ℕ → List ℕ
    nodes x = near (node_count m) m.distances limit x

    at_head : (x : ℕ) (ns : List ℕ) → nodes x ≡ x ∷ ns → has_room m.page_counts t.ledger x ≡ true
        → first (keep room (map (try (last_is x)) (nodes x))) ≡ some s → s.node ≡ x
    at_head x ns n r e =
        let z : some (try (last_is x) x) ≡ some s = rw (n, r) at e in
        let y : try (last_is x) x ≡ s = cc in
        ap (λ (u : Try). u.node) (sym y)

    open_serves : (x : ℕ) → first (keep room (map (try (last_is x)) (nodes x))) ≡ some s → is_open m t j x ≡ true → s.node ≡ x
    open_serves x e o =
        let a = both_true {a = ltb x (node_count m) && has limit x} {b = has_room m.page_counts t.ledger x} o in
        let l = (both_true {a = ltb x (node_count m)} {b = has limit x} a.0).1 in
        let n = near_order (node_count m) m.distances limit x in
        at_head x n.rest (n.x_first l) a.1 e

    go : (o : Option ℕ) → target (record_in t j).effective (record_in t j).turn.cursor ≡ o
        → first (keep room (order (node_count m) m.distances limit (interleaved limit o))) ≡ some s → InterleaveGrant m t j s
    go none q e = absurd (let z : ◌≡◌ {A = ℕ} 0 1 = cc in omega arith)
    go (some x) q e =
        record { goal = x; by_turn = q; moves = first_turn room (last_is x) (nodes x) s e; serves = open_serves x e }
