-- What one call does to a job whose policy it may not set: nothing to its record and map, or a grant that moves its turn, or a clear after
-- which it gets no more grants; and so along a list.
-- Assumes nothing.
use Prim.Native.Nat.{ℕ, zero, suc, ◌≤◌}
use mathlib.Core.Path.{◌≡◌, refl, sym, ap, ap₂, subst, ◌∙◌}
use mathlib.Core.Logic.{◌≢◌}
use mathlib.Core.Bool.{Bool, true, false, false≢true}
use mathlib.Core.Option.{some}
use mathlib.Core.List.{List, [], ◌∷◌, ◌++◌}
use borrow.Author.Tests.{eqb-true, eqb-false, eq-eqb, ne_eqb, ltb-true}
use lib.ListN.{length, take, drop}
use lib.Dec.{eqb}
use Rattle.rules.specs.Machine.{Machine, node_count}
use Rattle.rules.specs.Masks.{has, both}
use Rattle.rules.specs.Records.{Record, Turn, decode, job_count, fresh, with_turn, well_formed}
use Rattle.rules.specs.Maps.{map_size, nodes_in, set_of}
use Rattle.rules.specs.SearchOrder.{Try, has_room, chosen, pick_page}
use Rattle.rules.specs.Decisions.{Decision, refuse, accept}
use Rattle.rules.specs.Calls.{Tables, Change, after_stores, after_remaps, applied, granting, storing, mapping, map_of, is_mapped, limit_of, order_of}
use Rattle.rules.specs.Calls.{request_decision, release_decision, fresh_decision, install_decision, rebind_decision, clear_decision, keep_decision}
use Rattle.rules.specs.Calls.{set_map_decision}
use Rattle.rules.specs.Drain.{drain_decision}
use Rattle.rules.specs.Book.{Call, request, release, install, rebind, clear, fresh_table, keep_nodes, set_map, drain, decision, step}
use Rattle.rules.specs.FreeCounts.{Matches, first_with_room}
use Rattle.rules.proofs.Admission.{Passes, accepted}
use Rattle.rules.proofs.Calls.{installs, rebinds, clears, keepings, set_maps, releases, freshens, drains_so, serves, granted_in_node}
use Rattle.rules.proofs.AsBefore.{chosen_first, matches_kept}
use Rattle.rules.proofs.Maps.{good_parts, map_nodes, kept_good, map_other}
use Rattle.rules.proofs.Masks.{zero_and}
use Rattle.rules.proofs.Records.{fresh_storable, record_same, record_other}
use Rattle.rules.proofs.Kept.{request_good}
use Rattle.fairness.specs.Demand3.{record_in, Grant, grant_by, grant_in, grants, sets_policy, is_refused, PolicyKept, node_granted}
use Rattle.fairness.proofs.Search.{not_empty}

-- s is the try of the search that served the granted request g of job j
pub record Served (m : Machine) (j : ℕ) (g : Grant) (s : Try) : Type 0 where
  pub cpu : ℕ
  pub well_formed_lem : well_formed (node_count m) (record_in g.before j) ≡ true
  pub chose : chosen g.before.free (order_of m g.before j cpu) ≡ some s
  pub in_node : node_granted m g ≡ s.node
  pub allowed : has (limit_of g.before j) s.node ≡ true

-- and with counts that match it is the first in the order with a free page
pub record ServedFirst (m : Machine) (j : ℕ) (g : Grant) (s : Try) : Type 0 where
  pub served : Served m j g s
  pub with_room : first_with_room m.page_counts g.before.ledger (order_of m g.before j served.cpu) ≡ some s

served_first : (m : Machine) (j : ℕ) (g : Grant) (s : Try) → Matches m.page_counts g.before → Served m j g s → ServedFirst m j g s
served_first m j g s w v = record { served = v; with_room = sym (chosen_first m g.before w (order_of m g.before j v.cpu)) ∙ v.chose }

-- Job j has the same record and the same map in two tables.
pub record Same (j : ℕ) (t u : Tables) : Type 0 where
  pub held : record_in u j ≡ record_in t j
  pub mapped : map_of u j ≡ map_of t j

-- so it may get the same nodes
same_limit : (j : ℕ) (t u : Tables) → Same j t u → limit_of u j ≡ limit_of t j
unfolding limit_of
same_limit j t u s = ap₂ (λ (r : Record) (ns : List ℕ). both r.allowed (set_of ns)) s.held s.mapped

-- what a call does to job j
pub data Effect (m : Machine) (j : ℕ) (t : Tables) (c : Call) : Type 0 where
  quiet : grant_in m j t c ≡ [] → Same j t (step m t c).tables → Effect m j t c
  gave : (p : ℕ) (s : Try) → grant_in m j t c ≡ record { before = t; page = p } ∷ [] → Served m j (record { before = t; page = p }) s
      → record_in (step m t c).tables j ≡ with_turn (record_in t j) s.turn → map_of (step m t c).tables j ≡ map_of t j → Effect m j t c
  cleared : c ≡ clear j → grant_in m j t c ≡ [] → limit_of (step m t c).tables j ≡ 0 → Effect m j t c

-- ---- requests

own_granted : (m : Machine) (t : Tables) (j k : ℕ) (s : Try) → Passes m t j k
    → chosen t.free (order_of m t j k) ≡ some s → has_room m.page_counts t.ledger s.node ≡ true
    → request_decision m t j k ≡ accept (granting m.page_counts t j s) → Effect m j t (request j k)
unfolding step decision applied after_stores after_remaps grant_in grant_by node_granted map_of
own_granted m t j k s p c h e =
    let g = serves m t j k p c h in
    let lt = ltb-true j (job_count (length t.records)) p.job in
    gave (pick_page m.page_counts t.ledger j s.node) s (rw (eq-eqb j j refl, e))
    (record { cpu = k; well_formed_lem = p.formed; chose = c; in_node = granted_in_node g; allowed = g.allowed })
    (rw e (record_same t.records j (with_turn (record_in t j) s.turn) lt (request_good m t j k s p c).storable))
    (rw e)

other_granted : (m : Machine) (t : Tables) (j i k : ℕ) (s : Try) → i ≢ j → request_decision m t i k ≡ accept (granting m.page_counts t i s)
    → Effect m j t (request i k)
unfolding step decision applied after_stores after_remaps grant_in map_of
other_granted m t j i k s ne e =
    quiet (rw (ne_eqb i j ne)) (record { held = rw e (record_other t.records i j (with_turn (record_in t i) s.turn) ne); mapped = rw e })

own_request : (m : Machine) (t : Tables) (j k : ℕ) (d : Decision Change) → request_decision m t j k ≡ d → Effect m j t (request j k)
unfolding step decision applied grant_in grant_by
own_request m t j k (refuse r) e = quiet (rw (eq-eqb j j refl, e)) (record { held = rw e; mapped = rw e })
own_request m t j k (accept x) e = let a = accepted m t j k e in own_granted m t j k a.1 a.0 a.2 a.3 (e ∙ ap accept a.4)

other_request : (m : Machine) (t : Tables) (j i k : ℕ) → i ≢ j → (d : Decision Change) → request_decision m t i k ≡ d → Effect m j t (request i k)
unfolding step decision applied grant_in
other_request m t j i k ne (refuse r) e = quiet (rw (ne_eqb i j ne)) (record { held = rw e; mapped = rw e })
other_request m t j i k ne (accept x) e = let a = accepted m t i k e in other_granted m t j i k a.1 ne (e ∙ ap accept a.4)

request_effect : (m : Machine) (t : Tables) (j i k : ℕ) → Effect m j t (request i k)
request_effect m t j i k = go (eqb i j) refl
  where
    go : (b : Bool) → eqb i j ≡ b → Effect m j t (request i k)
    go true e = subst (λ (x : ℕ). Effect m j t (request x k)) (sym (eqb-true i j e)) (own_request m t j k (request_decision m t j k) refl)
    go false e = other_request m t j i k (eqb-false i j e) (request_decision m t i k) refl

-- ---- the other calls

-- a call that stores no record and sets no map
pages_keep : (t : Tables) (j : ℕ) (d : Decision Change) → ((x : Change) → d ≡ accept x → (x.stores ≡ []) × (x.remaps ≡ [])) → Same j t (applied t d).tables
unfolding applied after_stores after_remaps map_of
pages_keep t j (refuse r) s = record { held = refl; mapped = refl }
pages_keep t j (accept x) s = let w = s x refl in record { held = rw w.0; mapped = rw w.1 }

-- a call that stores a record for job i, if it is accepted, leaves those of the other jobs; and that of job i, if it is refused
storing_keeps : (t : Tables) (j i : ℕ) (d : Decision Change) → ((x : Change) → d ≡ accept x → (r : Record) × (x ≡ storing i r))
    → (eqb i j ≡ true → is_refused (applied t d).answer ≡ true) → Same j t (applied t d).tables
unfolding applied after_stores after_remaps is_refused map_of
storing_keeps t j i (refuse r) s u = record { held = refl; mapped = refl }
storing_keeps t j i (accept x) s u =
    let w = s x refl in
    record {
      held = rw w.1 (record_other t.records i j w.0 (λ e. false≢true (rw w.1 at (u (eq-eqb i j e)))));
      mapped = rw w.1;
    }

-- M-103: and so does one that sets a map
mapping_keeps : (t : Tables) (j i : ℕ) (d : Decision Change)
    → ((x : Change) → d ≡ accept x → (nodes : List ℕ) × (length nodes ≤ map_size) × (x ≡ mapping i nodes))
    → (eqb i j ≡ true → is_refused (applied t d).answer ≡ true) → Same j t (applied t d).tables
unfolding applied after_stores after_remaps is_refused map_of
mapping_keeps t j i (refuse r) s u = record { held = refl; mapped = refl }
mapping_keeps t j i (accept x) s u =
    let w = s x refl in
    record {
      held = rw w.2;
      mapped = rw w.2 (ap nodes_in (map_other t.maps i j w.0 (λ e. false≢true (rw w.2 at (u (eq-eqb i j e)))) w.1));
    }

keep_keeps : (n : ℕ) (t : Tables) (j i : ℕ) (kept : List ℕ) → (eqb i j ≡ true → is_refused (applied t (keep_decision n t i kept)).answer ≡ true)
    → Same j t (applied t (keep_decision n t i kept)).tables
unfolding is_mapped map_of
keep_keeps n t j i kept u =
    mapping_keeps t j i (keep_decision n t i kept)
    (λ x q. let a = keepings n t i kept q in (_, (kept_good n _ kept (map_nodes n _ a.0.mapped) a.0.keeps).few, a.1)) u

set_keeps : (n : ℕ) (t : Tables) (j i : ℕ) (nodes : List ℕ) → (eqb i j ≡ true → is_refused (applied t (set_map_decision n t i nodes)).answer ≡ true)
    → Same j t (applied t (set_map_decision n t i nodes)).tables
set_keeps n t j i nodes u =
    mapping_keeps t j i (set_map_decision n t i nodes) (λ x q. let a = set_maps n t i nodes q in (nodes, (good_parts n nodes a.0.good).few, a.1)) u

-- "Clear makes the record fresh": a fresh job may use no node
fresh_limit : fresh.allowed ≡ 0
unfolding fresh decode
fresh_limit = refl

own_clear : (m : Machine) (t : Tables) (j : ℕ) (d : Decision Change) → clear_decision (node_count m) t.records j ≡ d → Effect m j t (clear j)
unfolding step decision applied after_stores grant_in limit_of
own_clear m t j (refuse r) e = quiet refl (record { held = rw e; mapped = rw e })
own_clear m t j (accept x) e =
    let a = clears (node_count m) t.records j e in
    let lt = ltb-true j (job_count (length t.records)) a.0 in
    let none : (record_in (step m t (clear j)).tables j).allowed ≡ 0 =
    rw (e, a.1) (ap (λ (x : Record). x.allowed) (record_same t.records j fresh lt fresh_storable) ∙ fresh_limit) in
    cleared refl refl (ap (λ (x : ℕ). both x (set_of (map_of (step m t (clear j)).tables j))) none ∙ zero_and (set_of (map_of (step m t (clear j)).tables j)))

clear_effect : (m : Machine) (t : Tables) (j i : ℕ) → Effect m j t (clear i)
unfolding step decision grant_in
clear_effect m t j i = go (eqb i j) refl
  where
    go : (b : Bool) → eqb i j ≡ b → Effect m j t (clear i)
    go true e = subst (λ (x : ℕ). Effect m j t (clear x)) (sym (eqb-true i j e)) (own_clear m t j _ refl)
    go false e =
        quiet refl (storing_keeps t j i (clear_decision (node_count m) t.records i) (λ x q. (_, (clears (node_count m) t.records i q).1))
        (λ q. absurd (false≢true (sym e ∙ q))))

pub effect : (m : Machine) (j : ℕ) (t : Tables) (c : Call) → (sets_policy j c ≡ true → is_refused (step m t c).answer ≡ true) → Effect m j t c
unfolding step decision grant_in sets_policy
effect m j t (request i k) u = request_effect m t j i k
effect m j t (release i p) u =
    quiet refl (pages_keep t j (release_decision m.page_counts t i p) (λ x q. rw (releases m.page_counts t i p q).1 (refl, refl)))
effect m j t (install i p) u =
    quiet refl (storing_keeps t j i (install_decision (node_count m) t i p) (λ x q. (_, (installs (node_count m) t i p q).1)) u)
effect m j t (rebind i allowed) u =
    quiet refl (storing_keeps t j i (rebind_decision (node_count m) t.records i allowed) (λ x q. (_, (rebinds (node_count m) t.records i allowed q).1)) u)
effect m j t (clear i) u = clear_effect m t j i
effect m j t fresh_table u = quiet refl (pages_keep t j (fresh_decision m.page_counts t) (λ x q. rw (freshens m.page_counts t q).1 (refl, refl)))
effect m j t (keep_nodes i kept) u = quiet refl (keep_keeps (node_count m) t j i kept u)
effect m j t (set_map i nodes) u = quiet refl (set_keeps (node_count m) t j i nodes u)
effect m j t (drain y room) u =
    quiet refl (pages_keep t j (drain_decision m.page_counts m.distances y t room)
    (λ x q. rw (drains_so m.page_counts m.distances y t room q).2 (refl, refl)))

-- ---- a list of calls

-- the granted requests of a job whose record is P throughout, but for the turn: each starts from the turn that the last one left
unfoldable pub Linked : Machine → ℕ → Record → Turn → List Grant → Type 0
Linked m j P c [] = Unit {0}
Linked m j P c (g ∷ gs) = (record_in g.before j ≡ with_turn P c) × (s : Try) × ServedFirst m j g s × Linked m j P s.turn gs

-- which turn the record P has is of no account
any_turn : (m : Machine) (j : ℕ) (P : Record) (a c : Turn) (gs : List Grant) → Linked m j (with_turn P a) c gs → Linked m j P c gs
unfolding Linked with_turn
any_turn m j P a c [] l = tt
any_turn m j P a c (g ∷ gs) l = (l.0, l.1, l.2, any_turn m j P a l.1.turn gs l.3)

-- a job that may use no node, as after a clear, gets no more grants
no_grants : (m : Machine) (j : ℕ) (t : Tables) (cs : List Call) → limit_of t j ≡ 0 → PolicyKept m j t cs → grants m j t cs ≡ []
unfolding PolicyKept grants
no_grants m j t [] z u = refl
no_grants m j t (c ∷ cs) z u = go (effect m j t c u.0) (λ y. no_grants m j (step m t c).tables cs y u.1)
  where
    go : Effect m j t c → (limit_of (step m t c).tables j ≡ 0 → grants m j (step m t c).tables cs ≡ [])
        → grant_in m j t c ++ grants m j (step m t c).tables cs ≡ []
    go (quiet e s) ih = rw (e, ih (same_limit j t (step m t c).tables s ∙ z))
    go (gave p s e v q o) ih = absurd (false≢true (sym (not_empty (limit_of t j) s.node v.allowed) ∙ eq-eqb (limit_of t j) 0 z))
    go (cleared o e y) ih = rw (e, ih y)

pub linked : (m : Machine) (j : ℕ) (t : Tables) (cs : List Call) → Matches m.page_counts t → PolicyKept m j t cs
    → Linked m j (record_in t j) (record_in t j).turn (grants m j t cs)
unfolding PolicyKept Linked grants with_turn
linked m j t [] w u = tt
linked m j t (c ∷ cs) w u = go (effect m j t c u.0) (linked m j (step m t c).tables cs (matches_kept m t c w) u.1)
  where
    go : Effect m j t c → Linked m j (record_in (step m t c).tables j) (record_in (step m t c).tables j).turn (grants m j (step m t c).tables cs)
        → Linked m j (record_in t j) (record_in t j).turn (grant_in m j t c ++ grants m j (step m t c).tables cs)
    go (quiet e s) ih = rw (e, ← s.held) ih
    go (cleared o e z) ih = rw (e, no_grants m j (step m t c).tables cs z u.1) tt
    go (gave p s e v q o) ih =
        let first = served_first m j (record { before = t; page = p }) s w v in
        rw e (refl, s, first, any_turn m j (record_in t j) s.turn s.turn (grants m j (step m t c).tables cs) (rw q at ih))

pub linked_drop : (m : Machine) (j : ℕ) (P : Record) (c : Turn) (gs : List Grant) (s : ℕ) → Linked m j P c gs → (d : Turn) × Linked m j P d (drop s gs)
unfolding Linked
linked_drop m j P c gs zero l = (c, l)
linked_drop m j P c [] (suc s) l = (c, tt)
linked_drop m j P c (g ∷ gs) (suc s) l = linked_drop m j P l.1.turn gs s l.3

pub linked_take : (m : Machine) (j : ℕ) (P : Record) (c : Turn) (gs : List Grant) (n : ℕ) → Linked m j P c gs → Linked m j P c (take n gs)
unfolding Linked
linked_take m j P c gs zero l = tt
linked_take m j P c [] (suc n) l = tt
linked_take m j P c (g ∷ gs) (suc n) l = (l.0, l.1, l.2, linked_take m j P l.1.turn gs n l.3)
