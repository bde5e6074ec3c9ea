-- Which requests are let through to the search, and what that comes to: when one of them is refused 8, when 14. (Files are checked by name,
-- and what they use first: so a request that refuses in spite of room is refused here.)
-- Assumes nothing.
use Prim.Native.Nat.{ℕ, ◌<◌}
use mathlib.Core.Path.{◌≡◌, refl, sym, ap, ◌∙◌}
use mathlib.Core.Logic.{◌↔◌}
use mathlib.Core.Bool.{Bool, true, false, not, true≢false}
use mathlib.Core.Option.{Option, none, some}
use mathlib.Core.List.{List}
use native.Mathlib.Omega.{arith}
use borrow.Author.Tests.{eqb-true, eqb-false}
use lib.ListN.{get_or}
use lib.Dec.{eqb}
use Rattle.rules.specs.Basics.{any}
use Rattle.rules.specs.Machine.{Machine, node_count, pages_of}
use Rattle.rules.specs.Records.{Record, record_at, well_formed}
use Rattle.rules.specs.Maps.{application_node}
use Rattle.rules.specs.SearchOrder.{Try, free_pages, has_room, pick_page, counted, chosen}
use Rattle.rules.specs.Decisions.{Decision, refuse, accept, then}
use Rattle.rules.specs.Calls.{granted, refused, Tables, Change, granting, applied, is_job, is_cpu, request_tables_ok}
use Rattle.rules.specs.Calls.{is_mapped, map_of, admitted, order_of, serve, request_decision}
use Rattle.rules.specs.Book.{request, decision, step}
use Rattle.rules.proofs.Lists.{◌∈◌, fails, any_false, none_any, empty_keep, FirstOf, first_keep, keep_first, first_none}
use Rattle.rules.proofs.Pages.{PageOf, member_page, page_member}
use Rattle.rules.proofs.Decisions.{passed, passed_to, went_on}

-- ---- free pages

-- p is a free page of node n: "0 is free"
pub record FreePage (counts ledger : List ℕ) (n p : ℕ) : Type 0 where
  pub of_node : PageOf counts n p
  pub free : get_or ledger p 1 ≡ 0

-- "0 is free": the test of a page
abbrev pub is_free : List ℕ → ℕ → Bool
is_free ledger p = eqb (get_or ledger p 1) 0

module _ (counts ledger : List ℕ) (n : ℕ) where
  room_any : has_room counts ledger n ≡ any (is_free ledger) (pages_of counts n)
  unfolding has_room free_pages
  room_any = ap not (empty_keep (is_free ledger) (pages_of counts n)) ∙ not_not (any (is_free ledger) (pages_of counts n))
    where
      not_not : (b : Bool) → not (not b) ≡ b
      not_not true = refl
      not_not false = refl

  -- the test of the search fails exactly where the node has no free page
  pub no_room : (has_room counts ledger n ≡ false) ↔ ((p : ℕ) → FreePage counts ledger n p → ⊥)
  no_room = (
    λ e p f. eqb-false _ 0 (any_false (is_free ledger) (sym room_any ∙ e) (page_member f.of_node)) f.free,
    λ h. room_any ∙ none_any (is_free ledger) (pages_of counts n)
        (λ p q. fails (λ e. h p (record { of_node = member_page counts n q; free = eqb-true _ 0 e }))),
  )

-- ---- a request's tests

-- "request 1, 2, 3, 4", and M-103's 15: a request that passes these tests
pub record Passes (m : Machine) (t : Tables) (j k : ℕ) : Type 0 where
  pub tables_ok : request_tables_ok m t ≡ true
  pub job : is_job t.records j ≡ true
  pub mapped : is_mapped (node_count m) t j ≡ true
  pub cpu : is_cpu m.cpu_nodes k ≡ true
  pub formed : well_formed (node_count m) (record_at t.records j) ≡ true

module _ (m : Machine) (t : Tables) (j k : ℕ) where
  formed : Bool
  formed = well_formed (node_count m) (record_at t.records j)

  -- a request is let through only if it passes 1 to 4
  pub admitted_passes : {r : Record} → admitted m t j k ≡ accept r → Passes m t j k
  unfolding admitted formed
  admitted_passes e =
      let a = passed (request_tables_ok m t) 1 _ e in
      let b = passed (is_job t.records j) 2 _ a.1 in
      let c = passed (is_mapped (node_count m) t j) 15 _ b.1 in
      let d = passed (is_cpu m.cpu_nodes k) 3 _ c.1 in
      record { tables_ok = a.0; job = b.0; mapped = c.0; cpu = d.0; formed = (passed formed 4 _ d.1).0 }

  -- and one that passes them is
  pub passes_admitted : Passes m t j k → admitted m t j k ≡ accept (record_at t.records j)
  unfolding admitted
  passes_admitted p = rw (p.tables_ok, p.job, p.mapped, p.cpu, p.formed)

  -- each of these tests refuses with one of 1 to 4, or 15
  not_later : (q : ℕ) → 4 < q → q < 15 → (d : Decision Record) → admitted m t j k ≡ d → d ≡ refuse q → ⊥
  unfolding admitted formed
  not_later q l u d e z =
      let a = passed_to (request_tables_ok m t) 1 _ (e ∙ z) (λ y. omega arith) in
      let b = passed_to (is_job t.records j) 2 _ a.1 (λ y. omega arith) in
      let c = passed_to (is_mapped (node_count m) t j) 15 _ b.1 (λ y. omega arith) in
      let d = passed_to (is_cpu m.cpu_nodes k) 3 _ c.1 (λ y. omega arith) in
      let f = passed_to formed 4 _ d.1 (λ y. omega arith) in
      let n : ◌≡◌ {A = ℕ} 0 1 = cc in
      omega arith

  served_is : (o : Option Try) {x : Change} → serve m.page_counts t j o ≡ accept x
      → (s : Try) × (o ≡ some s) × (has_room m.page_counts t.ledger s.node ≡ true) × (x ≡ granting m.page_counts t j s)
  unfolding serve
  served_is none e = absurd (let z : ◌≡◌ {A = ℕ} 0 1 = cc in omega arith)
  served_is (some s) {x} e =
      let a = passed (has_room m.page_counts t.ledger s.node) 14 _ e in
      let same : x ≡ granting m.page_counts t j s = cc in
      (s, refl, a.0, same)

  -- a request that is accepted passes 1 to 4, and is served by the first try of its order that is counted above 0, which has room
  pub accepted : {x : Change} → request_decision m t j k ≡ accept x
      → Passes m t j k × (s : Try) × (chosen t.free (order_of m t j k) ≡ some s) × (has_room m.page_counts t.ledger s.node ≡ true)
      × (x ≡ granting m.page_counts t j s)
  unfolding request_decision
  accepted {x} e =
      let g = went_on (admitted m t j k) _ e in
      let s = served_is (chosen t.free (order_of m t j k)) g.2 in
      (admitted_passes g.1, s.0, s.1, s.2, s.3)

  -- a request that passes 1 to 4 goes by the search alone
  passes_search : Passes m t j k → request_decision m t j k ≡ serve m.page_counts t j (chosen t.free (order_of m t j k))
  unfolding request_decision
  passes_search p = rw (passes_admitted p)

-- ---- what the search comes to

module _ (m : Machine) (t : Tables) (j k : ℕ) where
  -- M-100: no node in the order is counted above 0, and it is 8; or the first that is has no free page, and it is 14; or has one, and grants
  pub data Searched : Type 0 where
    nowhere : chosen t.free (order_of m t j k) ≡ none → (step m t (request j k)).answer ≡ refused 8 → Searched
    wrongly : (s : Try) → chosen t.free (order_of m t j k) ≡ some s → has_room m.page_counts t.ledger s.node ≡ false
        → (step m t (request j k)).answer ≡ refused 14 → Searched
    served : (s : Try) → chosen t.free (order_of m t j k) ≡ some s → has_room m.page_counts t.ledger s.node ≡ true
        → (step m t (request j k)).answer ≡ granted (application_node (map_of t j) s.node) (pick_page m.page_counts t.ledger j s.node) → Searched

  -- each request that passes 1 to 4 is one of these
  pub searched : Passes m t j k → Searched
  unfolding step decision applied serve
  searched p = go (chosen t.free (order_of m t j k)) refl
    where
      in_node : (s : Try) → chosen t.free (order_of m t j k) ≡ some s → (b : Bool) → has_room m.page_counts t.ledger s.node ≡ b → Searched
      in_node s e true r = served s e r (rw (passes_search m t j k p, e, r))
      in_node s e false r = wrongly s e r (rw (passes_search m t j k p, e, r))

      go : (o : Option Try) → chosen t.free (order_of m t j k) ≡ o → Searched
      go none e = nowhere e (rw (passes_search m t j k p, e))
      go (some s) e = in_node s e (has_room m.page_counts t.ledger s.node) refl

  -- "Order: request 1, 2, 3, 4", 14, "8": a request that is refused with a later number than 4 passes 1 to 4
  later_passes : (q : ℕ) → 4 < q → q < 15 → (step m t (request j k)).answer ≡ refused q → Passes m t j k
  unfolding step decision applied request_decision
  later_passes q l u e = go (admitted m t j k) refl e
    where
      go : (d : Decision Record) → admitted m t j k ≡ d
          → (applied t (then d (λ r. serve m.page_counts t j (chosen t.free (order_of m t j k))))).answer ≡ refused q → Passes m t j k
      go (refuse y) f e = absurd (not_later m t j k q l u (refuse y) f (cc))
      go (accept r) f e = admitted_passes m t j k f

  -- M-100: "8, which then means every node in the order counted 0": a request is refused 8 exactly when it passes 1 to 4 and that is so
  pub refused_8 : ((step m t (request j k)).answer ≡ refused 8) ↔ (Passes m t j k × ((s : Try) → s ∈ order_of m t j k → counted t.free s.node ≡ false))
  unfolding chosen
  refused_8 = (λ e. let p = later_passes 8 (omega arith) (omega arith) e in (p, none_counted e (searched p)), λ h. back h (searched h.0))
    where
      is_counted : Try → Bool
      is_counted s = counted t.free s.node

      none_counted : (step m t (request j k)).answer ≡ refused 8 → Searched → (s : Try) → s ∈ order_of m t j k → is_counted s ≡ false
      none_counted e (nowhere c a) s h = any_false is_counted ((first_none is_counted (order_of m t j k)).0 c) h
      none_counted e (wrongly x c r a) s h = absurd (let z : ◌≡◌ {A = ℕ} 8 14 = cc in omega arith)
      none_counted e (served x c r a) s h = absurd (let z : ◌≡◌ {A = ℕ} 0 1 = cc in omega arith)

      none_chosen : ((s : Try) → s ∈ order_of m t j k → is_counted s ≡ false) → {x : Try} → chosen t.free (order_of m t j k) ≡ some x → ⊥
      none_chosen f e =
          let n = (first_none is_counted (order_of m t j k)).1 (none_any is_counted (order_of m t j k) f) in
          let z : ◌≡◌ {A = ℕ} 0 1 = cc in
          omega arith

      back : Passes m t j k × ((s : Try) → s ∈ order_of m t j k → is_counted s ≡ false) → Searched → (step m t (request j k)).answer ≡ refused 8
      back h (nowhere c a) = a
      back h (wrongly x c r a) = absurd (none_chosen h.1 c)
      back h (served x c r a) = absurd (none_chosen h.1 c)

  -- M-100: "meets a node counted above 0 with no free page": the first node in the order that is counted above 0 has none
  pub record MeetsWrongCount : Type 0 where
    pub met : Try
    pub first_counted : FirstOf (λ s. counted t.free s.node) (order_of m t j k) met
    pub no_page : (q : ℕ) → FreePage m.page_counts t.ledger met.node q → ⊥

  -- a request is refused 14 exactly when it passes 1 to 4 and meets such a node
  pub refused_14 : ((step m t (request j k)).answer ≡ refused 14) ↔ (Passes m t j k × MeetsWrongCount)
  unfolding chosen
  refused_14 = (λ e. let p = later_passes 14 (omega arith) (omega arith) e in (p, meets e (searched p)), λ h. back h.1 (searched h.0))
    where
      meets : (step m t (request j k)).answer ≡ refused 14 → Searched → MeetsWrongCount
      meets e (nowhere c a) = absurd (let z : ◌≡◌ {A = ℕ} 14 8 = cc in omega arith)
      meets e (wrongly s c r a) = record {
        met = s;
        first_counted = first_keep (λ s. counted t.free s.node) (order_of m t j k) c;
        no_page = (no_room m.page_counts t.ledger s.node).0 r;
      }
      meets e (served s c r a) = absurd (let z : ◌≡◌ {A = ℕ} 0 1 = cc in omega arith)

      is_met : (w : MeetsWrongCount) {s : Try} → chosen t.free (order_of m t j k) ≡ some s → w.met ≡ s
      is_met w {s} e = let q = keep_first w.first_counted in cc

      back : MeetsWrongCount → Searched → (step m t (request j k)).answer ≡ refused 14
      back w (nowhere c a) = absurd (let q = keep_first w.first_counted in let z : ◌≡◌ {A = ℕ} 0 1 = cc in omega arith)
      back w (wrongly s c r a) = a
      back w (served s c r a) =
          let none_there = (no_room m.page_counts t.ledger s.node).1 (λ q f. w.no_page q (rw (is_met w c) f)) in
          absurd (true≢false (sym r ∙ none_there))
