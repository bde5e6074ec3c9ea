-- M-100: "If the counts match the page table at entry, every call answers as before and they match afterwards."
-- Assumes nothing.
use Prim.Native.Nat.{ℕ, ◌+◌, ◌-◌, ◌*◌, ◌<◌}
use mathlib.Core.Path.{◌≡◌, refl, sym, ap, ap₂, subst, ◌∙◌}
use mathlib.Core.Logic.{◌↔◌, ◌≢◌}
use mathlib.Core.Bool.{Bool, true, false, ◌&&◌, true≢false}
use mathlib.Core.Option.{Option, none, some}
use mathlib.Core.List.{List, [], ◌∷◌, ◌++◌}
use native.Mathlib.Omega.{arith}
use borrow.Author.Tests.{eq-eqb, le-leb, leb-true}
use lib.Dec.{leb, ltb}
use lib.ListN.{length, get_or, drop, set, replicate}
use Rattle.rules.specs.Basics.{sum, same}
use Rattle.rules.specs.Machine.{Machine, node_count, distances_ok, machine_ok, page_table_ok, node_of_page}
use Rattle.rules.specs.Records.{Record, record_at, well_formed}
use Rattle.rules.specs.SearchOrder.{Try, has_room, free_counts, pick_page, counted, chosen}
use Rattle.rules.specs.Decisions.{Decision, refuse, accept, unless, then}
use Rattle.rules.specs.Calls.{Answer, granted, done, refused, Tables, tables_of, Change, after_writes, after_stores, after_remaps}
use Rattle.rules.specs.Calls.{Outcome, outcome, applied}
use Rattle.rules.specs.Calls.{granting, freeing, freeing_all}
use Rattle.rules.specs.Calls.{is_job, is_cpu, is_mapped, free_ok, jobs_ok, request_tables_ok, fresh_tables_ok, release_tables_ok, holds, count_fits, admitted}
use Rattle.rules.specs.Calls.{order_of, serve, request_decision, release_decision, fresh_decision, install_decision, rebind_decision, clear_decision}
use Rattle.rules.specs.Calls.{keep_decision, set_map_decision, on_fresh}
use Rattle.rules.specs.Drain.{Move, held_pages, moves, draining, drain_tables_ok, counts_match, moves_within, drain_moves, drain_decision}
use Rattle.rules.specs.Book.{Call, request, release, install, rebind, clear, fresh_table, keep_nodes, set_map, drain, decision, step, answers, final}
use Rattle.rules.specs.FreeCounts.{Matches, recounted, first_with_room, serve_uncounted, request_uncounted, pages_in_order}
use Rattle.rules.specs.FreeCounts.{release_uncounted, fresh_uncounted, drain_uncounted, decision_uncounted, step_uncounted, answers_uncounted, final_uncounted}
use Rattle.rules.proofs.Lists.{◌∈◌, both_true, first_keep, keep_first, entry_same, in_table_lem, same_self}
use Rattle.rules.proofs.Admission.{FreePage, no_room, Passes, Searched, nowhere, wrongly, served, searched, refused_8, refused_14}
use Rattle.rules.proofs.Pages.{PageOf, node_page}
use Rattle.rules.proofs.Calls.{installs, rebinds, clears, keepings, set_maps, held_page, Granted, release_14}
use Rattle.rules.proofs.Picked.{picked_page}
use Rattle.rules.proofs.InOrder.{PagesInOrder, pages_in_order_lem}
use Rattle.rules.proofs.FreeCounts.{free_counts_length, counted_room, chosen_with_room, count_granted, count_released, count_within}
use Rattle.rules.proofs.FreeCounts.{zeros_written, counts_written, all_free}
use Rattle.rules.proofs.Decisions.{passed, went_on}
use Rattle.rules.proofs.Moves.{held_queue, moves_match}

-- a request's tests, and then the search
pub in_chain : {A B : Type 0} (a b c d f : Bool) (x : A) (go : A → Decision B)
    → then (unless a 1 (unless b 2 (unless c 15 (unless d 3 (unless f 4 (accept x)))))) go
    ≡ unless a 1 (unless b 2 (unless c 15 (unless d 3 (unless f 4 (go x)))))
in_chain false b c d f x go = refl
in_chain true false c d f x go = refl
in_chain true true false d f x go = refl
in_chain true true true false f x go = refl
in_chain true true true true false x go = refl
in_chain true true true true true x go = refl

-- a drain's tests, and then what it does
drain_chain : {A B : Type 0} (a b : Bool) (d : Decision A) (go : A → Decision B)
    → then (unless a 1 (unless b 6 (unless true 14 d))) go ≡ unless a 1 (unless b 6 (then d go))
drain_chain false b d go = refl
drain_chain true false d go = refl
drain_chain true true d go = refl

-- the moves of a drain that has room for them
within_moves : (counts distances : List ℕ) (x : ℕ) (t : Tables) (room : ℕ) {vs : List Move} → moves_within counts distances x t room ≡ accept vs
    → moves counts distances x t (held_pages counts t.ledger x) ≡ accept vs
unfolding moves_within
within_moves counts distances x t room {vs} e =
    let a = went_on (moves counts distances x t (held_pages counts t.ledger x)) _ e in
    let b = passed (leb (2 * length a.0) room) 11 _ a.2 in
    let same : a.0 ≡ vs = cc in
    a.1 ∙ ap accept same

module _ (counts : List ℕ) (t : Tables) (a : Matches counts t) where
  -- a decision of the rules that does what one of the law without counts does
  abbrev Same : Decision Change → Decision Change → Type 0
  Same d e = applied t d ≡ recounted counts (applied t e)

  -- there is a count for each node
  one_each : free_ok (length counts) (length t.free) ≡ true
  one_each = eq-eqb _ _ (ap length a ∙ free_counts_length counts t.ledger)

  same_refusal : (r : ℕ) → Same (refuse r) (refuse r)
  unfolding applied
  same_refusal r = ap (λ (f : List ℕ). outcome (refused r) (tables_of t.ledger t.records f t.maps)) a

  -- the same change: the counts that it sets are those of the page table that it leaves
  same_change : (x : Change) → after_writes t.free x.recounts ≡ free_counts counts (after_writes t.ledger x.writes) → Same (accept x) (accept x)
  unfolding applied
  same_change x e =
      ap (λ (f : List ℕ). outcome x.answer
      (tables_of (after_writes t.ledger x.writes) (after_stores t.records x.stores) f (after_remaps t.maps x.remaps))) e

  -- the same test, and then the same
  same_unless : (b : Bool) (r : ℕ) (d e : Decision Change) → (b ≡ true → Same d e) → Same (unless b r d) (unless b r e)
  same_unless true r d e h = h refl
  same_unless false r d e h = same_refusal r

  -- a call that stores a record or sets a map leaves page table and counts
  same_stored : (d : Decision Change) → ((x : Change) → d ≡ accept x → (x.writes ≡ []) × (x.recounts ≡ [])) → Same d d
  unfolding after_writes
  same_stored (refuse r) h = same_refusal r
  same_stored (accept x) h = let s = h x refl in same_change x (rw (s.0, s.1) a)

  -- ---- request

  module _ (j : ℕ) (s : Try) (room : has_room counts t.ledger s.node ≡ true) where
    granted_same : Same (unless (has_room counts t.ledger s.node) 14 (accept (granting counts t j s))) (accept (granting counts t j s))
    unfolding after_writes
    granted_same =
        let p = (picked_page counts t.ledger s.node j room).page in
        let in_ledger = in_table_lem t.ledger (pick_page counts t.ledger j s.node) 1 0 p.free (λ z. omega arith) in
        rw room (same_change (granting counts t j s)
        (ap (λ (f : List ℕ). set f s.node (get_or f s.node 0 - 1)) a ∙ count_granted counts t.ledger s.node _ j p.of_node in_ledger p.free))

  served_same : (j : ℕ) (ts : List Try)
      → Same (serve counts t j (chosen t.free ts)) (serve_uncounted counts t j (first_with_room counts t.ledger ts))
  unfolding serve serve_uncounted first_with_room
  served_same j ts =
      subst (λ (o : Option Try). Same (serve counts t j o) (serve_uncounted counts t j (first_with_room counts t.ledger ts)))
      (sym (ap (λ (f : List ℕ). chosen f ts) a ∙ chosen_with_room counts t.ledger ts)) (go (first_with_room counts t.ledger ts) refl)
    where
      go : (o : Option Try) → first_with_room counts t.ledger ts ≡ o → Same (serve counts t j o) (serve_uncounted counts t j o)
      go none e = same_refusal 8
      go (some s) e = granted_same j s (first_keep (λ x. has_room counts t.ledger x.node) ts e).passes

  -- ---- release

  module _ (j p : ℕ) (in_range : p < sum counts) (held : get_or t.ledger p 0 ≡ j + 1) where
    page_there : PageOf counts (node_of_page counts p) p
    page_there = node_page counts p in_range

    in_ledger : p < length t.ledger
    in_ledger = in_table_lem t.ledger p 0 (j + 1) held (λ z. omega arith)

    not_free : get_or t.ledger p 1 ≢ 0
    not_free z = let e = entry_same t.ledger p 0 1 in_ledger in omega arith

    fits : count_fits counts t.free (node_of_page counts p) ≡ true
    unfolding count_fits
    fits = rw a (le-leb _ _ (count_within counts t.ledger (node_of_page counts p) p page_there in_ledger not_free))

    freed_same : Same (unless (count_fits counts t.free (node_of_page counts p)) 14 (accept (freeing counts t j p))) (accept (freeing counts t j p))
    unfolding after_writes
    freed_same =
        rw fits (same_change (freeing counts t j p)
        (ap (λ (f : List ℕ). set f (node_of_page counts p) (get_or f (node_of_page counts p) 0 + 1)) a
        ∙ count_released counts t.ledger (node_of_page counts p) p page_there in_ledger not_free))

  -- ---- refusal 1

  and_true_right : (b : Bool) → (b && true) ≡ b
  and_true_right true = refl
  and_true_right false = refl

  fresh_tested : fresh_tables_ok counts (length t.ledger) (length t.free) ≡ pages_in_order counts t
  unfolding fresh_tables_ok pages_in_order
  fresh_tested = rw one_each (and_true_right (pages_in_order counts t))

  release_same : (j p : ℕ) → Same (release_decision counts t j p) (release_uncounted counts t j p)
  unfolding release_decision release_uncounted release_tables_ok
  release_same j p =
      rw fresh_tested
      (same_unless (pages_in_order counts t && jobs_ok (length t.records) (length t.maps)) 1 _ _
      (λ ok. same_unless (is_job t.records j) 2 _ _
      (λ job. same_unless (is_mapped (length counts) t j) 15 _ _
      (λ good. same_unless (holds counts t.ledger j p) 10 _ _
      (λ held. let h = held_page counts t.ledger j p held in freed_same j p h.0 h.1)))))

  -- ---- the fresh table

  fresh_same : Same (fresh_decision counts t) (fresh_uncounted counts t)
  unfolding fresh_decision fresh_uncounted
  fresh_same =
      rw fresh_tested
      (same_unless (pages_in_order counts t) 1 _ _ (λ ok. same_change (freeing_all counts) (made (pages_in_order_lem counts _ _ (fresh_tested ∙ ok)))))
    where
      made : PagesInOrder counts (length t.ledger) (length t.free)
          → after_writes t.free (freeing_all counts).recounts ≡ free_counts counts (after_writes t.ledger (freeing_all counts).writes)
      made o =
          counts_written counts t.free o.one_each
          ∙ sym (ap (free_counts counts) (zeros_written t.ledger (sum counts) o.fits) ∙ all_free counts (drop (sum counts) t.ledger))

  -- ---- the drain

  drain_same : (distances : List ℕ) (x room : ℕ) → Same (drain_decision counts distances x t room) (drain_uncounted counts distances x t room)
  unfolding drain_decision drain_moves drain_uncounted drain_tables_ok counts_match
  drain_same distances x room =
      let go : List Move → Decision Change = λ vs. accept (draining x t vs) in
      let jobs = jobs_ok (length t.records) (length t.maps) in
      let tables = pages_in_order counts t && distances_ok (length counts) distances && jobs in
      let matching : same t.free (free_counts counts t.ledger) ≡ true = rw a (same_self (free_counts counts t.ledger)) in
      rw (fresh_tested, matching, drain_chain tables (ltb x (length counts)) (moves_within counts distances x t room) go)
      (same_unless tables 1 _ _
      (λ ok. same_unless (ltb x (length counts)) 6 _ _
      (λ node. moving (moves_within counts distances x t room) refl (pages_fit (pages_in_order counts t) (distances_ok (length counts) distances) jobs ok))))
    where
      pages_fit : (p d j : Bool) → (p && d && j) ≡ true → p ≡ true
      pages_fit p d j h = (both_true {a = p} (both_true {a = p && d} h).0).0

      moving : (d : Decision (List Move)) → moves_within counts distances x t room ≡ d → pages_in_order counts t ≡ true
          → Same (then d (λ vs. accept (draining x t vs))) (then d (λ vs. accept (draining x t vs)))
      moving (refuse r) e ok = same_refusal r
      moving (accept vs) e ok =
          let fits = (pages_in_order_lem counts _ _ (fresh_tested ∙ ok)).fits in
          same_change (draining x t vs)
          (moves_match counts distances x t (held_pages counts t.ledger x) vs (held_queue counts t.ledger x fits)
          (within_moves counts distances x t room e) a)

-- ---- every call

request_same : (m : Machine) (t : Tables) (a : Matches m.page_counts t) (j k : ℕ)
    → Same m.page_counts t a (request_decision m t j k) (request_uncounted m t j k)
unfolding request_decision request_uncounted admitted request_tables_ok
request_same m t a j k =
    let counts = m.page_counts in
    let tables = machine_ok m && page_table_ok counts (length t.ledger) && jobs_ok (length t.records) (length t.maps) in
    let mapped = is_mapped (node_count m) t j in
    let formed = well_formed (node_count m) (record_at t.records j) in
    let search : Record → Decision Change = λ r. serve counts t j (chosen t.free (order_of m t j k)) in
    let chain = in_chain tables (is_job t.records j) mapped (is_cpu m.cpu_nodes k) formed (record_at t.records j) search in
    rw (one_each counts t a, and_true_right counts t a tables, chain)
    (same_unless counts t a tables 1 _ _
    (λ ok. same_unless counts t a (is_job t.records j) 2 _ _
    (λ job. same_unless counts t a mapped 15 _ _
    (λ good. same_unless counts t a (is_cpu m.cpu_nodes k) 3 _ _
    (λ cpu. same_unless counts t a formed 4 _ _
    (λ f. served_same counts t a j (order_of m t j k)))))))

-- with counts that match each call answers and leaves page table and job table as the law without counts says, and the counts of that page
-- table
pub as_before : (m : Machine) (t : Tables) (c : Call) → Matches m.page_counts t → step m t c ≡ step_uncounted m t c
unfolding step decision step_uncounted decision_uncounted
as_before m t (request j k) a = request_same m t a j k
as_before m t (release j p) a = release_same m.page_counts t a j p
as_before m t (install j p) a =
    same_stored m.page_counts t a (install_decision (node_count m) t j p) (λ x e. rw (installs (node_count m) t j p e).1 (refl, refl))
as_before m t (rebind j allowed) a =
    same_stored m.page_counts t a (rebind_decision (node_count m) t.records j allowed)
    (λ x e. rw (rebinds (node_count m) t.records j allowed e).1 (refl, refl))
as_before m t (clear j) a =
    same_stored m.page_counts t a (clear_decision (node_count m) t.records j) (λ x e. rw (clears (node_count m) t.records j e).1 (refl, refl))
as_before m t fresh_table a = fresh_same m.page_counts t a
as_before m t (keep_nodes j kept) a =
    same_stored m.page_counts t a (keep_decision (node_count m) t j kept) (λ x e. rw (keepings (node_count m) t j kept e).1 (refl, refl))
as_before m t (set_map j nodes) a =
    same_stored m.page_counts t a (set_map_decision (node_count m) t j nodes) (λ x e. rw (set_maps (node_count m) t j nodes e).1 (refl, refl))
as_before m t (drain x room) a = drain_same m.page_counts t a m.distances x room

-- "and they match afterwards"
pub matches_kept : (m : Machine) (t : Tables) (c : Call) → Matches m.page_counts t → Matches m.page_counts (step m t c).tables
unfolding step_uncounted
matches_kept m t c a = rw (as_before m t c a) refl

-- ---- every list of calls

pub matches_kept_all : (m : Machine) (t : Tables) (cs : List Call) → Matches m.page_counts t → Matches m.page_counts (final m t cs)
unfolding final
matches_kept_all m t [] a = a
matches_kept_all m t (c ∷ cs) a = matches_kept_all m (step m t c).tables cs (matches_kept m t c a)

pub answers_as_before : (m : Machine) (t : Tables) (cs : List Call) → Matches m.page_counts t → answers m t cs ≡ answers_uncounted m t cs
unfolding answers answers_uncounted
answers_as_before m t [] a = refl
answers_as_before m t (c ∷ cs) a =
    let e = as_before m t c a in
    ap₂ (λ (x : Answer) (xs : List Answer). x ∷ xs) (ap (λ (o : Outcome). o.answer) e)
    (answers_as_before m (step m t c).tables cs (matches_kept m t c a) ∙ ap (λ (o : Outcome). answers_uncounted m o.tables cs) e)

pub final_as_before : (m : Machine) (t : Tables) (cs : List Call) → Matches m.page_counts t → final m t cs ≡ final_uncounted m t cs
unfolding final final_uncounted
final_as_before m t [] a = refl
final_as_before m t (c ∷ cs) a =
    final_as_before m (step m t c).tables cs (matches_kept m t c a) ∙ ap (λ (o : Outcome). final_uncounted m o.tables cs) (as_before m t c a)

-- ---- the fresh table, from any tables

-- "A fresh table and its counts are made by one call": whatever the tables held, every page is free afterwards, what stands behind the pages
-- stays, and the counts are the page counts
pub fresh_is : (counts : List ℕ) (t : Tables) → fresh_tables_ok counts (length t.ledger) (length t.free) ≡ true
    → on_fresh counts t ≡ outcome done (tables_of (replicate (sum counts) 0 ++ drop (sum counts) t.ledger) t.records counts t.maps)
unfolding on_fresh applied fresh_decision after_stores after_remaps
fresh_is counts t ok =
    let o = pages_in_order_lem counts _ _ ok in
    rw ok (ap₂ (λ (l f : List ℕ). outcome done (tables_of l t.records f t.maps)) (zeros_written t.ledger (sum counts) o.fits)
    (counts_written counts t.free o.one_each))

-- so the counts match
pub fresh_matches : (m : Machine) (t : Tables) → fresh_tables_ok m.page_counts (length t.ledger) (length t.free) ≡ true
    → Matches m.page_counts (step m t fresh_table).tables
unfolding step decision on_fresh
fresh_matches m t ok = rw (fresh_is m.page_counts t ok) (sym (all_free m.page_counts (drop (sum m.page_counts) t.ledger)))

-- ---- demand 2 and the room rule, with counts that match

module _ (m : Machine) (t : Tables) (a : Matches m.page_counts t) where
  -- a node is counted above 0 exactly if it has a free page
  pub counted_as : (n : ℕ) → counted t.free n ≡ has_room m.page_counts t.ledger n
  counted_as n = ap (λ (f : List ℕ). counted f n) a ∙ counted_room m.page_counts t.ledger n

  -- "8 no node in the order has a free page", "Given exactly when", "Order: request 1, 2, 3, 4, 8": a request is refused 8 exactly when it
  -- passes 1 to 4 and no node in its order has a free page
  pub room : (j k : ℕ) → ((step m t (request j k)).answer ≡ refused 8)
      ↔ (Passes m t j k × ((s : Try) → s ∈ order_of m t j k → (q : ℕ) → FreePage m.page_counts t.ledger s.node q → ⊥))
  room j k = (
    λ e. let r = (refused_8 m t j k).0 e in (r.0, λ s h. (no_room m.page_counts t.ledger s.node).0 (sym (counted_as s.node) ∙ r.1 s h)),
    λ h. (refused_8 m t j k).1 (h.0, λ s i. counted_as s.node ∙ (no_room m.page_counts t.ledger s.node).1 (h.1 s i)),
  )

  -- 14 is never given by a request
  pub request_never_14 : (j k : ℕ) → (step m t (request j k)).answer ≡ refused 14 → ⊥
  request_never_14 j k e =
      let w = ((refused_14 m t j k).0 e).1 in
      let full = (no_room m.page_counts t.ledger w.met.node).1 w.no_page in
      true≢false (sym w.first_counted.passes ∙ counted_as w.met.node ∙ full)

  -- nor by a release
  pub release_never_14 : (j p : ℕ) → (step m t (release j p)).answer ≡ refused 14 → ⊥
  unfolding count_fits
  release_never_14 j p e =
      let w = (release_14 m t j p).0 e in
      let h = held_page m.page_counts t.ledger j p w.held in
      let n = node_of_page m.page_counts p in
      let f = leb-true (get_or t.free n 0 + 1) (get_or m.page_counts n 0) (fits m.page_counts t a j p h.0 h.1) in
      omega (arith, w.above)

  -- a request that passes 1 to 4 is granted where a node of its order has a free page
  pub granted_with_room : (j k : ℕ) → Passes m t j k → (s : Try) → s ∈ order_of m t j k → (q : ℕ) → FreePage m.page_counts t.ledger s.node q
      → (n : ℕ) × (g : ℕ) × ((step m t (request j k)).answer ≡ granted n g)
  granted_with_room j k p s h q f = go (searched m t j k p)
    where
      go : Searched m t j k → (n : ℕ) × (g : ℕ) × ((step m t (request j k)).answer ≡ granted n g)
      go (nowhere c e) = absurd (((room j k).0 e).1 s h q f)
      go (wrongly x c r e) = absurd (request_never_14 j k e)
      go (served x c r e) = (_, _, e)

  -- the search takes the first node in an order with a free page
  pub chosen_first : (ts : List Try) → chosen t.free ts ≡ first_with_room m.page_counts t.ledger ts
  chosen_first ts = ap (λ (f : List ℕ). chosen f ts) a ∙ chosen_with_room m.page_counts t.ledger ts

  -- "The first node in the order with a free page grants"
  pub granted_first : {j k n p : ℕ} (g : Granted m t j k n p) → first_with_room m.page_counts t.ledger (order_of m t j k) ≡ some g.served
  unfolding chosen
  granted_first {j} {k} g = sym (chosen_first (order_of m t j k)) ∙ keep_first g.first_counted

  -- every node tried before the one that serves had no free page
  pub earlier_full : {j k n p : ℕ} (g : Granted m t j k n p) {s : Try} → s ∈ g.first_counted.before
      → (q : ℕ) → FreePage m.page_counts t.ledger s.node q → ⊥
  earlier_full g {s} h = (no_room m.page_counts t.ledger s.node).0 (sym (counted_as s.node) ∙ g.first_counted.failed s h)
