-- M-103: what its sentences say of the calls, on any tables.
-- Assumes nothing.
use Prim.Native.Nat.{ℕ, ◌≤◌, ◌<◌}
use mathlib.Core.Path.{◌≡◌, refl, sym, ap, ◌∙◌}
use mathlib.Core.Logic.{◌↔◌, ◌⊎◌, inl, inr, ◌≢◌}
use mathlib.Core.Bool.{Bool, true, false, not, ◌&&◌}
use mathlib.Core.Option.{Option, none, some}
use mathlib.Core.List.{List, map}
use native.Mathlib.Omega.{arith}
use borrow.Author.Tests.{eqb-true, eq-eqb}
use lib.ListN.{length, length-map}
use Rattle.rules.specs.Machine.{Machine, node_count, node_of_page}
use Rattle.rules.specs.Masks.{most_nodes, bit, has, both, is_empty}
use Rattle.rules.specs.Records.{Policy, Record, record_at, well_formed}
use Rattle.rules.specs.Maps.{map_size, no_node, map_bytes, nodes_in, bytes_for, is_in, good_nodes, good_map, set_of, system_node, keeps_of, Sublist}
use Rattle.rules.specs.SearchOrder.{Try, has_room, chosen}
use Rattle.rules.specs.Decisions.{Decision, refuse, accept, unless}
use Rattle.rules.specs.Calls.{granted, released, done, refused, Tables, Change, after_stores, after_remaps, applied, mapping, map_of}
use Rattle.rules.specs.Calls.{is_job, is_cpu, request_tables_ok, release_tables_ok, mapped_tables_ok, is_mapped, policy_known, install_fits}
use Rattle.rules.specs.Calls.{holds, count_fits, admitted, limit_of, order_of, serve, request_decision, release_decision, install_decision}
use Rattle.rules.specs.Calls.{keep_decision, set_map_decision}
use Rattle.rules.specs.Book.{Call, request, release, install, keep_nodes, set_map, decision, step}
use Rattle.rules.proofs.AsBefore.{in_chain}
use Rattle.rules.proofs.Calls.{keepings, set_maps, accepted_is, not_refused, granted_is, granted_in_node, released_is}
use Rattle.rules.proofs.Decisions.{not_accepted, passed_to}
use Rattle.rules.proofs.InOrder.{mapped_map}
use Rattle.rules.proofs.Kept.{mapped_nodes}
use Rattle.rules.proofs.Lists.{fails, both_true}
use Rattle.rules.proofs.Maps.{set_in, in_set, named, not_named, GoodNodes, good_parts, map_nodes, kept_sublist, sublist_in, kept_good}
use Rattle.rules.proofs.Maps.{map_same, map_other, bytes_nodes, bytes_good}
use Rattle.rules.proofs.Masks.{bit_and_lem, both_has, below_width, mask_of_lt}

-- ---- answers

-- "the map is a second limit beside the allowed set", "answers back": page p lies in an allowed node, which application node a names
pub record InMap (m : Machine) (t : Tables) (j a p : ℕ) : Type 0 where
  pub allowed : has (record_at t.records j).allowed (node_of_page m.page_counts p) ≡ true
  pub entry : a < length (map_of t j)
  pub names : system_node (map_of t j) a ≡ node_of_page m.page_counts p

-- a granted page lies in an allowed node of the map, and the answered number names it
pub granted_in_map : (m : Machine) (t : Tables) (j k : ℕ) {a p : ℕ} → (step m t (request j k)).answer ≡ granted a p → InMap m t j a p
unfolding limit_of
granted_in_map m t j k {a} {p} e =
    let g = granted_is m t j k e in
    let limits = both_has (record_at t.records j).allowed (set_of (map_of t j)) g.node g.grant.allowed in
    let here = named 0 (map_of t j) g.node (set_in (map_of t j) g.node limits.1) in
    let node : node_of_page m.page_counts p ≡ g.node = granted_in_node g.grant in
    let same : a ≡ here.entry = omega (arith, here.number, g.named) in
    record { allowed = rw node limits.0; entry = rw same here.below_end; names = rw (same, node) here.names }

-- "answers back", "A released page outside the map answers node FF": the answered number names the page's node, or is FF
pub released_told : (m : Machine) (t : Tables) (j p : ℕ) {a q : ℕ} → (step m t (release j p)).answer ≡ released a q
    → ((a < length (map_of t j)) × (system_node (map_of t j) a ≡ node_of_page m.page_counts q))
    ⊎ ((a ≡ no_node) × (is_in (map_of t j) (node_of_page m.page_counts q) ≡ false))
released_told m t j p {a} {q} e = go (is_in nodes node) refl
  where
    nodes : List ℕ
    nodes = map_of t j

    node : ℕ
    node = node_of_page m.page_counts q

    go : (b : Bool) → is_in nodes node ≡ b → ((a < length nodes) × (system_node nodes a ≡ node)) ⊎ ((a ≡ no_node) × (is_in nodes node ≡ false))
    go true h =
        let here = named 0 nodes node h in
        let same : a ≡ here.entry = omega (arith, here.number, (released_is m t j p e).named) in
        inl (rw same here.below_end, rw same here.names)
    go false h = inr (sym (released_is m t j p e).named ∙ not_named 0 nodes node h, h)

-- ---- refusal 15

-- a call's answer is a refusal exactly when its tests come to it
refused_by : (m : Machine) (t : Tables) (c : Call) (r : ℕ) → ((step m t c).answer ≡ refused r) ↔ (decision m t c ≡ refuse r)
unfolding step applied
refused_by m t c r = (λ e. go (decision m t c) refl e, λ e. rw e refl)
  where
    go : (d : Decision Change) → decision m t c ≡ d → (applied t d).answer ≡ refused r → d ≡ refuse r
    go (refuse q) f e = let same : q ≡ r = cc in ap refuse same
    go (accept x) f e = absurd (not_refused (accepted_is m t c f) r e)

module _ {A : Type 0} where
  -- a decision that does not come to refusal 15
  Never15 : Decision A → Type 0
  Never15 d = d ≡ refuse 15 → ⊥

  -- a test with another number, and then such a decision
  never_15 : (b : Bool) (r : ℕ) (d : Decision A) → r ≢ 15 → Never15 d → Never15 (unless b r d)
  unfolding Never15
  never_15 b r d ne h e = h (passed_to b r d e ne).1

  -- an acceptance is one
  accepted_never : (x : A) → Never15 (accept x)
  unfolding Never15
  accepted_never x e = not_accepted 15 _ e refl

  -- "right after 2": tests 1, 2 and 15, and no later test is 15
  third_is_15 : (a b c : Bool) (d : Decision A) → Never15 d
      → (unless a 1 (unless b 2 (unless c 15 d)) ≡ refuse 15) ↔ ((a ≡ true) × (b ≡ true) × (c ≡ false))
  unfolding Never15
  third_is_15 a b c d never = (λ e. there e, λ h. rw (h.0, h.1, h.2) refl)
    where
      last : (c : Bool) → unless c 15 d ≡ refuse 15 → c ≡ false
      last true e = absurd (never e)
      last false e = refl

      there : unless a 1 (unless b 2 (unless c 15 d)) ≡ refuse 15 → (a ≡ true) × (b ≡ true) × (c ≡ false)
      there e =
          let f = passed_to a 1 _ e (λ y. omega arith) in
          let g = passed_to b 2 _ f.1 (λ y. omega arith) in
          (f.0, g.0, last c g.1)

module _ (m : Machine) (t : Tables) (j : ℕ) where
  -- the search refuses with 8 or 14 only
  served_never : (o : Option Try) → Never15 (serve m.page_counts t j o)
  unfolding serve Never15
  served_never none e = let z : ◌≡◌ {A = ℕ} 8 15 = cc in omega arith
  served_never (some s) e = never_15 (has_room m.page_counts t.ledger s.node) 14 _ (λ y. omega arith) (accepted_never _) e

  -- "is refused 15, right after 2 in request": exactly when the request passes 1 and 2 and its job's map is bad
  pub request_15 : (k : ℕ) → ((step m t (request j k)).answer ≡ refused 15)
      ↔ ((request_tables_ok m t ≡ true) × (is_job t.records j ≡ true) × (is_mapped (node_count m) t j ≡ false))
  unfolding decision request_decision admitted
  request_15 k = (λ e. chain.0 (sym tests ∙ (refused_by m t (request j k) 15).0 e), λ h. (refused_by m t (request j k) 15).1 (tests ∙ chain.1 h))
    where
      formed : Bool
      formed = well_formed (node_count m) (record_at t.records j)

      search : Record → Decision Change
      search r = serve m.page_counts t j (chosen t.free (order_of m t j k))

      later : Decision Change
      later = unless (is_cpu m.cpu_nodes k) 3 (unless formed 4 (search (record_at t.records j)))

      later_never : Never15 later
      later_never =
          never_15 (is_cpu m.cpu_nodes k) 3 _ (λ y. omega arith)
          (never_15 formed 4 _ (λ y. omega arith) (served_never (chosen t.free (order_of m t j k))))

      tests : request_decision m t j k ≡ unless (request_tables_ok m t) 1 (unless (is_job t.records j) 2 (unless (is_mapped (node_count m) t j) 15 later))
      tests =
          in_chain (request_tables_ok m t) (is_job t.records j) (is_mapped (node_count m) t j) (is_cpu m.cpu_nodes k) formed (record_at t.records j) search

      chain : (unless (request_tables_ok m t) 1 (unless (is_job t.records j) 2 (unless (is_mapped (node_count m) t j) 15 later)) ≡ refuse 15)
          ↔ ((request_tables_ok m t ≡ true) × (is_job t.records j ≡ true) × (is_mapped (node_count m) t j ≡ false))
      chain = third_is_15 (request_tables_ok m t) (is_job t.records j) (is_mapped (node_count m) t j) later later_never

  -- ".. release": likewise
  pub release_15 : (p : ℕ) → ((step m t (release j p)).answer ≡ refused 15)
      ↔ ((release_tables_ok m.page_counts t ≡ true) × (is_job t.records j ≡ true) × (is_mapped (node_count m) t j ≡ false))
  unfolding decision release_decision
  release_15 p = (λ e. chain.0 ((refused_by m t (release j p) 15).0 e), λ h. (refused_by m t (release j p) 15).1 (chain.1 h))
    where
      chain : (release_decision m.page_counts t j p ≡ refuse 15)
          ↔ ((release_tables_ok m.page_counts t ≡ true) × (is_job t.records j ≡ true) × (is_mapped (node_count m) t j ≡ false))
      chain =
          third_is_15 (release_tables_ok m.page_counts t) (is_job t.records j) (is_mapped (node_count m) t j) _
          (never_15 (holds m.page_counts t.ledger j p) 10 _ (λ y. omega arith)
          (never_15 (count_fits m.page_counts t.free (node_of_page m.page_counts p)) 14 _ (λ y. omega arith) (accepted_never _)))

  -- ".. and install": likewise
  pub install_15 : (p : Policy) → ((step m t (install j p)).answer ≡ refused 15)
      ↔ ((mapped_tables_ok (node_count m) (length t.records) (length t.maps) ≡ true) × (is_job t.records j ≡ true) × (is_mapped (node_count m) t j ≡ false))
  unfolding decision install_decision
  install_15 p = (λ e. chain.0 ((refused_by m t (install j p) 15).0 e), λ h. (refused_by m t (install j p) 15).1 (chain.1 h))
    where
      allowed : ℕ
      allowed = (record_at t.records j).allowed

      chain : (install_decision (node_count m) t j p ≡ refuse 15)
          ↔ ((mapped_tables_ok (node_count m) (length t.records) (length t.maps) ≡ true) × (is_job t.records j ≡ true)
          × (is_mapped (node_count m) t j ≡ false))
      chain =
          third_is_15 (mapped_tables_ok (node_count m) (length t.records) (length t.maps)) (is_job t.records j) (is_mapped (node_count m) t j) _
          (never_15 (well_formed (node_count m) (record_at t.records j)) 4 _ (λ y. omega arith)
          (never_15 (policy_known p) 5 _ (λ y. omega arith)
          (never_15 (not (is_empty allowed)) 7 _ (λ y. omega arith)
          (never_15 (install_fits (node_count m) (map_of t j) allowed p) 6 _ (λ y. omega arith) (accepted_never _)))))

  -- "it lists the application nodes it keeps of a good map, one or more, rising, else 15"
  pub keep_15 : (kept : List ℕ) → ((step m t (keep_nodes j kept)).answer ≡ refused 15)
      ↔ ((mapped_tables_ok (node_count m) (length t.records) (length t.maps) ≡ true) × (is_job t.records j ≡ true)
      × ((is_mapped (node_count m) t j && keeps_of (map_of t j) kept) ≡ false))
  unfolding decision keep_decision
  keep_15 kept = (λ e. chain.0 ((refused_by m t (keep_nodes j kept) 15).0 e), λ h. (refused_by m t (keep_nodes j kept) 15).1 (chain.1 h))
    where
      keeps : Bool
      keeps = is_mapped (node_count m) t j && keeps_of (map_of t j) kept

      chain : (keep_decision (node_count m) t j kept ≡ refuse 15)
          ↔ ((mapped_tables_ok (node_count m) (length t.records) (length t.maps) ≡ true) × (is_job t.records j ≡ true) × (keeps ≡ false))
      chain = third_is_15 (mapped_tables_ok (node_count m) (length t.records) (length t.maps)) (is_job t.records j) keeps _ (accepted_never _)

  -- "the administrator's sets any good list of system nodes, else 15"
  pub set_15 : (nodes : List ℕ) → ((step m t (set_map j nodes)).answer ≡ refused 15)
      ↔ ((mapped_tables_ok (node_count m) (length t.records) (length t.maps) ≡ true) × (is_job t.records j ≡ true)
      × (good_nodes (node_count m) nodes ≡ false))
  unfolding decision set_map_decision
  set_15 nodes = (λ e. chain.0 ((refused_by m t (set_map j nodes) 15).0 e), λ h. (refused_by m t (set_map j nodes) 15).1 (chain.1 h))
    where
      chain : (set_map_decision (node_count m) t j nodes ≡ refuse 15)
          ↔ ((mapped_tables_ok (node_count m) (length t.records) (length t.maps) ≡ true) × (is_job t.records j ≡ true)
          × (good_nodes (node_count m) nodes ≡ false))
      chain =
          third_is_15 (mapped_tables_ok (node_count m) (length t.records) (length t.maps)) (is_job t.records j) (good_nodes (node_count m) nodes) _
          (accepted_never _)

-- ---- the two calls that set a map

-- what a set map leaves for its job: the bytes for its nodes
bytes_after : (n : ℕ) (t : Tables) (j : ℕ) (nodes : List ℕ) → mapped_tables_ok n (length t.records) (length t.maps) ≡ true
    → is_job t.records j ≡ true → GoodNodes n nodes
    → map_bytes (applied t (accept (mapping j nodes))).tables.maps j ≡ bytes_for nodes
unfolding applied after_remaps
bytes_after n t j nodes ok job good =
    map_same t.maps j nodes (mapped_map n _ _ j ok job) good.few

-- and so its map has these nodes
nodes_after : (n : ℕ) (t : Tables) (j : ℕ) (nodes : List ℕ) → mapped_tables_ok n (length t.records) (length t.maps) ≡ true
    → is_job t.records j ≡ true → GoodNodes n nodes
    → map_of (applied t (accept (mapping j nodes))).tables j ≡ nodes
unfolding map_of
nodes_after n t j nodes ok job good =
    ap nodes_in (bytes_after n t j nodes ok job good) ∙ bytes_nodes n nodes (mapped_nodes n (length t.records) (length t.maps) ok).1 good

-- what the tenant's call leaves is good
kept_nodes : (n : ℕ) (t : Tables) (j : ℕ) (kept : List ℕ) → is_mapped n t j ≡ true → keeps_of (map_of t j) kept ≡ true
    → GoodNodes n (map (system_node (map_of t j)) kept)
unfolding is_mapped map_of
kept_nodes n t j kept mapped keeps = kept_good n (map_of t j) kept (map_nodes n (map_bytes t.maps j) mapped) keeps

-- a map with some nodes less, and the same allowed set: no node more
limit_shrinks : (t u : Tables) (j n : ℕ) → (record_at u.records j).allowed ≡ (record_at t.records j).allowed → Sublist (map_of u j) (map_of t j)
    → has (limit_of u j) n ≡ true → has (limit_of t j) n ≡ true
unfolding limit_of set_of
limit_shrinks t u j n same part h =
    let limits = both_has (record_at u.records j).allowed (set_of (map_of u j)) n h in
    let small = below_width most_nodes (set_of (map_of u j)) n (mask_of_lt most_nodes (is_in (map_of u j))) (eqb-true _ 1 limits.1) in
    let inside = in_set (map_of t j) n small (sublist_in part n (set_in (map_of u j) n limits.1)) in
    both_in (record_at t.records j).allowed (set_of (map_of t j)) (rw (sym same) limits.0) inside
  where
    both_in : (a b : ℕ) → has a n ≡ true → has b n ≡ true → has (both a b) n ≡ true
    both_in a b p q =
        let one = eqb-true (bit a n) 1 p in
        let two = eqb-true (bit b n) 1 q in
        eq-eqb (bit (both a b) n) 1 (bit_and_lem a b n ∙ omega arith)

module _ (m : Machine) (t : Tables) (j : ℕ) where
  -- an accepted call of the tenant's leaves a part of the map, in its order
  keep_leaves : (kept : List ℕ) {x : Change} → keep_decision (node_count m) t j kept ≡ accept x
      → Sublist (map_of (applied t (accept x)).tables j) (map_of t j)
  keep_leaves kept e =
      let k = keepings (node_count m) t j kept e in
      let good = kept_nodes (node_count m) t j kept k.0.mapped k.0.keeps in
      rw (k.1, nodes_after (node_count m) t j (map (system_node (map_of t j)) kept) k.0.tables_ok k.0.job good)
      (kept_sublist (map_of t j) kept k.0.keeps)

  -- "The tenant's call may only drop nodes"
  pub keep_drops : (kept : List ℕ) → (step m t (keep_nodes j kept)).answer ≡ done
      → Sublist (map_of (step m t (keep_nodes j kept)).tables j) (map_of t j)
  unfolding step decision applied
  keep_drops kept e = go (keep_decision (node_count m) t j kept) refl e
    where
      go : (d : Decision Change) → keep_decision (node_count m) t j kept ≡ d → (applied t d).answer ≡ done
          → Sublist (map_of (applied t d).tables j) (map_of t j)
      go (refuse r) f e = absurd (let z : ◌≡◌ {A = ℕ} 0 1 = cc in omega arith)
      go (accept x) f e = keep_leaves kept f

  -- and so gives the job no node that it could not get before, whatever the answer
  pub keep_adds_none : (kept : List ℕ) (n : ℕ) → has (limit_of (step m t (keep_nodes j kept)).tables j) n ≡ true → has (limit_of t j) n ≡ true
  unfolding step decision applied after_stores
  keep_adds_none kept n h = go (keep_decision (node_count m) t j kept) refl h
    where
      go : (d : Decision Change) → keep_decision (node_count m) t j kept ≡ d → has (limit_of (applied t d).tables j) n ≡ true → has (limit_of t j) n ≡ true
      go (refuse r) f h = h
      go (accept x) f h =
          limit_shrinks t (applied t (accept x)).tables j n (rw (keepings (node_count m) t j kept f).1 refl) (keep_leaves kept f) h

  -- "the administrator's sets any good list of system nodes": the job's map has these, and is good
  pub map_set : (nodes : List ℕ) → (step m t (set_map j nodes)).answer ≡ done
      → (map_of (step m t (set_map j nodes)).tables j ≡ nodes) × (is_mapped (node_count m) (step m t (set_map j nodes)).tables j ≡ true)
  unfolding step decision applied is_mapped
  map_set nodes e = go (set_map_decision (node_count m) t j nodes) refl e
    where
      go : (d : Decision Change) → set_map_decision (node_count m) t j nodes ≡ d → (applied t d).answer ≡ done
          → (map_of (applied t d).tables j ≡ nodes) × (is_mapped (node_count m) (applied t d).tables j ≡ true)
      go (refuse r) f e = absurd (let z : ◌≡◌ {A = ℕ} 0 1 = cc in omega arith)
      go (accept x) f e =
          let s = set_maps (node_count m) t j nodes f in
          let good = good_parts (node_count m) nodes s.0.good in
          rw s.1 (
            nodes_after (node_count m) t j nodes s.0.tables_ok s.0.job good,
            ap (good_map (node_count m)) (bytes_after (node_count m) t j nodes s.0.tables_ok s.0.job good)
                ∙ bytes_good (node_count m) nodes (mapped_nodes (node_count m) (length t.records) (length t.maps) s.0.tables_ok).1 good,
          )

  -- a map that is set leaves every other job's
  set_leaves_others : (nodes : List ℕ) → length nodes ≤ map_size → (i : ℕ) → i ≢ j
      → map_bytes (applied t (accept (mapping j nodes))).tables.maps i ≡ map_bytes t.maps i
  unfolding applied after_remaps
  set_leaves_others nodes few i ne = map_other t.maps j i nodes (λ e. ne (sym e)) few

  -- "per job": the tenant's call leaves every other job's map
  pub others_stay_kept : (kept : List ℕ) (i : ℕ) → i ≢ j → map_bytes (step m t (keep_nodes j kept)).tables.maps i ≡ map_bytes t.maps i
  unfolding step decision applied
  others_stay_kept kept i ne = go (keep_decision (node_count m) t j kept) refl
    where
      go : (d : Decision Change) → keep_decision (node_count m) t j kept ≡ d → map_bytes (applied t d).tables.maps i ≡ map_bytes t.maps i
      go (refuse r) f = refl
      go (accept x) f =
          let k = keepings (node_count m) t j kept f in
          rw k.1 (set_leaves_others _ (kept_nodes (node_count m) t j kept k.0.mapped k.0.keeps).few i ne)

  -- and the administrator's
  pub others_stay_set : (nodes : List ℕ) (i : ℕ) → i ≢ j → map_bytes (step m t (set_map j nodes)).tables.maps i ≡ map_bytes t.maps i
  unfolding step decision applied
  others_stay_set nodes i ne = go (set_map_decision (node_count m) t j nodes) refl
    where
      go : (d : Decision Change) → set_map_decision (node_count m) t j nodes ≡ d → map_bytes (applied t d).tables.maps i ≡ map_bytes t.maps i
      go (refuse r) f = refl
      go (accept x) f =
          let s = set_maps (node_count m) t j nodes f in
          rw s.1 (set_leaves_others nodes (good_parts (node_count m) nodes s.0.good).few i ne)

-- ---- lists that are too long for a map

-- neither the administrator's list has more nodes than a map has entries
pub long_list : (n : ℕ) (nodes : List ℕ) → map_size < length nodes → good_nodes n nodes ≡ false
long_list n nodes l = fails (λ g. let few = (good_parts n nodes g).few in omega arith)

-- nor the tenant's
pub long_kept : (n : ℕ) (t : Tables) (j : ℕ) (kept : List ℕ) → map_size < length kept → (is_mapped n t j && keeps_of (map_of t j) kept) ≡ false
unfolding is_mapped map_of
long_kept n t j kept l =
    fails (λ e.
    let a = both_true {a = is_mapped n t j} e in
    let few = (kept_good n (map_of t j) kept (map_nodes n (map_bytes t.maps j) a.0) a.1).few in
    let same = length-map kept (system_node (map_of t j)) in
    omega arith)
