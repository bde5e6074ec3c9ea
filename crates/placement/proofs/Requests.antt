-- A request on tables that are in order: what its search may count on, and what the rules say once it is served.
-- Assumes nothing.
use Prim.Native.Nat.{ℕ, ◌+◌, ◌*◌, ◌≤◌}
use mathlib.Core.Path.{◌≡◌, refl, sym, ap, ◌∙◌}
use mathlib.Core.Bool.{true, false, ◌&&◌}
use mathlib.Core.List.{List}
use native.Mathlib.Nat.{lt_of_le_of_lt}
use native.Mathlib.Omega.{arith}
use borrow.Author.Tests.{ltb-true}
use lib.Bits.{and_le_l}
use lib.ListN.{length}
use Rattle.rules.specs.Machine.{Machine, node_count, nodes_ok, pages_ok, cpus_ok, distances_ok, machine_ok, node_of_cpu}
use Rattle.rules.specs.Records.{Record, record_at}
use Rattle.rules.specs.Maps.{map_size, map_bytes, good_map, set_of}
use Rattle.rules.specs.SearchOrder.{plan, order, chosen}
use Rattle.rules.specs.Decisions.{Decision, refuse, accept}
use Rattle.rules.specs.Calls.{refused, Tables, Change, Outcome, outcome, applied, map_of, is_job, is_mapped, request_tables_ok, release_tables_ok}
use Rattle.rules.specs.Calls.{admitted, limit_of, order_of, serve, request_decision, release_decision, on_request, on_release}
use Rattle.rules.proofs.Admission.{Passes, admitted_passes, passes_admitted, accepted}
use Rattle.rules.proofs.Calls.{releases}
use Rattle.rules.proofs.Lists.{both_true}
use Rattle.rules.proofs.Machine.{in_order}
use Rattle.rules.proofs.WellFormed.{formed}
use Rattle.machine.specs.Tables.{Starts}
use Rattle.placement.specs.Admissions.{admit_tests}
use Rattle.placement.specs.Searches.{Searchable}
use Rattle.placement.specs.Grants.{Ready}
use Rattle.placement.specs.Hints.{Hints}
use Rattle.placement.specs.Placed.{placed_as, HasMap}
use Rattle.placement.specs.declared.placed.Placed.{Placed}
use Rattle.placement.specs.declared.placed.Placed.TheVariants.{Granted, Released}
use Rattle.rules.specs.declared.Refusal.{Refusal}
use Rattle.std.specs.Prelude.{Result, Ok, Err}
use Rattle.rules.proofs.InOrder.{machine_ok_lem, release_ok, fresh_ok, jobs_ok_lem, job_map, pages_in_order_lem}
use Rattle.placement.proofs.InOrder.{ready}

table_ok_lem : (m : Machine) → machine_ok m ≡ true → distances_ok (node_count m) m.distances ≡ true
unfolding machine_ok
table_ok_lem m h = (both_true {a = nodes_ok (node_count m) && pages_ok m.page_counts && cpus_ok (node_count m) m.cpu_nodes} h).1

-- what is answered by a refusal is one
refused_map : (nodes : List ℕ) (bytes j : ℕ) {q : ℕ} (r : Result Placed Refusal) → placed_as nodes r ≡ refused q → HasMap bytes j r
refused_map nodes bytes j (Ok (Granted n p)) e = absurd (let z : ◌≡◌ {A = ℕ} 0 1 = cc in omega arith)
refused_map nodes bytes j (Ok (Released n p)) e = absurd (let z : ◌≡◌ {A = ℕ} 0 1 = cc in omega arith)
refused_map nodes bytes j (Err why) e = tt

mapped : (bytes j : ℕ) (r : Result Placed Refusal) → map_size * j + map_size ≤ bytes → HasMap bytes j r
mapped bytes j (Ok (Granted n p)) h = h
mapped bytes j (Ok (Released n p)) h = h
mapped bytes j (Err why) h = tt

module _ (m : Machine) (t : Tables) (j k : ℕ) where
  -- a request that is let through passes its tests, and goes by the job's record
  pub let_through : {r : Record} → accept r ≡ admitted m t j k → Passes m t j k × (r ≡ record_at t.records j)
  let_through {r} e =
      let p = admitted_passes m t j k (sym e) in
      let q : accept r ≡ accept (record_at t.records j) = e ∙ passes_admitted m t j k p in
      (p, cc)

  -- with the job there and its map good, the other tests are left
  pub admit_good : request_tables_ok m t ≡ true → is_job t.records j ≡ true → good_map (node_count m) (map_bytes t.maps j) ≡ true
      → admitted m t j k ≡ admit_tests (node_count m) (length m.cpu_nodes) k (record_at t.records j)
  unfolding admitted is_mapped
  admit_good ok job good = rw (ok, job, good)

  -- with a bad one it is 15
  pub admit_bad : request_tables_ok m t ≡ true → is_job t.records j ≡ true → good_map (node_count m) (map_bytes t.maps j) ≡ false
      → admitted m t j k ≡ refuse 15
  unfolding admitted is_mapped
  admit_bad ok job bad = rw (ok, job, bad)

  -- it may be served
  pub searchable : {starts hints : List ℕ} {r : Record} {limit : ℕ} → limit ≡ limit_of t j → Passes m t j k × (r ≡ record_at t.records j)
      → Starts m.page_counts starts
      → Hints m.page_counts t.ledger hints
      → Ready m.page_counts starts t.ledger j × (is_job t.records j ≡ true) × (length t.free ≡ node_count m)
      × Searchable t.free m.distances limit r (node_of_cpu m.cpu_nodes k)
      × Hints m.page_counts t.ledger hints
  unfolding limit_of
  searchable l (p, q) begin hints =
      let ok = machine_ok_lem m t p.tables_ok in
      let i = in_order m ok in
      let f = (pages_in_order_lem m.page_counts _ _ (fresh_ok m.page_counts t (release_ok m t p.tables_ok))).one_each in (
        ready m.page_counts t j (release_ok m t p.tables_ok) p.job begin,
        p.job,
        f,
        record {
          table = rw f (table_ok_lem m ok);
          plannable = rw f (record {
            few = i.counts.nodes_most;
            limit_below = rw l (lt_of_le_of_lt (and_le_l (record_at t.records j).allowed (set_of (map_of t j))) (formed _ _ p.formed).allowed_below);
            from_node = i.cpu_node k (ltb-true k (length m.cpu_nodes) p.cpu);
            formed = rw q p.formed;
          });
        },
        hints,
      )

  -- one of the tests refuses
  pub request_refused : {n : ℕ} → refuse n ≡ admitted m t j k → outcome (refused n) t ≡ on_request m t j k
  unfolding on_request request_decision applied
  request_refused e = rw (sym e)

  -- the tests pass: the search of the job's order serves
  pub request_served : {r : Record} {limit : ℕ} {o : Outcome} → accept r ≡ admitted m t j k → limit ≡ limit_of t j
      → (let tries = order (node_count m) m.distances limit (plan limit r (node_of_cpu m.cpu_nodes k)) in
      o ≡ applied t (serve m.page_counts t j (chosen t.free tries)))
      → o ≡ on_request m t j k
  unfolding on_request request_decision order_of
  request_served e l h = rw (sym e) (rw ((let_through e).1, l) at h)

  -- a job whose request was not refused has a map
  pub request_map : (nodes : List ℕ) {after : Tables} (r : Result Placed Refusal) → request_tables_ok m t ≡ true
      → outcome (placed_as nodes r) after ≡ on_request m t j k → HasMap (length t.maps) j r
  unfolding on_request applied
  request_map nodes {after} r ok e = go (request_decision m t j k) refl e
    where
      go : (d : Decision Change) → request_decision m t j k ≡ d → outcome (placed_as nodes r) after ≡ applied t d → HasMap (length t.maps) j r
      go (refuse q) f e = refused_map nodes (length t.maps) j r (ap (λ (o : Outcome). o.answer) e)
      go (accept x) f e =
          let fits = job_map _ (length t.maps) j (jobs_ok_lem m.page_counts t (release_ok m t ok)) (accepted m t j k f).0.job in
          mapped (length t.maps) j r fits

-- and so has one whose release was not
pub release_map : (counts : List ℕ) (t : Tables) (j p : ℕ) (nodes : List ℕ) {after : Tables} (r : Result Placed Refusal) → release_tables_ok counts t ≡ true
    → outcome (placed_as nodes r) after ≡ on_release counts t j p → HasMap (length t.maps) j r
unfolding on_release applied
release_map counts t j p nodes {after} r ok e = go (release_decision counts t j p) refl e
  where
    go : (d : Decision Change) → release_decision counts t j p ≡ d → outcome (placed_as nodes r) after ≡ applied t d → HasMap (length t.maps) j r
    go (refuse q) f e = refused_map nodes (length t.maps) j r (ap (λ (o : Outcome). o.answer) e)
    go (accept x) f e = mapped (length t.maps) j r (job_map _ (length t.maps) j (jobs_ok_lem counts t ok) (releases counts t j p f).0.job)
