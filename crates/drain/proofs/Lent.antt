-- Refusals 1, 6 and 14: what tables in order give, the order that is listed, and how the tests follow one another.
-- Assumes nothing.
use Prim.Native.Nat.{ℕ, zero, suc, ◌-◌, ◌*◌, ◌≤◌, ◌<◌}
use mathlib.Core.Path.{◌≡◌, refl, sym, ap, ◌∙◌}
use mathlib.Core.Bool.{Bool, true, false, ◌&&◌, true≢false}
use mathlib.Core.List.{List, [], ◌∷◌, ◌++◌}
use native.Mathlib.Omega.{arith}
use borrow.Author.Tests.{eqb-true, lt-ltb, le-ltb}
use lib.Dec.{leb}
use lib.ListN.{length, take, drop}
use Rattle.rules.specs.Machine.{Machine, node_count, nodes_ok, pages_ok, cpus_ok, distance_ok, distances_ok, machine_ok, page_table_ok}
use Rattle.rules.specs.Basics.{all_at, sum}
use Rattle.rules.specs.Masks.{all_nodes}
use Rattle.rules.specs.SearchOrder.{near, free_counts}
use Rattle.rules.specs.Decisions.{Decision, refuse, accept, then, decided}
use Rattle.rules.specs.Calls.{Answer, drained, refused, outcome, request_tables_ok}
use Rattle.rules.specs.Calls.{Tables, applied, free_ok, jobs_ok, fresh_tables_ok, mapped_tables_ok}
use Rattle.rules.specs.Drain.{Move, draining, pairs, drain_tables_ok, counts_match, moves_within, drain_moves, drain_decision, did_drain, on_drain}
use Rattle.rules.proofs.Calls.{drain_moves_lem}
use Rattle.rules.proofs.Lists.{both_true, both_hold, same_lists}
use Rattle.rules.proofs.InOrder.{drain_fresh_ok, pages_in_order_lem}
use Rattle.machine.specs.Tables.{Starts}
use Rattle.machine.specs.Listing.{Listed}
use Rattle.placement.specs.Grants.{Paged}
use Rattle.placement.proofs.Grants.{node_end}
use Rattle.drain.specs.Goals.{near_others}
use Rattle.drain.specs.Outcomes.{count_of, tables_after, pairs_after}
use Rattle.drain.proofs.Reached.{moves_count}
use Rattle.drain.specs.Reached.{Drainable}
use Rattle.drain.proofs.Targets.{near_others_lem, others_ordered}

-- ---- tables that are in order

module _ (counts distances : List ℕ) (t : Tables) (ok : drain_tables_ok counts distances t ≡ true) where
  -- the distances
  pub distances_are : distances_ok (length counts) distances ≡ true
  unfolding drain_tables_ok
  distances_are =
      let fresh = fresh_tables_ok counts (length t.ledger) (length t.free) in
      let both = both_true {a = fresh && distances_ok (length counts) distances} {b = jobs_ok (length t.records) (length t.maps)} ok in
      (both_true {a = fresh} {b = distances_ok (length counts) distances} both.0).1

  pub distances_long : length distances ≡ length counts * length counts
  unfolding distances_ok
  distances_long = eqb-true _ _ (both_true {b = all_at (distance_ok (length counts)) 0 distances} distances_are).0

  -- job table and maps
  pub mapped_are : mapped_tables_ok (length counts) (length t.records) (length t.maps) ≡ true
  unfolding drain_tables_ok mapped_tables_ok fresh_tables_ok
  mapped_are =
      let fresh = fresh_tables_ok counts (length t.ledger) (length t.free) in
      let jobs = jobs_ok (length t.records) (length t.maps) in
      let nodes = nodes_ok (length counts) in
      let pages = page_table_ok counts (length t.ledger) in
      let b = both_true {a = fresh && distances_ok (length counts) distances} {b = jobs} ok in
      let f = both_true {a = nodes && pages_ok counts && pages} {b = free_ok (length counts) (length t.free)} (drain_fresh_ok counts distances t ok) in
      both_hold (both_true {a = nodes} {b = pages_ok counts} (both_true {a = nodes && pages_ok counts} {b = pages} f.0).0).0 b.1

  -- and pages
  pub paged_are : {starts : List ℕ} → Starts counts starts → Paged counts starts t.ledger
  paged_are s =
      let o = pages_in_order_lem counts _ _ (drain_fresh_ok counts distances t ok) in
      record { few = o.counts_ok_lem.nodes_most; pages = o.counts_ok_lem.pages_most; begin = s; fits = o.fits }

  -- a count for each node
  pub counts_are : length t.free ≡ length counts
  counts_are = (pages_in_order_lem counts _ _ (drain_fresh_ok counts distances t ok)).one_each

  -- with counts that match, the pages of x may be gone through, by the other nodes
  pub drainable_lem : {starts order : List ℕ} {x : ℕ} → Starts counts starts → x < length counts → counts_match counts t ≡ true
      → order ≡ near_others (length counts) distances x → Drainable counts starts x order t.ledger t.free
  unfolding counts_match
  drainable_lem {x = x} s l e o = record {
    paged = paged_are s;
    ordered = rw o (others_ordered (length counts) distances t.free x (paged_are s).few l counts_are);
    matches = same_lists t.free (free_counts counts t.ledger) e;
  }

  -- ---- the tests in their order

  module _ (x room : ℕ) where
    pub moves_6 : length counts ≤ x → drain_moves counts distances x t room ≡ refuse 6
    unfolding drain_moves
    moves_6 l = rw (ok, le-ltb x (length counts) l)

    pub moves_14 : x < length counts → counts_match counts t ≡ false → drain_moves counts distances x t room ≡ refuse 14
    unfolding drain_moves
    moves_14 l e = rw (ok, lt-ltb x (length counts) l, e)

    pub moves_on : x < length counts → counts_match counts t ≡ true → drain_moves counts distances x t room ≡ moves_within counts distances x t room
    unfolding drain_moves
    moves_on l e = rw (ok, lt-ltb x (length counts) l, e)

-- 1
pub moves_1 : (counts distances : List ℕ) (t : Tables) (x room : ℕ) → drain_tables_ok counts distances t ≡ false
    → drain_moves counts distances x t room ≡ refuse 1
unfolding drain_moves
moves_1 counts distances t x room e = rw e

-- ---- the order that is listed

-- of no list nothing is taken
nothing : {A : Type 0} (k : ℕ) → take {A = A} k [] ≡ []
nothing zero = refl
nothing (suc k) = refl

-- the first of a list left out, before or after it is cut
drop_take : {A : Type 0} (k : ℕ) (xs : List A) → take (k - 1) (drop 1 xs) ≡ drop 1 (take k xs)
drop_take zero [] = refl
drop_take zero (x ∷ xs) = refl
drop_take (suc k) [] = nothing (suc k - 1)
drop_take (suc k) (x ∷ xs) = let e : suc k - 1 ≡ k = omega arith in ap (λ (i : ℕ). take i xs) e

module _ (n : ℕ) (distances : List ℕ) (x : ℕ) {len : ℕ} {nodes : List ℕ} (l : x < n) (h : Listed nodes len (near n distances (all_nodes n) x)) where
  -- x is listed, and so is at least one
  pub some_listed : 1 ≤ len
  some_listed = go len (h.list ∙ near_others_lem n distances x l)
    where
      go : (k : ℕ) → take k nodes ≡ x ∷ near_others n distances x → 1 ≤ k
      go zero e = absurd (let z : ◌≡◌ {A = ℕ} 0 1 = cc in omega arith)
      go (suc k) e = omega arith

  -- the nodes after it are the others, nearest first
  pub others_listed : take (len - 1) (drop 1 nodes) ≡ near_others n distances x
  unfolding near_others
  others_listed = drop_take len nodes ∙ ap (drop 1) h.list

-- ---- test 1, in the code's order

drain_tests : (nodes pages table entries near jobs : Bool) → (nodes && pages) ≡ true → near ≡ true
    → (table && entries && (nodes && jobs)) ≡ ((nodes && pages && table && entries) && near && jobs)
drain_tests true true true true true jobs a b = refl
drain_tests true true true false true jobs a b = refl
drain_tests true true false entries true jobs a b = refl
drain_tests n p t e false jobs a b = absurd (true≢false (sym b))
drain_tests false p t e true jobs a b = absurd (true≢false (sym a))
drain_tests true false t e true jobs a b = absurd (true≢false (sym a))

no_counts : (nodes pages table entries near jobs : Bool) → (nodes && pages) ≡ false → ((nodes && pages && table && entries) && near && jobs) ≡ false
no_counts true true t e d j a = absurd (true≢false a)
no_counts true false t e d j a = refl
no_counts false p t e d j a = refl

no_distances : (fresh near jobs : Bool) → near ≡ false → (fresh && near && jobs) ≡ false
no_distances true true j a = absurd (true≢false a)
no_distances true false j a = refl
no_distances false near j a = refl

module _ (counts distances : List ℕ) (t : Tables) where
  pub bad_counts : (nodes_ok (length counts) && pages_ok counts) ≡ false → drain_tables_ok counts distances t ≡ false
  unfolding drain_tables_ok fresh_tables_ok
  bad_counts e =
      no_counts (nodes_ok (length counts)) (pages_ok counts) (page_table_ok counts (length t.ledger)) (free_ok (length counts) (length t.free))
      (distances_ok (length counts) distances) (jobs_ok (length t.records) (length t.maps)) e

  pub bad_distances : distances_ok (length counts) distances ≡ false → drain_tables_ok counts distances t ≡ false
  unfolding drain_tables_ok
  bad_distances e =
      no_distances (fresh_tables_ok counts (length t.ledger) (length t.free)) (distances_ok (length counts) distances)
      (jobs_ok (length t.records) (length t.maps)) e

  pub lent_tested : {total : ℕ} → total ≡ sum counts → (nodes_ok (length counts) && pages_ok counts) ≡ true → distances_ok (length counts) distances ≡ true
      → (leb total (length t.ledger) && free_ok (length counts) (length t.free) && mapped_tables_ok (length counts) (length t.records) (length t.maps))
      ≡ drain_tables_ok counts distances t
  unfolding drain_tables_ok fresh_tables_ok page_table_ok mapped_tables_ok
  lent_tested q a b =
      rw q
      (drain_tests (nodes_ok (length counts)) (pages_ok counts) (leb (sum counts) (length t.ledger)) (free_ok (length counts) (length t.free))
      (distances_ok (length counts) distances) (jobs_ok (length t.records) (length t.maps)) a b)

-- ---- what the call comes to

module _ (counts distances : List ℕ) (x : ℕ) (t : Tables) (out : List ℕ) where
  -- a refusal
  pub drain_refused : {r : ℕ} → drain_moves counts distances x t (length out) ≡ refuse r → did_drain (refuse r) t out ≡ on_drain counts distances x t out
  unfolding on_drain
  drain_refused e = rw e

  -- answer, tables and output by the moves
  pub drain_came : {a : Decision ℕ} {u : Tables} {o : List ℕ} → a ≡ count_of (drain_moves counts distances x t (length out))
      → u ≡ tables_after x t (drain_moves counts distances x t (length out)) → o ≡ pairs_after out (drain_moves counts distances x t (length out))
      → did_drain a u o ≡ on_drain counts distances x t out
  unfolding on_drain
  drain_came {a} {u} {o} ea eu eo = go (drain_moves counts distances x t (length out)) refl ea eu eo
    where
      go : (d : Decision (List Move)) → drain_moves counts distances x t (length out) ≡ d → a ≡ count_of d → u ≡ tables_after x t d → o ≡ pairs_after out d
          → did_drain a u o ≡ decided (λ r. did_drain (refuse r) t out)
          (λ vs. did_drain (accept (length vs)) (applied t (accept (draining x t vs))).tables (pairs vs ++ drop (2 * length vs) out)) d
      go (refuse r) f ea eu eo = rw (ea, eu, eo)
      go (accept vs) f ea eu eo = rw (ea, eu, eo)

-- ---- in a list of calls

-- tables that are in order for a request are so for a drain
request_tests : (nodes pages cpus near bytes jobs free : Bool) → ((nodes && pages && cpus && near) && bytes && jobs && free) ≡ true
    → ((nodes && pages && bytes && free) && near && jobs) ≡ true
request_tests true true true true true true true h = refl
request_tests true true true true true true false h = absurd (true≢false (sym h))
request_tests true true true true true false f h = absurd (true≢false (sym h))
request_tests true true true true false j f h = absurd (true≢false (sym h))
request_tests true true true false b j f h = absurd (true≢false (sym h))
request_tests true true false d b j f h = absurd (true≢false (sym h))
request_tests true false c d b j f h = absurd (true≢false (sym h))
request_tests false p c d b j f h = absurd (true≢false (sym h))

pub drain_ok : (m : Machine) (t : Tables) → request_tables_ok m t ≡ true → drain_tables_ok m.page_counts m.distances t ≡ true
unfolding request_tables_ok machine_ok drain_tables_ok fresh_tables_ok
drain_ok m t h =
    request_tests (nodes_ok (node_count m)) (pages_ok m.page_counts) (cpus_ok (node_count m) m.cpu_nodes) (distances_ok (node_count m) m.distances)
    (page_table_ok m.page_counts (length t.ledger)) (jobs_ok (length t.records) (length t.maps)) (free_ok (node_count m) (length t.free)) h

-- a drain has no more moves than there are pages
pub drained_few : (counts distances : List ℕ) (x : ℕ) (t : Tables) (room : ℕ) {vs : List Move} → drain_moves counts distances x t room ≡ accept vs
    → length vs ≤ 1048576
unfolding counts_match
drained_few counts distances x t room e =
    let d = drain_moves_lem counts distances x t room e in
    let o = pages_in_order_lem counts _ _ (drain_fresh_ok counts distances t d.tables_ok) in
    let count = moves_count counts distances x t (same_lists t.free (free_counts counts t.ledger) d.matching) o.fits d.moved_so in
    omega (arith, count, node_end counts x, o.counts_ok_lem.pages_most)

-- the step of a drain
pub drain_step : (counts distances : List ℕ) (x : ℕ) (t : Tables) (room : ℕ) {a : Answer} {u : Tables}
    → a ≡ decided refused (λ vs. drained (length vs)) (drain_moves counts distances x t room)
    → u ≡ tables_after x t (drain_moves counts distances x t room) → outcome a u ≡ applied t (drain_decision counts distances x t room)
unfolding drain_decision applied
drain_step counts distances x t room {a} {u} ea eu = go (drain_moves counts distances x t room) ea eu
  where
    go : (d : Decision (List Move)) → a ≡ decided refused (λ vs. drained (length vs)) d → u ≡ tables_after x t d
        → outcome a u ≡ applied t (then d (λ vs. accept (draining x t vs)))
    go (refuse r) ea eu = rw (ea, eu)
    go (accept vs) ea eu = rw (ea, eu)
