-- Refusal 1: tables that are in order for a request are so for every call, and stay so.
-- Assumes nothing.
use Prim.Native.Nat.{ℕ, ◌+◌, ◌*◌, ◌≤◌}
use mathlib.Core.Path.{◌≡◌, refl, ◌∙◌}
use mathlib.Core.Bool.{Bool, true, false, ◌&&◌, false≢true}
use mathlib.Core.List.{List}
use native.Mathlib.Omega.{arith}
use lib.Dec.{ltb}
use lib.ListN.{length}
use borrow.Author.Tests.{eqb-true, leb-true, ltb-true}
use Rattle.rules.specs.Basics.{sum}
use Rattle.rules.specs.Machine.{Machine, node_count, nodes_ok, pages_ok, cpus_ok, distances_ok, page_table_ok, machine_ok}
use Rattle.rules.specs.Records.{job_count, job_table_ok}
use Rattle.rules.specs.Maps.{map_size, map_table_ok}
use Rattle.rules.specs.Calls.{Tables, free_ok, jobs_ok, request_tables_ok, fresh_tables_ok, release_tables_ok, record_tables_ok, mapped_tables_ok}
use Rattle.rules.specs.Drain.{drain_tables_ok}
use Rattle.rules.proofs.Lists.{both_true, both_hold}
use Rattle.rules.proofs.Machine.{CountsInOrder, counts_in_order}

-- Two tables are as long, each of those that the calls keep up.
pub record SameLengths (t u : Tables) : Type 0 where
  pub ledger : length u.ledger ≡ length t.ledger
  pub records : length u.records ≡ length t.records
  pub free : length u.free ≡ length t.free
  pub maps : length u.maps ≡ length t.maps

pub same_lengths : {t : Tables} → SameLengths t t
same_lengths = record { ledger = refl; records = refl; free = refl; maps = refl }

pub lengths_then : {t u v : Tables} → SameLengths t u → SameLengths u v → SameLengths t v
lengths_then a b =
    record { ledger = b.ledger ∙ a.ledger; records = b.records ∙ a.records; free = b.free ∙ a.free; maps = b.maps ∙ a.maps }

-- test 1 looks at these lengths only
pub same_lengths_ok : (m : Machine) (t u : Tables) → SameLengths t u → request_tables_ok m t ≡ true → request_tables_ok m u ≡ true
unfolding request_tables_ok jobs_ok
same_lengths_ok m t u e h = rw (e.ledger, e.records, e.free, e.maps) h

release_tests_lem : (nodes pages cpus distances bytes words free : Bool) → (nodes && pages && cpus && distances && bytes && words && free) ≡ true
    → (nodes && pages && bytes && free && words) ≡ true
release_tests_lem false p c d b w f h = absurd (false≢true h)
release_tests_lem true false c d b w f h = absurd (false≢true h)
release_tests_lem true true false d b w f h = absurd (false≢true h)
release_tests_lem true true true false b w f h = absurd (false≢true h)
release_tests_lem true true true true false w f h = absurd (false≢true h)
release_tests_lem true true true true true false f h = absurd (false≢true h)
release_tests_lem true true true true true true false h = absurd (false≢true h)
release_tests_lem true true true true true true true h = refl

record_tests : (nodes pages bytes free words : Bool) → (nodes && pages && bytes && free && words) ≡ true → (nodes && words) ≡ true
record_tests false p b f w h = absurd (false≢true h)
record_tests true false b f w h = absurd (false≢true h)
record_tests true true false f w h = absurd (false≢true h)
record_tests true true true false w h = absurd (false≢true h)
record_tests true true true true w h = h

-- where the tables of a request are in order, the machine is
pub machine_ok_lem : (m : Machine) (t : Tables) → request_tables_ok m t ≡ true → machine_ok m ≡ true
unfolding request_tables_ok
machine_ok_lem m t h =
    let pages = page_table_ok m.page_counts (length t.ledger) in
    let jobs = jobs_ok (length t.records) (length t.maps) in
    let a = both_true {a = machine_ok m && pages && jobs} {b = free_ok (node_count m) (length t.free)} h in
    (both_true {a = machine_ok m} {b = pages} (both_true {a = machine_ok m && pages} {b = jobs} a.0).0).0

-- tables that are in order for a request are so for a release
pub release_ok : (m : Machine) (t : Tables) → request_tables_ok m t ≡ true → release_tables_ok m.page_counts t ≡ true
unfolding request_tables_ok release_tables_ok fresh_tables_ok machine_ok
release_ok m t h =
    release_tests_lem (nodes_ok (node_count m)) (pages_ok m.page_counts) (cpus_ok (node_count m) m.cpu_nodes) (distances_ok (node_count m) m.distances)
    (page_table_ok m.page_counts (length t.ledger)) (jobs_ok (length t.records) (length t.maps)) (free_ok (node_count m) (length t.free)) h

-- those for a release are so for a fresh table
pub fresh_ok : (counts : List ℕ) (t : Tables) → release_tables_ok counts t ≡ true → fresh_tables_ok counts (length t.ledger) (length t.free) ≡ true
unfolding release_tables_ok
fresh_ok counts t h = (both_true {a = fresh_tables_ok counts (length t.ledger) (length t.free)} {b = jobs_ok (length t.records) (length t.maps)} h).0

-- those for a drain likewise
pub drain_fresh_ok : (counts distances : List ℕ) (t : Tables) → drain_tables_ok counts distances t ≡ true
    → fresh_tables_ok counts (length t.ledger) (length t.free) ≡ true
unfolding drain_tables_ok
drain_fresh_ok counts distances t h =
    let fresh = fresh_tables_ok counts (length t.ledger) (length t.free) in
    let table = distances_ok (length counts) distances in
    (both_true {a = fresh} {b = table} (both_true {a = fresh && table} {b = jobs_ok (length t.records) (length t.maps)} h).0).0

-- those for a request for a call that is lent N, the job table and the maps
pub mapped_ok : (m : Machine) (t : Tables) → request_tables_ok m t ≡ true → mapped_tables_ok (node_count m) (length t.records) (length t.maps) ≡ true
unfolding release_tables_ok fresh_tables_ok mapped_tables_ok
mapped_ok m t h =
    record_tests (nodes_ok (node_count m)) (pages_ok m.page_counts) (page_table_ok m.page_counts (length t.ledger)) (free_ok (node_count m) (length t.free))
    (jobs_ok (length t.records) (length t.maps)) (release_ok m t h)

-- job table and maps are in order, where the tables of a release are
pub jobs_ok_lem : (counts : List ℕ) (t : Tables) → release_tables_ok counts t ≡ true → jobs_ok (length t.records) (length t.maps) ≡ true
unfolding release_tables_ok
jobs_ok_lem counts t h = (both_true {a = fresh_tables_ok counts (length t.ledger) (length t.free)} h).1

-- and those for such a call for rebind and clear
pub record_ok : (n words bytes : ℕ) → mapped_tables_ok n words bytes ≡ true → record_tables_ok n words ≡ true
unfolding mapped_tables_ok record_tables_ok jobs_ok
record_ok n words bytes h =
    let a = both_true {a = nodes_ok n} {b = jobs_ok words bytes} h in
    both_hold a.0 (both_true {a = job_table_ok words} a.1).0

-- there are 64 bytes for each job
pub job_map : (words bytes j : ℕ) → jobs_ok words bytes ≡ true → ltb j (job_count words) ≡ true → map_size * j + map_size ≤ bytes
unfolding jobs_ok map_table_ok
job_map words bytes j ok job =
    let e = eqb-true bytes (map_size * job_count words) (both_true {a = job_table_ok words} ok).1 in
    let l = ltb-true j (job_count words) job in
    omega arith

-- and so for each job of such a call
pub mapped_map : (n words bytes j : ℕ) → mapped_tables_ok n words bytes ≡ true → ltb j (job_count words) ≡ true → map_size * j + map_size ≤ bytes
unfolding mapped_tables_ok
mapped_map n words bytes j ok job = job_map words bytes j (both_true {a = nodes_ok n} {b = jobs_ok words bytes} ok).1 job

-- What a fresh table may count on, and so a release and a request: page counts in order, a page table that has the pages, a count for each node.
pub record PagesInOrder (counts : List ℕ) (bytes entries : ℕ) : Type 0 where
  pub counts_ok_lem : CountsInOrder counts
  pub fits : sum counts ≤ bytes
  pub one_each : entries ≡ length counts

pub pages_in_order_lem : (counts : List ℕ) (bytes entries : ℕ) → fresh_tables_ok counts bytes entries ≡ true → PagesInOrder counts bytes entries
unfolding fresh_tables_ok page_table_ok
pages_in_order_lem counts bytes entries ok =
    let a = both_true {a = nodes_ok (length counts) && pages_ok counts && page_table_ok counts bytes} {b = free_ok (length counts) entries} ok in
    let b = both_true {a = nodes_ok (length counts) && pages_ok counts} {b = page_table_ok counts bytes} a.0 in
    record {
      counts_ok_lem = counts_in_order counts b.0;
      fits = leb-true (sum counts) bytes b.1;
      one_each = eqb-true entries (length counts) a.1;
    }
