-- Refusal 1: how the code tests it, and what a grant and a release may count on.
-- Assumes nothing.
use Prim.Native.Nat.{ℕ, ◌%◌, ◌<◌}
use mathlib.Core.Path.{◌≡◌, refl}
use mathlib.Core.Bool.{Bool, true, false, ◌&&◌}
use mathlib.Core.List.{List}
use native.Mathlib.Nat.{lt_of_lt_of_le}
use borrow.Author.Tests.{leb-true, ltb-true}
use lib.Dec.{leb, eqb}
use lib.ListN.{length}
use Rattle.rules.specs.Basics.{all, sum}
use Rattle.rules.specs.Machine.{Machine, node_count, nodes_ok, pages_ok, page_table_ok, machine_ok}
use Rattle.rules.specs.Records.{words_per_job, most_jobs, job_count, job_table_ok}
use Rattle.rules.specs.Calls.{Tables, is_job, free_ok, jobs_ok, request_tables_ok, fresh_tables_ok, release_tables_ok, mapped_tables_ok}
use Rattle.rules.proofs.Lists.{both_true}
use Rattle.rules.proofs.InOrder.{pages_in_order_lem, fresh_ok, jobs_ok_lem}
use Rattle.machine.proofs.Tables.{counts_tested}
use Rattle.machine.specs.Tables.{Starts}
use Rattle.placement.specs.Grants.{Ready}

-- three tests in another order
last_two : (b w f : Bool) → (b && f && w) ≡ (b && w && f)
last_two false w f = refl
last_two true true true = refl
last_two true true false = refl
last_two true false true = refl
last_two true false false = refl

-- of a machine in order, with so many pages, the page table, the free counts, the job table and the maps are left to test
pub request_tested : (m : Machine) (t : Tables) {total : ℕ} → total ≡ sum m.page_counts → machine_ok m ≡ true
    → (leb total (length t.ledger) && free_ok (node_count m) (length t.free)
    && mapped_tables_ok (node_count m) (length t.records) (length t.maps))
    ≡ request_tables_ok m t
unfolding request_tables_ok mapped_tables_ok machine_ok page_table_ok
request_tested m t {total} e h =
    let a = both_true h in
    let b = both_true a.0 in
    let n = both_true {a = nodes_ok (node_count m)} {b = pages_ok m.page_counts} b.0 in
    rw (e, n.0, n.1, b.1, a.1) (last_two (leb (sum m.page_counts) (length t.ledger)) (jobs_ok (length t.records) (length t.maps)) _)

-- of one that is not, nothing is
pub request_untested : (m : Machine) (t : Tables) → machine_ok m ≡ false → request_tables_ok m t ≡ false
unfolding request_tables_ok
request_untested m t h = rw h

-- of page counts in order the page table and the free counts are, for a fresh table
pub fresh_tested : (counts : List ℕ) (bytes entries : ℕ) {total : ℕ} → total ≡ sum counts → (nodes_ok (length counts) && pages_ok counts) ≡ true
    → (leb total bytes && free_ok (length counts) entries) ≡ fresh_tables_ok counts bytes entries
unfolding fresh_tables_ok page_table_ok
fresh_tested counts bytes entries e h = rw (e, h)

-- and for a release, where each count is in order, the number of all pages, the job table and the maps too
pub release_tested : (counts : List ℕ) (t : Tables) {total : ℕ} → total ≡ sum counts → (nodes_ok (length counts) && all (λ c. leb c 65536) counts) ≡ true
    → (leb total 1048576
    && (leb total (length t.ledger) && free_ok (length counts) (length t.free)
    && mapped_tables_ok (length counts) (length t.records) (length t.maps)))
    ≡ release_tables_ok counts t
unfolding release_tables_ok fresh_tables_ok mapped_tables_ok page_table_ok
release_tested counts t {total} e h =
    rw (e, ← counts_tested counts h, (both_true {a = nodes_ok (length counts)} h).0)
    (go (leb (sum counts) 1048576) (leb (sum counts) (length t.ledger)) (free_ok (length counts) (length t.free))
    (jobs_ok (length t.records) (length t.maps)))
  where
    go : (a b f w : Bool) → (a && (b && f && w)) ≡ (a && b && f && w)
    go false b f w = refl
    go true b f w = refl

-- a job of the table is one of the few that there may be
pub job_few : (counts : List ℕ) (t : Tables) (j : ℕ) → release_tables_ok counts t ≡ true → is_job t.records j ≡ true → j < most_jobs
unfolding jobs_ok job_table_ok
job_few counts t j ok known =
    let jobs = job_count (length t.records) in
    let a = both_true {a = job_table_ok (length t.records)} (jobs_ok_lem counts t ok) in
    let few = both_true {a = leb 1 jobs} {b = leb jobs most_jobs} (both_true {a = eqb (length t.records % words_per_job) 0} a.0).1 in
    lt_of_lt_of_le (ltb-true j jobs known) (leb-true jobs most_jobs few.1)

-- what a grant may count on
pub ready : (counts : List ℕ) (t : Tables) (j : ℕ) {starts : List ℕ} → release_tables_ok counts t ≡ true → is_job t.records j ≡ true → Starts counts starts
    → Ready counts starts t.ledger j
ready counts t j ok known begin =
    let p = pages_in_order_lem counts _ _ (fresh_ok counts t ok) in
    record {
      few = p.counts_ok_lem.nodes_most;
      pages = p.counts_ok_lem.pages_most;
      begin = begin;
      fits = p.fits;
      job = job_few counts t j ok known;
    }
