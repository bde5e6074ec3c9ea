-- A whole journal: what the run starts with, and what it comes to.
-- Assumes nothing.
use Prim.Native.Nat.{ℕ, ◌-◌, ◌*◌, ◌/◌, ◌≤◌, ◌<◌}
use mathlib.Core.Path.{◌≡◌, refl, sym, ap, ◌∙◌}
use mathlib.Core.Bool.{true}
use mathlib.Core.List.{List, ◌++◌}
use native.Mathlib.Omega.{arith}
use borrow.Author.Tests.{le-leb, lt-leb, eq-eqb}
use lib.ListN.{length, take, drop, replicate, length-replicate}
use lib.Seq.{take-length}
use Rattle.rules.specs.Basics.{sum}
use Rattle.rules.specs.Machine.{Machine, node_count, page_table_ok}
use Rattle.rules.specs.Records.{words_per_job, most_jobs, job_table_ok}
use Rattle.rules.specs.Maps.{map_table_ok, identity_maps}
use Rattle.rules.specs.Decisions.{refuse, accept, written}
use Rattle.rules.specs.Calls.{Tables, tables_of, jobs_ok, request_tables_ok}
use Rattle.rules.specs.Journal.{journal_pages, faulty, machine_in, start_of, opening, journal, write_journal}
use Rattle.rules.proofs.Filled.{equal_take}
use Rattle.rules.proofs.Machine.{in_order}
use Rattle.journal.specs.Opening.{Opened}
use Rattle.journal.specs.Parts.{answer_size, run_of, Passed, put_into, on_part}
use Rattle.journal.proofs.IdentityMaps.{identity_long}
use Rattle.journal.proofs.MachineRecord.{good_opening}
use Rattle.journal.proofs.Answers.{fault_length}
use Rattle.journal.proofs.Output.{rest_lent}
use Rattle.journal.proofs.Parts.{last_part}
use Rattle.journal.proofs.BookRun.{journal_refused, journal_opened}

-- ---- the start

-- "64 fresh jobs", as many free pages as there are pages, these counted, and "map 0 to N-1"
pub start_lent : (m : Machine) {pages jobs free maps : List ℕ} {total n : ℕ} → pages ≡ replicate journal_pages 0
    → jobs ≡ replicate (words_per_job * most_jobs) 0 → free ≡ m.page_counts → maps ≡ identity_maps n most_jobs → n ≡ node_count m
    → total ≡ sum m.page_counts → sum m.page_counts ≤ journal_pages → tables_of (take total pages) jobs free maps ≡ start_of m
unfolding start_of
start_lent m p q f r k e few = rw (p, q, f, r, k, e, equal_take (sum m.page_counts) journal_pages 0 few)

-- they are in order
pub start_ok : (bs : List ℕ) {k : ℕ} {t : Tables} → opening bs ≡ accept k → t ≡ start_of (machine_in bs) → Opened bs t
unfolding request_tables_ok start_of page_table_ok jobs_ok job_table_ok map_table_ok
start_ok bs v q =
    let g = good_opening bs v in
    let s = sum (machine_in bs).page_counts in
    let n = node_count (machine_in bs) in
    record {
      good = v ∙ ap (λ (k : ℕ). accept k) g.size;
      tables = rw (
        q,
        g.in_order,
        length-replicate {A = ℕ} s 0,
        le-leb s s (omega arith),
        identity_long n (in_order _ g.in_order).counts.nodes_most most_jobs,
        eq-eqb n n refl,
      );
    }

-- ---- the records

-- the answers of a part that has room for all, on input that has ended, are all that the output gets
pub all_done : (m : Machine) (t : Tables) (rest out : List ℕ) → length (run_of m t rest) ≤ length out
    → {a : Passed} → a ≡ on_part m t rest true out → (a.written ≡ length (run_of m t rest)) × (a.output ≡ run_of m t rest ++ drop a.written out)
unfolding on_part put_into
all_done m t rest out room {a} said =
    let all = last_part m (length out / answer_size) t rest (omega arith) in
    let n : a.written ≡ length (run_of m t rest) = ap (λ (x : Passed). x.written) said ∙ ap length all in
    (n, ap (λ (x : Passed). x.output) said ∙ rw (n, all))

-- what is counted of the bytes after a good machine record is what all answers take
pub counted_whole : (input : List ℕ) {size n : ℕ} → opening input ≡ accept size
    → ((m : Machine) (t : Tables) → n ≡ length (run_of m t (take (length input - size) (drop size input)))) → n ≡ length (journal input)
counted_whole input {size} v counted =
    let all = rw (rest_lent input size) at counted in
    all (machine_in input) (start_of (machine_in input)) ∙ ap length (sym (journal_opened input v))

-- ---- the whole

module _ (input out : List ℕ) where
  -- "11 output shorter than the text"
  pub too_short : length out < length (journal input) → record { answer = refuse 11; output = out } ≡ write_journal input out
  unfolding write_journal written
  too_short l = rw (lt-leb (length (journal input)) (length out) l)

  -- it has room
  pub answered : {n : ℕ} {out' : List ℕ} → length (journal input) ≤ length out → n ≡ length (journal input) → out' ≡ journal input ++ drop n out
      → record { answer = accept n; output = out' } ≡ write_journal input out
  unfolding write_journal written
  answered l e f = rw (le-leb (length (journal input)) (length out) l, f, e)

  -- a machine record that is refused has one answer
  module _ {r : ℕ} (v : opening input ≡ refuse r) where
    fault_size : length (journal input) ≡ answer_size
    fault_size = ap length (journal_refused input v) ∙ fault_length r

    pub no_answer : length out < answer_size → record { answer = refuse 11; output = out } ≡ write_journal input out
    no_answer l = too_short (omega (arith, fault_size))

    pub one_answer : {n : ℕ} {line out' : List ℕ} → answer_size ≤ length out → line ≡ faulty r → n ≡ length line
        → out' ≡ take (length line) line ++ drop (length line) out → record { answer = accept n; output = out' } ≡ write_journal input out
    one_answer {n} {line} l e s f =
        let j : line ≡ journal input = e ∙ sym (journal_refused input v) in
        answered (omega (arith, fault_size)) (s ∙ ap length j) (f ∙ rw (s, take-length line) (ap (λ (xs : List ℕ). xs ++ drop (length line) out) j))
