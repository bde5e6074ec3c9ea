-- What a caller of a part needs: tables that are in order to start with and stay so, and bytes that lie where they can be used.
-- Assumes nothing.
use Prim.Native.Nat.{ℕ, ◌*◌, ◌/◌, ◌≤◌, ◌<◌}
use mathlib.Core.Path.{◌≡◌, refl, sym, ap, ◌∙◌}
use mathlib.Core.Bool.{Bool, true, false}
use mathlib.Core.Logic.{⊎_elim}
use mathlib.Core.List.{List}
use native.Mathlib.Omega.{arith}
use borrow.Author.Tests.{le-leb, eq-eqb}
use lib.ListN.{length, drop, replicate, length-append, length-replicate}
use Rattle.rules.specs.Basics.{sum}
use Rattle.rules.specs.Machine.{Machine, node_count, page_table_ok}
use Rattle.rules.specs.Records.{words_per_job, most_jobs, job_table_ok}
use Rattle.rules.specs.Maps.{map_table_ok, identity_maps}
use Rattle.rules.specs.Decisions.{accept}
use Rattle.rules.specs.Calls.{Tables, tables_of, jobs_ok, request_tables_ok}
use Rattle.rules.specs.Journal.{journal_pages, machine_in, opening}
use Rattle.journal.specs.Opening.{Opened}
use Rattle.journal.specs.Parts.{answer_size, is_ready, part_from, Passed, put_into, on_part}
use Rattle.journal.proofs.IdentityMaps.{identity_long}
use Rattle.journal.proofs.MachineRecord.{good_opening}
use Rattle.rules.proofs.InOrder.{SameLengths, same_lengths_ok}
use Rattle.rules.proofs.Machine.{in_order}
use Rattle.journal.proofs.Parts.{stands}

-- a good machine record, on 16,384 free pages, 64 fresh jobs, the page counts and map 0 to N-1 for each job
pub opened : (bs : List ℕ) {k n : ℕ} {pages jobs free maps : List ℕ} → opening bs ≡ accept k → pages ≡ replicate journal_pages 0
    → jobs ≡ replicate (words_per_job * most_jobs) 0 → free ≡ (machine_in bs).page_counts → n ≡ node_count (machine_in bs)
    → maps ≡ identity_maps n most_jobs → Opened bs (tables_of pages jobs free maps)
unfolding request_tables_ok page_table_ok jobs_ok job_table_ok map_table_ok
opened bs v p q f e r =
    let g = good_opening bs v in
    let s = sum (machine_in bs).page_counts in
    let n = node_count (machine_in bs) in
    record {
      good = rw g.size at v;
      tables = rw (
        p,
        q,
        f,
        r,
        e,
        g.in_order,
        length-replicate {A = ℕ} journal_pages 0,
        le-leb s journal_pages g.few_pages,
        identity_long n (in_order _ g.in_order).counts.nodes_most most_jobs,
        eq-eqb n n refl,
      );
    }

-- tables of the same lengths are in order too
pub still_opened : {bs : List ℕ} {t u : Tables} → Opened bs t → SameLengths t u → Opened bs u
still_opened {bs} {t} {u} o e = record { good = o.good; tables = same_lengths_ok (machine_in bs) t u e o.tables }

-- What a part did, as the code tells it.
module _ (m : Machine) (t : Tables) (input : List ℕ) (ended : Bool) (out : List ℕ) {p : Passed} (said : p ≡ on_part m t input ended out) where
  -- the records that it did lie within the input
  pub read_within : p.read ≤ length input
  unfolding on_part put_into
  read_within = omega (arith, ap (λ (x : Passed). x.read) said, (stands ended m (length out / answer_size) t input).within)

  -- their answers lie within the output
  pub written_within : p.written ≤ length p.output
  unfolding on_part put_into
  written_within = rw (said, length-append) (omega arith)

  -- in an output with room for an answer to each 32 bytes it leaves no record that can be done
  pub none_left : p.more ≡ true → length input < 32 * (length out / answer_size) → is_ready ended (drop p.read input) ≡ false
  unfolding on_part put_into
  none_left h room =
      let part = stands ended m (length out / answer_size) t input in
      let more = sym (ap (λ (x : Passed). x.more) said) ∙ h in
      let read = ap (λ (x : Passed). x.read) said in
      rw read
      (⊎_elim
      (λ (full : length (part_from ended (length out / answer_size) m t input).answers ≡ answer_size * (length out / answer_size)).
      absurd (omega (arith, part.few more, part.within)))
      (λ w. w)
      (part.stops more))
