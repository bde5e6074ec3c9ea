-- `mapped_ok` tests N and the lengths of the job table and of the map table.
-- Assumes nothing.
use Prim.Native.Nat.{ℕ, ◌%◌, ◌≤◌}
use mathlib.Core.Path.{◌≡◌, sym, ◌∙◌}
use mathlib.Core.Bool.{true, ◌&&◌, and_assoc}
use native.Mathlib.Omega.{arith}
use lib.Dec.{eqb}
use Rattle.rules.specs.Basics.{between}
use Rattle.rules.specs.Machine.{nodes_ok}
use Rattle.rules.specs.Records.{words_per_job, most_jobs, job_count, job_table_ok}
use Rattle.rules.specs.Maps.{map_table_ok}
use Rattle.rules.specs.Calls.{jobs_ok, record_tables_ok, mapped_tables_ok}
use Rattle.rules.proofs.Lists.{both_true, between_true}
use Rattle.records.proofs.table.mapped_ok.Goals as goal

-- the tests of N and the job table, then that of the map table
parts : (n words bytes : ℕ) → mapped_tables_ok n words bytes ≡ (record_tables_ok n words && map_table_ok words bytes)
unfolding mapped_tables_ok record_tables_ok jobs_ok
parts n words bytes = sym (and_assoc (nodes_ok n) (job_table_ok words) (map_table_ok words bytes))

-- "1 to 64 jobs"
few-jobs : (n words : ℕ) → record_tables_ok n words ≡ true → job_count words ≤ most_jobs
unfolding record_tables_ok job_table_ok
few-jobs n words e =
    let table = (both_true {a = nodes_ok n} {b = job_table_ok words} e).1 in
    let count = (both_true {a = eqb (words % words_per_job) 0} {b = between 1 most_jobs (job_count words)} table).1 in
    (between_true 1 most_jobs (job_count words) count).1

pub overflow_mul-result : goal.overflow_mul-result
overflow_mul-result c = let in_order : record_tables_ok c.args.nodes c.args.words ≡ true = sym c.tables_ok.ensures ∙ c.if-not-tables_ok.false in
    omega (arith, few-jobs _ _ in_order)

pub returns-then-not-tables_ok : goal.returns-then-not-tables_ok
returns-then-not-tables_ok c = rw (parts, sym c.tables_ok.ensures ∙ c.if-not-tables_ok.true)

pub returns : goal.returns
unfolding map_table_ok
returns c = let in_order : record_tables_ok c.args.nodes c.args.words ≡ true = sym c.tables_ok.ensures ∙ c.if-not-tables_ok.false in
    rw (parts, in_order)
