-- What one move of a drain counts on: a held page of x that has somewhere to go may be carried there.
-- Assumes nothing.
use Prim.Native.Nat.{ℕ, ◌+◌, ◌-◌, ◌%◌, ◌≤◌, ◌<◌}
use mathlib.Core.Path.{◌≡◌, refl, sym, ap, ◌∙◌}
use mathlib.Core.Bool.{Bool, true, false, ◌&&◌}
use mathlib.Core.List.{List, []}
use mathlib.Core.Option.{some}
use native.Mathlib.Nat.{lt_of_lt_of_le}
use native.Mathlib.Omega.{arith}
use borrow.Author.Tests.{ltb-true, leb-true, lt-ltb}
use lib.Dec.{eqb, leb, ltb}
use lib.ListN.{length, get_or}
use Rattle.rules.specs.Machine.{first_page, nodes_ok}
use Rattle.rules.specs.Records.{words_per_job, most_jobs, job_count, job_table_ok}
use Rattle.rules.specs.SearchOrder.{has_room, counted}
use Rattle.rules.specs.Calls.{tables_of, is_job, is_mapped, jobs_ok, mapped_tables_ok}
use Rattle.rules.specs.Drain.{is_movable}
use Rattle.rules.proofs.FreeCounts.{counted_room}
use Rattle.rules.proofs.Lists.{both_true}
use Rattle.drain.specs.Goals.{may_move, goal_by}
use Rattle.drain.specs.Moving.{Carries}
use Rattle.drain.specs.Reached.{Drainable}
use Rattle.drain.proofs.Open.{GoalIs, goal_is_lem}
use Rattle.drain.proofs.Reached.{start_reached, free_few}

-- a job that may be moved is one of the most that there may be
pub mover_few : (n : ℕ) (jobs maps : List ℕ) (j : ℕ) → mapped_tables_ok n (length jobs) (length maps) ≡ true → may_move n jobs maps j ≡ true → j < most_jobs
unfolding mapped_tables_ok jobs_ok job_table_ok may_move is_movable
mover_few n jobs maps j ok may =
    let most = job_count (length jobs) in
    let t = tables_of [] jobs [] maps in
    let named = (both_true {a = is_job jobs j && is_mapped n t j} may).0 in
    let found : ltb j most ≡ true = (both_true {a = is_job jobs j} {b = is_mapped n t j} named).0 in
    let tables = (both_true {a = job_table_ok (length jobs)} (both_true {a = nodes_ok n} ok).1).0 in
    let few = both_true {a = leb 1 most} {b = leb most most_jobs} (both_true {a = eqb (length jobs % words_per_job) 0} tables).1 in
    lt_of_lt_of_le (ltb-true j most found) (leb-true most most_jobs few.1)

-- none past them may be
pub past_movers : (n : ℕ) (jobs maps : List ℕ) (j : ℕ) → mapped_tables_ok n (length jobs) (length maps) ≡ true → most_jobs ≤ j
    → may_move n jobs maps j ≡ false
past_movers n jobs maps j ok past = go (may_move n jobs maps j) refl
  where
    go : (b : Bool) → may_move n jobs maps j ≡ b → may_move n jobs maps j ≡ false
    go true e = absurd (omega (arith, mover_few n jobs maps j ok e, past))
    go false e = e

module _ {counts starts order pages free : List ℕ} {x : ℕ} (d : Drainable counts starts x order pages free) where
  -- the count of x stays far below what a number holds
  pub own_count : get_or free x 0 ≤ 1048576
  own_count = free_few (start_reached counts [] x (tables_of pages [] free []) d.matches) d.paged.pages

  -- a node that is counted above 0 has room
  room_there : (k : ℕ) → 0 < get_or free k 0 → has_room counts pages k ≡ true
  unfolding counted
  room_there k above =
      sym (counted_room counts pages k) ∙ ap (λ (f : List ℕ). counted f k) (sym d.matches) ∙ lt-ltb 0 (get_or free k 0) above

  pub goal_carries : (jobs maps : List ℕ) (p k byte : ℕ) → mapped_tables_ok (length counts) (length jobs) (length maps) ≡ true
      → first_page counts x ≤ p → p < first_page counts x + get_or counts x 0 → 0 < byte
      → goal_by (length counts) order jobs maps free (byte - 1) ≡ some k → Carries counts starts pages free x p k byte
  goal_carries jobs maps p k byte ok start end held e =
      let g : GoalIs (length counts) x jobs maps free (byte - 1) k = goal_is_lem (length counts) x order jobs maps free (byte - 1) k d.ordered e in
      record {
        ready = record {
          few = d.paged.few;
          pages = d.paged.pages;
          begin = d.paged.begin;
          fits = d.paged.fits;
          job = mover_few (length counts) jobs maps (byte - 1) ok g.movable;
        };
        held = held;
        start = start;
        end = end;
        node = g.node;
        other = g.other;
        room = room_there k g.above;
        one_each = d.ordered.one_each;
        above = g.above;
        below = omega (arith, own_count);
      }
