-- Laws of the goals of pages: the first open node of the order, and what is kept of the jobs that have been met.
-- Assumes nothing.
use Prim.Native.Nat.{ℕ, zero, suc, ◌+◌, ◌-◌, ◌≤◌, ◌<◌}
use mathlib.Core.Path.{◌≡◌, refl, sym, ◌∙◌}
use mathlib.Core.Bool.{Bool, true, false, ◌&&◌, cond}
use mathlib.Core.List.{List, [], ◌∷◌}
use mathlib.Core.Option.{none, some}
use Rattle.std.specs.Prelude.{Option, None, Some, MatchOption, is_some}
use Rattle.std.specs.Option.{unwrap_or}
use native.Mathlib.Decide.{ℕ_discrete}
use native.Mathlib.Omega.{arith}
use borrow.Author.Tests.{le-ltb, ltb-true, ltb-false}
use lib.Dec.{ltb}
use lib.ListN.{length, get_or, set, length-set, replicate, length-replicate}
use lib.Seq.{get_or-set_same, get_or-set_other}
use Rattle.rules.specs.Basics.{keep, first}
use Rattle.rules.specs.Masks.{has}
use Rattle.rules.specs.Records.{most_jobs}
use Rattle.rules.specs.SearchOrder.{counted}
use Rattle.rules.proofs.Lists.{both_true, in_table_lem, at_member, first_keep, first_member}
use Rattle.nodemask.specs.declared.Mask.{Mask}
use Rattle.drain.specs.declared.goals.MetJob.{MetJob}
use Rattle.drain.specs.Goals.{may_move, limit_in, opens, goal_by, AllShut, ClosedTo, Kept, Met, Ordered, after_move}

-- ---- the first open node

-- a node with a count above 0 is in the table of counts
pub open_is : (free : List ℕ) (limit k : ℕ) → (ltb k (length free) && has limit k && counted free k) ≡ opens free limit k
unfolding counted
open_is free limit k = go (ltb k (length free)) refl (has limit k)
  where
    go : (b : Bool) → ltb k (length free) ≡ b → (h : Bool) → (b && h && ltb 0 (get_or free k 0)) ≡ (h && ltb 0 (get_or free k 0))
    go true e h = refl
    go false e false = refl
    go false e true = sym (le-ltb 0 (get_or free k 0) (past (get_or free k 0) refl))
      where
        past : (v : ℕ) → get_or free k 0 ≡ v → v ≤ 0
        past zero f = omega arith
        past (suc v) f = absurd (omega (arith, in_table_lem free k 0 (suc v) f (λ z. omega arith), ltb-false k (length free) e))

-- the first that passes a test, by its place
pub first_at : (p : ℕ → Bool) (xs : List ℕ) (r : ℕ) → r < length xs → ((i : ℕ) → i < r → p (get_or xs i 0) ≡ false) → p (get_or xs r 0) ≡ true
    → first (keep p xs) ≡ some (get_or xs r 0)
unfolding keep first
first_at p [] r l f t = absurd (omega arith)
first_at p (x ∷ xs) zero l f t = rw t
first_at p (x ∷ xs) (suc r) l f t = rw (f 0 (omega arith)) (first_at p xs r (omega arith) (λ i h. f (suc i) (omega arith)) t)

-- and none
pub first_nowhere : (p : ℕ → Bool) (xs : List ℕ) → ((i : ℕ) → i < length xs → p (get_or xs i 0) ≡ false) → first (keep p xs) ≡ none
unfolding keep first
first_nowhere p [] f = refl
first_nowhere p (x ∷ xs) f = rw (f 0 (omega arith)) (first_nowhere p xs (λ i h. f (suc i) (omega arith)))

-- a node before a position up to which the order is closed is not open
closed_fails : (order free : List ℕ) (limit at : ℕ) → ClosedTo order free limit at → (i : ℕ) → i < at → opens free limit (get_or order i 0) ≡ false
unfolding ClosedTo counted
closed_fails order free limit at c i l = go (has limit (get_or order i 0)) refl
  where
    go : (b : Bool) → has limit (get_or order i 0) ≡ b → (b && ltb 0 (get_or free (get_or order i 0) 0)) ≡ false
    go true e = rw (c i l e)
    go false e = refl

-- What a look through the order from `from` on finds at r, given that no node before is open.
module _ (order free : List ℕ) (limit from r : ℕ) (before : ClosedTo order free limit from)
    (passed : AllShut order free limit from r) where
  none_before : (i : ℕ) → i < r → opens free limit (get_or order i 0) ≡ false
  none_before i l = go (ltb i from) refl
    where
      go : (b : Bool) → ltb i from ≡ b → opens free limit (get_or order i 0) ≡ false
      go true e = closed_fails order free limit from before i (ltb-true i from e)
      go false e = passed i (ltb-false i from e) l

  -- an open node is the first
  pub found_open : r < length order → opens free limit (get_or order r 0) ≡ true → first (keep (opens free limit) order) ≡ some (get_or order r 0)
  found_open l o = first_at (opens free limit) order r l none_before o

  -- at the end there is none
  pub found_none : r ≡ length order → first (keep (opens free limit) order) ≡ none
  found_none e = first_nowhere (opens free limit) order (λ i l. none_before i (omega arith))

  -- and the order is closed up to r
  pub closed_on : ClosedTo order free limit r
  unfolding ClosedTo counted
  closed_on i l h = go (get_or free (get_or order i 0) 0) refl
    where
      go : (v : ℕ) → get_or free (get_or order i 0) 0 ≡ v → v ≡ 0
      go zero e = refl
      go (suc v) e =
          let f : opens free limit (get_or order i 0) ≡ false = none_before i l in
          absurd (omega (arith, ltb-false 0 (suc v) (rw (h, e) at f)))

-- one more that fails
pub fails_next : (p : ℕ → Bool) (a i : ℕ) → ((k : ℕ) → a ≤ k → k < i → p k ≡ false) → p i ≡ false → (k : ℕ) → a ≤ k → k < i + 1 → p k ≡ false
fails_next p a i f e k l h = go (ℕ_discrete k i)
  where
    go : Dec (k ≡ i) → p k ≡ false
    go (yes q) = rw q e
    go (no q) = f k l (omega arith)

-- ---- what is kept

-- at first nothing is
pub none_met : (n : ℕ) (order jobs maps free : List ℕ) → Met n order jobs maps free (replicate (most_jobs + 1) None)
none_met n order jobs maps free = record {
  long = length-replicate {A = Option MetJob} (most_jobs + 1) None;
  kept = λ b job e. absurd (let none : ◌≡◌ {A = Option MetJob} None (Some job) = sym (none_at (most_jobs + 1) b) ∙ e in cc);
}
  where
    none_at : (k i : ℕ) → ◌≡◌ {A = Option MetJob} (get_or (replicate k None) i None) None
    none_at zero i = refl
    none_at (suc k) zero = refl
    none_at (suc k) (suc i) = none_at k i

-- an answer that is there, by a test
pub some_if : (b : Bool) {x y : ℕ} → some x ≡ cond b (some y) none → (b ≡ true) × (x ≡ y)
some_if true {x} {y} e = (refl, cc)
some_if false e = absurd (let z : ◌≡◌ {A = ℕ} 0 1 = cc in omega arith)

-- a job that is met for the first time and may be moved, with no node passed over
pub kept_first : {n : ℕ} {order jobs maps free : List ℕ} {b : ℕ} {limit : Mask} → may_move n jobs maps (b - 1) ≡ true
    → limit.0 ≡ limit_in jobs maps (b - 1) → Kept n order jobs maps free (record { limit = limit; from = 0 }) b
unfolding ClosedTo
kept_first may is = record { movable = may; limit = is; within = omega arith; closed = λ i u g. absurd (omega arith) }

-- what is kept of one more job, or of a job anew
pub met_on : {n : ℕ} {order jobs maps free : List ℕ} {met : List (Option MetJob)} {b : ℕ} {job : MetJob} → b ≤ most_jobs
    → Met n order jobs maps free met → Kept n order jobs maps free job b → Met n order jobs maps free (set met b (Some job))
met_on {n} {order} {jobs} {maps} {free} {met} {b} {job} few m k = record {
  long = length-set met b (Some job) ∙ m.long;
  kept = λ c other e. go c other e (ℕ_discrete c b);
}
  where
    go : (c : ℕ) (other : MetJob) → get_or (set met b (Some job)) c None ≡ Some other → Dec (c ≡ b) → Kept n order jobs maps free other c
    go c other e (yes q) =
        let new : get_or (set met b (Some job)) b None ≡ Some job = get_or-set_same met b (Some job) None (omega (arith, m.long)) in
        let old : get_or (set met b (Some job)) b None ≡ Some other = rw q at e in
        let same : job ≡ other = cc in
        rw (q, ← same) k
    go c other e (no q) = m.kept c other (sym (get_or-set_other met b c (Some job) None q) ∙ e)

-- it has been met now
pub met_now : {n : ℕ} {order jobs maps free : List ℕ} {met : List (Option MetJob)} → Met n order jobs maps free met → (b : ℕ) (job : MetJob)
    → b ≤ most_jobs → is_some (get_or (set met b (Some job)) b None) ≡ true
met_now {n} {order} {jobs} {maps} {free} {met} m b job l = rw (get_or-set_same met b (Some job) None (omega (arith, m.long, l)))

-- Of a job that is kept: what a look through the order from its position on finds.
module _ {n : ℕ} {order jobs maps free : List ℕ} {job : MetJob} {b : ℕ} (own : Kept n order jobs maps free job b) where
  closed : ClosedTo order free job.limit.0 job.from
  closed = rw own.limit own.closed

  -- the page has nowhere to go
  pub goal_none : AllShut order free job.limit.0 job.from (length order) → none ≡ goal_by n order jobs maps free (b - 1)
  unfolding goal_by
  goal_none passed = rw (own.movable, ← own.limit) (sym (found_none order free job.limit.0 job.from (length order) closed passed refl))

  module _ {at : ℕ} (passed : AllShut order free job.limit.0 job.from at) (l : at < length order) where
    -- or it goes to the node found
    pub goal_some : opens free job.limit.0 (get_or order at 0) ≡ true → some (get_or order at 0) ≡ goal_by n order jobs maps free (b - 1)
    unfolding goal_by
    goal_some o = rw (own.movable, ← own.limit) (sym (found_open order free job.limit.0 job.from at closed passed l o))

  -- what is kept goes on from where the look ended
  pub kept_on : {at : ℕ} → AllShut order free job.limit.0 job.from at → at ≤ length order
      → Kept n order jobs maps free (record { limit = job.limit; from = at }) b
  kept_on {at} passed l = record {
    movable = own.movable;
    limit = own.limit;
    within = l;
    closed = rw (← own.limit) (closed_on order free job.limit.0 job.from at closed passed);
  }

  -- where an open node was found, or at the end of the order
  pub kept_found : (r : Option ℕ) {kept : ℕ} → kept ≡ unwrap_or r (length order)
      → MatchOption r (AllShut order free job.limit.0 job.from (length order)) (λ at. (job.from ≤ at) × (at < length order)
      × AllShut order free job.limit.0 job.from at × (opens free job.limit.0 (get_or order at 0) ≡ true))
      → Kept n order jobs maps free (record { limit = job.limit; from = kept }) b
  kept_found None e shut = rw e (kept_on shut (omega arith))
  kept_found (Some at) e found = rw e (kept_on found.2 (omega (arith, found.1)))

-- a move makes no node of the order open
pub met_moved : {n x : ℕ} {order jobs maps free : List ℕ} {met : List (Option MetJob)} (k : ℕ) → Ordered n x order free
    → Met n order jobs maps free met → Met n order jobs maps (after_move x free k) met
unfolding ClosedTo
met_moved {n} {x} {order} {jobs} {maps} {free} k o m = record {
  long = m.long;
  kept = λ b job e. let w = m.kept b job e in
      record { movable = w.movable; limit = w.limit; within = w.within; closed = λ i u g. still i (omega (arith, u, w.within)) (w.closed i u g) };
}
  where
    still : (i : ℕ) → i < length order → get_or free (get_or order i 0) 0 ≡ 0 → get_or (after_move x free k) (get_or order i 0) 0 ≡ 0
    still i l e = go (ℕ_discrete (get_or order i 0) k)
      where
        go : Dec (get_or order i 0 ≡ k) → get_or (after_move x free k) (get_or order i 0) 0 ≡ 0
        go (yes q) =
            let small : k < length (set free x (get_or free x 0 + 1)) =
            omega (arith, q, o.nodes i l, o.one_each, length-set free x (get_or free x 0 + 1)) in
            rw q (get_or-set_same (set free x (get_or free x 0 + 1)) k (get_or free k 0 - 1) 0 small ∙ (let z : get_or free k 0 ≡ 0 = rw q at e in omega arith))
        go (no q) =
            get_or-set_other (set free x (get_or free x 0 + 1)) k (get_or order i 0) (get_or free k 0 - 1) 0 q
            ∙ get_or-set_other free x (get_or order i 0) (get_or free x 0 + 1) 0 (o.others i l) ∙ e

-- ---- the node that a page goes to

-- it is a node other than x, counted above 0, and its job may be moved
pub record GoalIs (n x : ℕ) (jobs maps free : List ℕ) (j k : ℕ) : Type 0 where
  pub movable : may_move n jobs maps j ≡ true
  pub node : k < n
  pub other : k ≡ x → ⊥
  pub above : 0 < get_or free k 0

pub goal_is_lem : (n x : ℕ) (order jobs maps free : List ℕ) (j k : ℕ) → Ordered n x order free → goal_by n order jobs maps free j ≡ some k
    → GoalIs n x jobs maps free j k
unfolding goal_by counted
goal_is_lem n x order jobs maps free j k o e = go (may_move n jobs maps j) refl e
  where
    go : (b : Bool) → may_move n jobs maps j ≡ b → cond b (first (keep (opens free (limit_in jobs maps j)) order)) none ≡ some k
        → GoalIs n x jobs maps free j k
    go false f e = absurd (let z : ◌≡◌ {A = ℕ} 0 1 = cc in omega arith)
    go true f e =
        let h = first_keep (opens free (limit_in jobs maps j)) order e in
        let i = at_member 0 (first_member h) in
        record {
          movable = f;
          node = rw (← i.2) (o.nodes i.0 i.1);
          other = λ q. o.others i.0 i.1 (i.2 ∙ q);
          above = ltb-true 0 (get_or free k 0) (both_true {a = has (limit_in jobs maps j) k} h.passes).1;
        }
