-- Demand 3 needs its premises: of a list with a granted rebind or install of the job in it, or from counts that do not match, the claim can
-- be false. (Files are checked by name, and what they use first: so a premise that bars too little is refused at `premise_needed`, before the
-- proof of the demand.)
-- Assumes nothing.
use Prim.Native.Nat.{ℕ, ◌≤◌}
use mathlib.Core.Path.{◌≡◌, refl}
use mathlib.Core.Bool.{Bool, true, false, not, ◌&&◌, false≢true}
use mathlib.Core.List.{List, [], ◌∷◌}
use native.Mathlib.Omega.{arith}
use borrow.Author.Tests.{eqb-true}
use lib.ListN.{length}
use lib.Dec.{eqb}
use Rattle.rules.specs.Basics.{all, Each}
use Rattle.rules.specs.Machine.{Machine}
use Rattle.rules.specs.Masks.{most_nodes, has, size}
use Rattle.rules.specs.Calls.{Tables}
use Rattle.rules.specs.Book.{Call, rebind, step}
use Rattle.rules.specs.FreeCounts.{Matches, open_free_counts}
use Rattle.rules.specs.Examples.{machine_a, installs}
use Rattle.rules.proofs.AllRight.{is_true}
use Rattle.rules.proofs.Lists.{both_true}
use Rattle.fairness.specs.Demand3.{record_in, Grant, sets_policy, is_refused, PolicyKept, is_open, row, times_node, Fair}
use Rattle.fairness.specs.Examples.{open_all, pair, after, starves, barred, spoils, premise_needed, miscounted, twice, matching_needed}

-- a test that all pass holds of each
all_each : (p : Grant → Bool) (gs : List Grant) → all p gs ≡ true → Each (λ g. p g ≡ true) gs
unfolding all Each
all_each p [] e = tt
all_each p (g ∷ gs) e = let b = both_true {a = p g} {b = all p gs} e in (b.0, all_each p gs b.1)

-- a list in which node 3 starves is not fair to a job that interleaves over it and one other node
pub unfair : (t : Tables) (cs : List Call) → (record_in t 0).mode ≡ 3 → size most_nodes (record_in t 0).effective ≡ 2 → has (record_in t 0).effective 3 ≡ true
    → starves t cs ≡ true → Fair machine_a t cs 0 → ⊥
unfair t cs three two member e f =
    let gs = row machine_a 0 t cs 0 2 in
    let open-each : Grant → Bool = λ g. is_open machine_a g.before 0 3 in
    let a = both_true {a = eqb (length gs) 2 && all open-each gs} {b = eqb (times_node machine_a 3 gs) 0} e in
    let b = both_true {a = eqb (length gs) 2} {b = all open-each gs} a.0 in
    let fair = rw two at (f.interleave three 1 0) in
    let l : 1 ≤ times_node machine_a 3 gs = (fair (eqb-true (length gs) 2 b.0)).at_least 3 (omega arith) member (all_each open-each gs b.1) in
    omega (arith, eqb-true (times_node machine_a 3 gs) 0 a.1)

-- and a list with a barred call does not keep the policy
pub not_kept : (c : Call) → barred c ≡ true → PolicyKept machine_a 0 pair (after c) → ⊥
unfolding PolicyKept
not_kept c e u =
    let a = both_true {a = sets_policy 0 c} {b = not (is_refused (step machine_a pair c).answer)} e in
    let r : not true ≡ true = rw (u.0 a.0) at a.1 in
    false≢true r

-- so the claim without its premise is false
pub without_premise : ((m : Machine) (t : Tables) (cs : List Call) (j : ℕ) → Matches m.page_counts t → Fair m t cs j) → ⊥
unfolding open_all open_free_counts
without_premise f =
    let c = rebind 0 11 in
    let a = both_true {a = spoils c} {b = spoils (installs 0 3 0 2 [])} (is_true _ premise_needed) in
    unfair pair (after c) refl refl refl (both_true {a = starves pair (after c)} {b = barred c} a.0).0 (f machine_a pair (after c) 0 refl)

-- M-100: and it is false for counts that do not match
pub without_matching : ((m : Machine) (t : Tables) (cs : List Call) (j : ℕ) → PolicyKept m j t cs → Fair m t cs j) → ⊥
unfolding open_all
without_matching f = unfair miscounted twice refl refl refl (is_true _ matching_needed) (f machine_a miscounted twice 0 (λ e. e, (λ e. e, tt)))
