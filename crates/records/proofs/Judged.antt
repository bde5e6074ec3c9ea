-- Rebind once the job's record is read and well formed; a job's map, judged; install once its map is found good.
-- Assumes nothing.
use Prim.Native.Nat.{ℕ, ◌≤◌, ◌<◌}
use mathlib.Core.Path.{◌≡◌, refl, sym, ap, ◌∙◌}
use mathlib.Core.Bool.{Bool, true, false, not, ◌&&◌, and-false}
use mathlib.Core.List.{List}
use native.Mathlib.Omega.{arith}
use borrow.Author.Tests.{ltb-true, lt-ltb, le-leb}
use lib.Dec.{leb, ltb}
use lib.ListN.{length, length-map}
use Rattle.rules.specs.Basics.{all}
use Rattle.rules.specs.Masks.{most_nodes, is_empty, below}
use Rattle.rules.specs.Records.{places_per_job, Policy, policy, Record, carries, mode_of, flag_of, mode_known, flag_known, record_at, well_formed}
use Rattle.rules.specs.Records.{rebound}
use Rattle.rules.specs.Maps.{map_size, nodes_in, good_map, system_node, turned, within_map}
use Rattle.rules.specs.Decisions.{Decision, accept, unless}
use Rattle.rules.specs.Calls.{Tables, Change, storing, map_of, is_job, is_mapped, record_tables_ok, mapped_tables_ok, flag_fits, policy_known}
use Rattle.rules.specs.Calls.{policy_fits, install_fits, rebind_fits, install_decision, rebind_decision}
use Rattle.rules.proofs.Lists.{both_true, ◌∈◌, all_true, true_all}
use Rattle.rules.proofs.Maps.{map_nodes}
use Rattle.rules.proofs.WellFormed.{mode_small, flag_small, few_places}
use Rattle.records.specs.Jobs.{Numbers}
use Rattle.records.specs.Installs.{install_tests}

-- the tests of a rebind that are left, "6, 7, 9"
abbrev pub rebind_tests : ℕ → ℕ → Record → ℕ → Decision Change
rebind_tests n j r allowed =
    unless (below n allowed) 6
    (unless (not (is_empty allowed)) 7
    (unless (rebind_fits (rebound r allowed)) 9
    (accept (storing j (rebound r allowed)))))

module _ (n : ℕ) (t : List ℕ) (j : ℕ) {r : Record}
    (tables : record_tables_ok n (length t) ≡ true) (job : is_job t j ≡ true) (read : r ≡ record_at t j) (well : well_formed n r ≡ true) where
  -- a rebind goes on with them
  pub rebind_judged : (allowed : ℕ) → rebind_decision n t j allowed ≡ rebind_tests n j r allowed
  unfolding rebind_decision
  rebind_judged allowed = rw (tables, job, sym read, well)

-- an install whose job is there and has a good map goes on with the tests that are left
pub install_judged : (n : ℕ) (t : Tables) (j : ℕ) → mapped_tables_ok n (length t.records) (length t.maps) ≡ true → is_job t.records j ≡ true
    → is_mapped n t j ≡ true → (p : Policy) → install_decision n t j p ≡ install_tests n (map_of t j) (record_at t.records j) j p
unfolding install_decision
install_judged n t j tables job good p = rw (tables, job, good)

-- the nodes of a good map are at most 64, and each is below 64
pub good_small : (n : ℕ) (bytes : List ℕ) → n ≤ most_nodes → good_map n bytes ≡ true
    → (length (nodes_in bytes) ≤ map_size) × (all (λ k. ltb k most_nodes) (nodes_in bytes) ≡ true)
good_small n bytes few good =
    let g = map_nodes n bytes good in
    let below : (k : ℕ) → k ∈ nodes_in bytes → ltb k most_nodes ≡ true =
    λ k m. lt-ltb k most_nodes (omega (arith, ltb-true k n (all_true (λ i. ltb i n) g.known m))) in
    (g.few, true_all (λ k. ltb k most_nodes) (nodes_in bytes) below)

-- a policy by its numbers
pub by_numbers : {mode flag user len : ℕ} {places : List ℕ} {p : Policy} → Numbers mode flag user len places p → p ≡ policy mode flag user p.places
by_numbers {p = p} a = λ i. record { mode = a.same_mode i; flag = a.same_flag i; user = a.same_user i; places = p.places }

-- one that fits has at most sixteen places
pub fits_few : (n : ℕ) (nodes : List ℕ) (allowed : ℕ) (p : Policy) → install_fits n nodes allowed p
    ≡ ((leb (length p.places) places_per_job && within_map nodes p) && policy_fits (carries (mode_of p.mode)) n allowed (turned nodes p))
unfolding install_fits turned
fits_few n nodes allowed p = go (policy_fits (carries (mode_of p.mode)) n allowed (turned nodes p)) refl
  where
    go : (b : Bool) → policy_fits (carries (mode_of p.mode)) n allowed (turned nodes p) ≡ b
        → (within_map nodes p && b) ≡ ((leb (length p.places) places_per_job && within_map nodes p) && b)
    go true e =
        let few = few_places (carries (mode_of p.mode)) n allowed (turned nodes p) e in
        rw (le-leb (length p.places) places_per_job (rw (length-map p.places (system_node nodes)) at few))
    go false e = and-false (within_map nodes p) ∙ sym (and-false (leb (length p.places) places_per_job && within_map nodes p))

-- the policy in system nodes fits by its numbers
pub fits_turned : {mode flag user len : ℕ} {places : List ℕ} (n allowed : ℕ) (nodes : List ℕ) (p : Policy)
    → Numbers mode flag user len places (turned nodes p)
    → policy_fits (carries (mode_of p.mode)) n allowed (turned nodes p)
    ≡ policy_fits (carries (mode_of mode)) n allowed (policy mode flag user (turned nodes p).places)
unfolding turned
fits_turned {mode = mode} n allowed nodes p a =
    ap (λ (m : ℕ). policy_fits (carries (mode_of m)) n allowed (turned nodes p)) a.same_mode
    ∙ ap (policy_fits (carries (mode_of mode)) n allowed) (by_numbers a)

-- mode and flag of a known policy are small
pub small_numbers : (p : Policy) → policy_known p ≡ true → (p.mode < 256) × (p.flag < 3)
unfolding policy_known
small_numbers p k =
    let m = both_true {a = mode_known (mode_of p.mode) && flag_known (flag_of p.flag)} {b = flag_fits (carries (mode_of p.mode)) p} k in
    let b = both_true {a = mode_known (mode_of p.mode)} {b = flag_known (flag_of p.flag)} m.0 in
    (omega (arith, mode_small p.mode b.0), flag_small p.flag b.1)
