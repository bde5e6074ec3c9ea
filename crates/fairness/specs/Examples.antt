-- Demand 3 on machine A, computed: two jobs, refused calls and releases in between.
use Rattle.std.specs.Prelude.{ℕ, ◌*◌, refl, Bool, not, ◌&&◌, List, [], ◌∷◌, ◌++◌, map, length, get_or, replicate, T, eqb}
use Rattle.rules.specs.Basics.{open_basics, all, same}
use Rattle.rules.specs.Machine.{open_machine}
use Rattle.rules.specs.Masks.{open_masks}
use Rattle.rules.specs.Records.{open_records, words_per_job}
use Rattle.rules.specs.Maps.{open_maps, identity_maps}
use Rattle.rules.specs.SearchOrder.{open_search_order}
use Rattle.rules.specs.Calls.{open_calls, Tables, tables_of, numbers}
use Rattle.rules.specs.Drain.{open_drain}
use Rattle.rules.specs.Book.{open_book, Call, request, release, rebind, clear, drain, step, answers, final}
use Rattle.rules.specs.Examples.{machine_a, installs}
use Rattle.fairness.specs.Demand3.{Grant, grant_by, grant_in, grants, sets_policy, is_refused, PolicyKept, is_open, place_open, place_granted}
use Rattle.fairness.specs.Demand3.{node_granted, row}
use Rattle.fairness.specs.Demand3.{times_place, times_node}

-- for a proof that computes: `unfolding open_demand3` opens every definition of demand 3, `unfolding open_all` those of the rules too
unfoldable pub open_demand3 : Unit {0}
unfolding grant_by grant_in grants sets_policy is_refused PolicyKept is_open place_open place_granted node_granted
open_demand3 = tt

unfoldable pub open_all : Unit {0}
unfolding open_basics open_machine open_masks open_records open_maps open_search_order open_calls open_drain open_book open_demand3
open_all = tt

-- the tables that these calls leave, from all pages free and two fresh jobs with map 0 to 3
abbrev pub made : List Call → Tables
made cs = final machine_a (tables_of (replicate 6 0) (replicate (words_per_job * 2) 0) machine_a.page_counts (identity_maps 4 2)) cs

-- job 0 on nodes 0, 1 and 3 in this mode, job 1 default
abbrev pub start : ℕ → ℕ → List ℕ → Tables
start mode user places = made (rebind 0 15 ∷ installs 0 mode 0 user places ∷ rebind 1 15 ∷ [])

-- a request of job 0, then a refused one, an install refused, and job 1 taking a page and giving it back
abbrev pub turn : ℕ → List Call
turn p = request 0 0 ∷ request 0 9 ∷ installs 0 7 0 0 [] ∷ request 1 6 ∷ release 1 p ∷ []

-- how often each of three places, or nodes 0, 1 and 3, was granted in the row
abbrev pub places : List Grant → List ℕ
places gs = map (λ p. times_place machine_a 0 p gs) (0 ∷ 1 ∷ 2 ∷ [])

abbrev pub nodes : List Grant → List ℕ
nodes gs = map (λ n. times_node machine_a n gs) (0 ∷ 1 ∷ 3 ∷ [])

-- five turns with room everywhere; then five with node 1 filled first, where the others take its turns
abbrev pub calls : List Call
calls = turn 4 ++ turn 4 ++ turn 4 ++ turn 5 ++ turn 5

abbrev pub crowded : List Call
crowded = rebind 1 2 ∷ request 1 0 ∷ request 1 0 ∷ request 0 0 ∷ request 0 0 ∷ request 0 0 ∷ request 0 0 ∷ []

pub all_right : T (
    -- ring {0,1,3}: three grants in a row, from the first and from the second on, are one each
    same (places (row machine_a 0 (start 5 0 (0 ∷ 1 ∷ 3 ∷ [])) calls 0 3)) (1 ∷ 1 ∷ 1 ∷ [])
    && same (places (row machine_a 0 (start 5 0 (0 ∷ 1 ∷ 3 ∷ [])) calls 1 3)) (1 ∷ 1 ∷ 1 ∷ [])
    && eqb (length (grants machine_a 0 (start 5 0 (0 ∷ 1 ∷ 3 ∷ [])) calls)) 5
    -- interleave over 0, 1 and 3 likewise
    && same (nodes (row machine_a 0 (start 3 11 []) calls 1 3)) (1 ∷ 1 ∷ 1 ∷ [])
    -- with node 1 full, places 0 and 2 have at least their turn
    && same (places (row machine_a 0 (start 5 0 (0 ∷ 1 ∷ 3 ∷ [])) crowded 0 3)) (2 ∷ 0 ∷ 1 ∷ [])
    && eqb (length (grants machine_a 0 (start 5 0 (0 ∷ 1 ∷ 3 ∷ [])) crowded)) 4)
unfolding open_all
all_right = tt

-- ---- clear, which is not barred

-- three requests, a clear and three calls of job 0, with a request of job 1 among them; then a second clear and a request
abbrev pub cleared : List Call
cleared =
    request 0 0 ∷ request 0 0 ∷ request 0 0 ∷ clear 0
    ∷ request 0 0 ∷ request 1 6 ∷ installs 0 5 0 0 (0 ∷ []) ∷ clear 0 ∷ request 0 0 ∷ []

-- the first three requests alone are granted, each place once; after the clear requests are refused 8, the install 7
pub clear_ends_grants : T (
    same (places (grants machine_a 0 (start 5 0 (0 ∷ 1 ∷ 3 ∷ [])) cleared)) (1 ∷ 1 ∷ 1 ∷ [])
    && eqb (length (grants machine_a 0 (start 5 0 (0 ∷ 1 ∷ 3 ∷ [])) cleared)) 3
    && same (map (λ a. get_or (numbers a) 0 99) (answers machine_a (start 5 0 (0 ∷ 1 ∷ 3 ∷ [])) cleared)) (0 ∷ 0 ∷ 0 ∷ 0 ∷ 8 ∷ 0 ∷ 7 ∷ 0 ∷ 8 ∷ []))
unfolding open_all
clear_ends_grants = tt

-- the premise of demand 3 holds of that list, call by call
pub clear_may_come : PolicyKept machine_a 0 (start 5 0 (0 ∷ 1 ∷ 3 ∷ [])) cleared
unfolding open_all
clear_may_come = (λ e. e, (λ e. e, (λ e. e, (λ e. e, (λ e. refl, (λ e. e, (λ e. refl, (λ e. e, (λ e. refl, tt)))))))))

-- ---- M-107: drains between the requests

-- three requests of job 0; each page that it got is moved on before the next
abbrev pub drained : List Call
drained = request 0 0 ∷ drain 0 2 ∷ request 0 0 ∷ drain 1 4 ∷ request 0 0 ∷ []

-- "in demand 3 it isn't a granted request", and "Cursors stay": three grants, one at each place; pages 2, 0 and 1 were taken by moves, of which
-- the book says nothing
pub drains_grant_nothing : T (
    same (places (grants machine_a 0 (start 5 0 (0 ∷ 1 ∷ 3 ∷ [])) drained)) (1 ∷ 1 ∷ 1 ∷ [])
    && same (map (λ g. g.page) (grants machine_a 0 (start 5 0 (0 ∷ 1 ∷ 3 ∷ [])) drained)) (0 ∷ 3 ∷ 4 ∷ [])
    && same (final machine_a (start 5 0 (0 ∷ 1 ∷ 3 ∷ [])) drained).ledger (1 ∷ 1 ∷ 0 ∷ 0 ∷ 1 ∷ 0 ∷ []))
unfolding open_all
drains_grant_nothing = tt

-- and a drain sets no job's policy
pub drains_may_come : PolicyKept machine_a 0 (start 5 0 (0 ∷ 1 ∷ 3 ∷ [])) drained
unfolding open_all
drains_may_come = (λ e. e, (λ e. e, (λ e. e, (λ e. e, (λ e. e, tt)))))

-- ---- why a granted rebind or install of the job is barred

-- job 0 interleaves over all that it is allowed, nodes 1 and 3
abbrev pub pair : Tables
pair = made (rebind 0 10 ∷ installs 0 3 0 10 [] ∷ [])

-- this call, then as many requests as there were effective nodes
abbrev pub after : Call → List Call
after c = c ∷ request 0 0 ∷ request 0 0 ∷ []

-- the first two requests of job 0 are granted; node 3 "is allowed and has a free page before each of these requests", and neither is granted
-- there
abbrev pub starves : Tables → List Call → Bool
starves t cs =
    let gs = row machine_a 0 t cs 0 2 in
    eqb (length gs) 2 && all (λ g. is_open machine_a g.before 0 3) gs && eqb (times_node machine_a 3 gs) 0

-- the call is one "to set its policy or limits", and is not refused: demand 3 does not speak of the list
abbrev pub barred : Call → Bool
barred c = sets_policy 0 c && not (is_refused (step machine_a pair c).answer)

-- the claim is false of the list, and its premise keeps the list out
abbrev pub spoils : Call → Bool
spoils c = starves pair (after c) && barred c

-- a rebind to nodes 0, 1 and 3 makes nodes 0 and 1 the effective ones; an install of node 1 alone leaves node 3 out likewise
pub premise_needed : T (spoils (rebind 0 11) && spoils (installs 0 3 0 2 []))
unfolding open_all
premise_needed = tt

-- ---- why the counts have to match

-- the same job, with node 3 counted 0 though both its pages are free
abbrev pub miscounted : Tables
miscounted = tables_of pair.ledger pair.records (2 ∷ 2 ∷ 0 ∷ 0 ∷ []) pair.maps

-- two requests, and no call that sets a policy
abbrev pub twice : List Call
twice = request 0 0 ∷ request 0 0 ∷ []

pub matching_needed : T (starves miscounted twice)
unfolding open_all
matching_needed = tt
