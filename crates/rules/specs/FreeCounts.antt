-- Request M-100, "Free counts kept, not counted": when the counts match the page table, and the law without counts, document 01 with
-- every amendment but M-100, which the calls then follow: "every call answers as before".
use Rattle.std.specs.Prelude.{ℕ, ◌≡◌, Bool, ◌&&◌, List, [], ◌∷◌, length, ltb}
use Rattle.std.proofs.Math.Option.{Option, none, some}
use Rattle.rules.specs.Basics.{keep, first}
use Rattle.rules.specs.Machine.{Machine, node_count, nodes_ok, pages_ok, distances_ok, machine_ok, page_table_ok}
use Rattle.rules.specs.Records.{record_at, well_formed}
use Rattle.rules.specs.SearchOrder.{Try, has_room, free_counts}
use Rattle.rules.specs.Decisions.{Decision, refuse, accept, unless, then}
use Rattle.rules.specs.Calls.{Answer, Tables, tables_of, Change, Outcome, outcome, applied, granting, freeing, freeing_all, is_job, is_cpu}
use Rattle.rules.specs.Calls.{jobs_ok, is_mapped, holds, order_of, install_decision, rebind_decision, clear_decision, keep_decision, set_map_decision}
use Rattle.rules.specs.Drain.{draining, moves_within}
use Rattle.rules.specs.Book.{Call, request, release, install, rebind, clear, fresh_table, keep_nodes, set_map, drain}

-- ---- counts that match

-- "the counts match the page table"
abbrev pub Matches : List ℕ → Tables → Type 0
Matches counts t = t.free ≡ free_counts counts t.ledger

-- an outcome with the counts of its page table
abbrev pub recounted : List ℕ → Outcome → Outcome
recounted counts o =
    outcome o.answer (tables_of o.tables.ledger o.tables.records (free_counts counts o.tables.ledger) o.tables.maps)

-- ---- the law without counts

-- "The first node in the order with a free page"
unfoldable pub first_with_room : List ℕ → List ℕ → List Try → Option Try
first_with_room counts ledger ts = first (keep (λ t. has_room counts ledger t.node) ts)

-- "8 no node in the order has a free page"
unfoldable pub serve_uncounted : List ℕ → Tables → ℕ → Option Try → Decision Change
serve_uncounted counts t j none = refuse 8
serve_uncounted counts t j (some s) = accept (granting counts t j s)

-- "Order: request 1, 2", 15, "3, 4, 8"; "1 looks only at what a call is lent: all tables at request"
unfoldable pub request_uncounted : Machine → Tables → ℕ → ℕ → Decision Change
request_uncounted m t j k =
    unless (machine_ok m && page_table_ok m.page_counts (length t.ledger) && jobs_ok (length t.records) (length t.maps)) 1
    (unless (is_job t.records j) 2
    (unless (is_mapped (node_count m) t j) 15
    (unless (is_cpu m.cpu_nodes k) 3
    (unless (well_formed (node_count m) (record_at t.records j)) 4
    (serve_uncounted m.page_counts t j (first_with_room m.page_counts t.ledger (order_of m t j k)))))))

-- page counts and page table are in order
unfoldable pub pages_in_order : List ℕ → Tables → Bool
pages_in_order counts t = nodes_ok (length counts) && pages_ok counts && page_table_ok counts (length t.ledger)

-- "release 1, 2", 15, "10"; "1 looks only at .. page counts, page and job table at release", and the maps
unfoldable pub release_uncounted : List ℕ → Tables → ℕ → ℕ → Decision Change
release_uncounted counts t j p =
    unless (pages_in_order counts t && jobs_ok (length t.records) (length t.maps)) 1
    (unless (is_job t.records j) 2
    (unless (is_mapped (length counts) t j) 15
    (unless (holds counts t.ledger j p) 10
    (accept (freeing counts t j p)))))

-- the fresh table: 1 alone
unfoldable pub fresh_uncounted : List ℕ → Tables → Decision Change
fresh_uncounted counts t = unless (pages_in_order counts t) 1 (accept (freeing_all counts))

-- M-107: 1, 6, 17, 11
unfoldable pub drain_uncounted : List ℕ → List ℕ → ℕ → Tables → ℕ → Decision Change
drain_uncounted counts distances x t room =
    unless (pages_in_order counts t && distances_ok (length counts) distances && jobs_ok (length t.records) (length t.maps)) 1
    (unless (ltb x (length counts)) 6
    (then (moves_within counts distances x t room) (λ vs. accept (draining x t vs))))

unfoldable pub decision_uncounted : Machine → Tables → Call → Decision Change
decision_uncounted m t (request j k) = request_uncounted m t j k
decision_uncounted m t (release j p) = release_uncounted m.page_counts t j p
decision_uncounted m t (install j p) = install_decision (node_count m) t j p
decision_uncounted m t (rebind j allowed) = rebind_decision (node_count m) t.records j allowed
decision_uncounted m t (clear j) = clear_decision (node_count m) t.records j
decision_uncounted m t fresh_table = fresh_uncounted m.page_counts t
decision_uncounted m t (keep_nodes j kept) = keep_decision (node_count m) t j kept
decision_uncounted m t (set_map j nodes) = set_map_decision (node_count m) t j nodes
decision_uncounted m t (drain x room) = drain_uncounted m.page_counts m.distances x t room

-- one call, decided by the page table alone: no test reads a count, and whatever counts a change sets, these are counted anew
unfoldable pub step_uncounted : Machine → Tables → Call → Outcome
step_uncounted m t c = recounted m.page_counts (applied t (decision_uncounted m t c))

-- a list of calls: the answers, and the tables afterwards
unfoldable pub answers_uncounted : Machine → Tables → List Call → List Answer
answers_uncounted m t [] = []
answers_uncounted m t (c ∷ cs) = (step_uncounted m t c).answer ∷ answers_uncounted m (step_uncounted m t c).tables cs

unfoldable pub final_uncounted : Machine → Tables → List Call → Tables
final_uncounted m t [] = t
final_uncounted m t (c ∷ cs) = final_uncounted m (step_uncounted m t c).tables cs

-- for a proof that computes: `unfolding open_free_counts` opens every definition of this file
unfoldable pub open_free_counts : Unit {0}
unfolding first_with_room serve_uncounted request_uncounted pages_in_order release_uncounted fresh_uncounted drain_uncounted decision_uncounted step_uncounted
    answers_uncounted final_uncounted
open_free_counts = tt
