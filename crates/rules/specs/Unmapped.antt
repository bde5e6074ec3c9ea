-- The calls before request M-103, "Jobs that number from 0": document 01 with every amendment but it, which the calls follow where every
-- job's map is 0 to N-1, "Journal jobs have map 0 to N-1", but for a place at N or above, now "past the map's end", other than M-104's
-- closing 255.
use Rattle.std.specs.Prelude.{ℕ, ◌≡◌, Bool, true, false, not, ◌&&◌, List, length, leb}
use Rattle.std.proofs.Math.Option.{Option, none, some}
use Rattle.rules.specs.Basics.{any}
use Rattle.rules.specs.Machine.{Machine, node_count, machine_ok, page_table_ok, node_of_page, node_of_cpu}
use Rattle.rules.specs.Masks.{is_empty}
use Rattle.rules.specs.Records.{Policy, carries, mode_of, job_count, job_table_ok, record_at, well_formed, installed}
use Rattle.rules.specs.Maps.{named_places, identity_maps}
use Rattle.rules.specs.SearchOrder.{Try, plan, order, has_room, chosen, pick_page}
use Rattle.rules.specs.Decisions.{Decision, refuse, accept, unless}
use Rattle.rules.specs.Calls.{Answer, granted, released, Tables, Change, storing, granting, freeing, is_job, is_cpu, free_ok, fresh_tables_ok}
use Rattle.rules.specs.Calls.{record_tables_ok, policy_known, policy_fits, holds, count_fits}
use Rattle.rules.specs.Book.{Call, request, release, install, rebind, clear, fresh_table, keep_nodes, set_map, drain}

-- ---- map 0 to N-1

-- "Journal jobs have map 0 to N-1": every job of the tables has it
abbrev pub Identity : Machine → Tables → Type 0
Identity m t = t.maps ≡ identity_maps (node_count m) (job_count (length t.records))

-- "The tenant's call .. the administrator's": the calls that set a map, which there were not before
abbrev pub sets_map : Call → Bool
sets_map (request j k) = false
sets_map (release j p) = false
sets_map (install j p) = false
sets_map (rebind j allowed) = false
sets_map (clear j) = false
sets_map fresh_table = false
sets_map (keep_nodes j kept) = true
sets_map (set_map j nodes) = true
sets_map (drain x room) = false

-- "an application number past the map's end": a place that names a node, N or above
unfoldable pub Past : ℕ → Policy → Bool
Past n p = any (λ a. leb n a) (named_places p)

-- ---- the law without maps

-- the same change with another answer
abbrev pub answering : Answer → Change → Change
answering answer c =
    record { answer = answer; writes = c.writes; stores = c.stores; recounts = c.recounts; remaps = c.remaps }

-- "Search order": job j's at a request from CPU k, the allowed set the only limit
unfoldable pub order_unmapped : Machine → Tables → ℕ → ℕ → List Try
order_unmapped m t j k =
    order (node_count m) m.distances (record_at t.records j).allowed
    (plan (record_at t.records j).allowed (record_at t.records j) (node_of_cpu m.cpu_nodes k))

-- M-105's page, M-100's 14 and 8: the answer has the node's number on the machine
unfoldable pub serve_unmapped : List ℕ → Tables → ℕ → Option Try → Decision Change
serve_unmapped counts t j none = refuse 8
serve_unmapped counts t j (some s) =
    unless (has_room counts t.ledger s.node) 14
    (accept (answering (granted s.node (pick_page counts t.ledger j s.node)) (granting counts t j s)))

-- "Order: request 1, 2, 3, 4", 14, "8"; "1 looks only at what a call is lent: all tables at request", the free counts too
unfoldable pub request_unmapped : Machine → Tables → ℕ → ℕ → Decision Change
request_unmapped m t j k =
    unless
    (machine_ok m && page_table_ok m.page_counts (length t.ledger) && job_table_ok (length t.records) && free_ok (node_count m) (length t.free))
    1
    (unless (is_job t.records j) 2
    (unless (is_cpu m.cpu_nodes k) 3
    (unless (well_formed (node_count m) (record_at t.records j)) 4
    (serve_unmapped m.page_counts t j (chosen t.free (order_unmapped m t j k))))))

-- "release 1, 2, 10"; M-100: "In a release 14 stands last"; "Release answers its node and page": the node's number on the machine
unfoldable pub release_unmapped : List ℕ → Tables → ℕ → ℕ → Decision Change
release_unmapped counts t j p =
    unless (fresh_tables_ok counts (length t.ledger) (length t.free) && job_table_ok (length t.records)) 1
    (unless (is_job t.records j) 2
    (unless (holds counts t.ledger j p) 10
    (unless (count_fits counts t.free (node_of_page counts p)) 14
    (accept (answering (released (node_of_page counts p) p) (freeing counts t j p))))))

-- "install 1, 2, 4, 5, 7, 6"; "1 looks only at .. else N and the job table"
unfoldable pub install_unmapped : ℕ → List ℕ → ℕ → Policy → Decision Change
install_unmapped n records j p =
    unless (record_tables_ok n (length records)) 1
    (unless (is_job records j) 2
    (unless (well_formed n (record_at records j)) 4
    (unless (policy_known p) 5
    (unless (not (is_empty (record_at records j).allowed)) 7
    (unless (policy_fits (carries (mode_of p.mode)) n (record_at records j).allowed p) 6
    (accept (storing j (installed (record_at records j) p))))))))
