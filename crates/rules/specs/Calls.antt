-- Document 01, "Refusal numbers", with requests M-100, "Free counts kept, not counted", and M-103, "Jobs that number from 0": the calls, but
-- for M-107's drain. For each, what it answers and what it leaves in every table, for all inputs.
use Rattle.std.specs.Prelude.{ℕ, ◌+◌, ◌-◌, Bool, false, not, ◌&&◌, ◌||◌, List, [], ◌∷◌, map, length, get_or, set, leb, ltb, eqb}
use Rattle.std.proofs.Math.Option.{Option, none, some}
use Rattle.rules.specs.Basics.{from, sum, between}
use Rattle.rules.specs.Machine.{Machine, node_count, nodes_ok, pages_ok, machine_ok, page_table_ok, node_of_page, node_of_cpu}
use Rattle.rules.specs.Masks.{both, below, is_empty}
use Rattle.rules.specs.Records.{Policy, Record, Carries, nothing, aMask, aList, unknown, carries, mode_of, flag_of, mode_known, flag_known}
use Rattle.rules.specs.Records.{places_per_job, job_count, job_table_ok, record_at, put_record, fresh, well_formed, installed, rebound, with_turn}
use Rattle.rules.specs.Maps.{map_table_ok, map_bytes, nodes_in, put_map, good_nodes, good_map, set_of, system_node, application_node, turned}
use Rattle.rules.specs.Maps.{within_map, keeps_of}
use Rattle.rules.specs.SearchOrder.{Try, plan, order, has_room, chosen, pick_page}
use Rattle.rules.specs.Decisions.{Decision, refuse, accept, unless, then}

-- A call's answer. "Every refusal returns its number alone"
pub data Answer : Type 0 where
  granted : (node page : ℕ) → Answer
  released : (node page : ℕ) → Answer
  done : Answer
  drained : (moves : ℕ) → Answer
  refused : (number : ℕ) → Answer

-- "Answers .. refusal, node or FF, .. page or FFFFFFFF": an answer in numbers; M-107: "answer how many", where a page would stand
unfoldable pub numbers : Answer → List ℕ
numbers (granted n p) = 0 ∷ n ∷ p ∷ []
numbers (released n p) = 0 ∷ n ∷ p ∷ []
numbers done = 0 ∷ 255 ∷ 4294967295 ∷ []
numbers (drained moves) = 0 ∷ 255 ∷ moves ∷ []
numbers (refused r) = r ∷ 255 ∷ 4294967295 ∷ []

-- ---- what a call changes

-- The tables that the calls keep up: the page table, the job table, the free counts and the maps. "the page table handed in is the ledger,
-- the job table handed in the records; a later table that the calls keep up comes in likewise"
pub record Tables : Type 0 where
  pub ledger : List ℕ
  pub records : List ℕ
  pub free : List ℕ
  pub maps : List ℕ

abbrev pub tables_of : List ℕ → List ℕ → List ℕ → List ℕ → Tables
tables_of ledger records free maps = record { ledger = ledger; records = records; free = free; maps = maps }

-- the tables with another job table, with another page table and free counts, and with another job table and maps: what a call leaves that
-- is lent these alone
abbrev pub with_records : Tables → List ℕ → Tables
with_records t records = tables_of t.ledger records t.free t.maps

abbrev pub with_pages : Tables → List ℕ → List ℕ → Tables
with_pages t ledger free = tables_of ledger t.records free t.maps

abbrev pub with_jobs : Tables → List ℕ → List ℕ → Tables
with_jobs t records maps = tables_of t.ledger records t.free maps

-- A number that is written in a table at an index: a byte in the ledger at a page, or a free count at a node.
pub record Write : Type 0 where
  pub at : ℕ
  pub value : ℕ

abbrev pub write : ℕ → ℕ → Write
write at value = record { at = at; value = value }

-- A record that is stored for a job.
pub record Store : Type 0 where
  pub job : ℕ
  pub stored : Record

-- A map that is set for a job, by its nodes.
pub record Remap : Type 0 where
  pub job : ℕ
  pub nodes : List ℕ

-- What an accepted call does: its answer, the bytes that it writes in the ledger, the records that it stores, the free counts and the maps
-- that it sets.
pub record Change : Type 0 where
  pub answer : Answer
  pub writes : List Write
  pub stores : List Store
  pub recounts : List Write
  pub remaps : List Remap

-- a table after some writes, one after the other
unfoldable pub after_writes : List ℕ → List Write → List ℕ
after_writes table [] = table
after_writes table (w ∷ ws) = after_writes (set table w.at w.value) ws

-- the job table after some records are stored
unfoldable pub after_stores : List ℕ → List Store → List ℕ
after_stores records [] = records
after_stores records (s ∷ ss) = after_stores (put_record records s.job s.stored) ss

-- the map table after some maps are set
unfoldable pub after_remaps : List ℕ → List Remap → List ℕ
after_remaps maps [] = maps
after_remaps maps (r ∷ rs) = after_remaps (put_map maps r.job r.nodes) rs

-- What a call does: its answer, and the tables afterwards.
pub record Outcome : Type 0 where
  pub answer : Answer
  pub tables : Tables

abbrev pub outcome : Answer → Tables → Outcome
outcome answer tables = record { answer = answer; tables = tables }

-- A decided call applied to the tables; "a refused call changes nothing"
unfoldable pub applied : Tables → Decision Change → Outcome
applied t (refuse r) = outcome (refused r) t
applied t (accept c) =
    outcome c.answer
    (tables_of (after_writes t.ledger c.writes) (after_stores t.records c.stores) (after_writes t.free c.recounts)
    (after_remaps t.maps c.remaps))

-- "Install stores ..", "Rebind replaces ..", "Clear makes the record fresh": a record for job j, and nothing else changes
abbrev pub storing : ℕ → Record → Change
storing j r = record { answer = done; writes = []; stores = record { job = j; stored = r } ∷ []; recounts = []; remaps = [] }

-- M-103: these nodes for job j's map, and nothing else changes
abbrev pub mapping : ℕ → List ℕ → Change
mapping j nodes = record { answer = done; writes = []; stores = []; recounts = []; remaps = record { job = j; nodes = nodes } ∷ [] }

-- M-103: the nodes of job j's map
unfoldable pub map_of : Tables → ℕ → List ℕ
map_of t j = nodes_in (map_bytes t.maps j)

-- "a release [writes] 0"; M-100: the node has one free page more; M-103: "answers back", "A released page outside the map answers node FF"
abbrev pub freeing : List ℕ → Tables → ℕ → ℕ → Change
freeing counts t j p = record {
  answer = released (application_node (map_of t j) (node_of_page counts p)) p;
  writes = write p 0 ∷ [];
  stores = [];
  recounts = write (node_of_page counts p) (get_or t.free (node_of_page counts p) 0 + 1) ∷ [];
  remaps = [];
}

-- M-100: "A fresh table and its counts are made by one call: it frees every page of the machine, .. and in the ledger is a release of each
-- page"
abbrev pub freeing_all : List ℕ → Change
freeing_all counts = record {
  answer = done;
  writes = map (λ p. write p 0) (from 0 (sum counts));
  stores = [];
  recounts = map (λ n. write n (get_or counts n 0)) (from 0 (length counts));
  remaps = [];
}

-- ---- the tests

-- "2 no such job"
abbrev pub is_job : List ℕ → ℕ → Bool
is_job records j = ltb j (job_count (length records))

-- "3 no such CPU"
abbrev pub is_cpu : List ℕ → ℕ → Bool
is_cpu cpus k = ltb k (length cpus)

-- M-100: "A table not of N entries is refusal 1": by the lengths of the free counts and of the page counts
abbrev pub free_ok : ℕ → ℕ → Bool
free_ok n entries = eqb entries n

-- M-103: job table and maps are in order, by their lengths
unfoldable pub jobs_ok : ℕ → ℕ → Bool
jobs_ok words bytes = job_table_ok words && map_table_ok words bytes

-- "1 looks only at what a call is lent: all tables at request"
unfoldable pub request_tables_ok : Machine → Tables → Bool
request_tables_ok m t =
    machine_ok m && page_table_ok m.page_counts (length t.ledger) && jobs_ok (length t.records) (length t.maps)
    && free_ok (node_count m) (length t.free)

-- M-100: the fresh table is lent page counts, page table and free counts; the last two by their lengths
unfoldable pub fresh_tables_ok : List ℕ → ℕ → ℕ → Bool
fresh_tables_ok counts bytes entries = nodes_ok (length counts) && pages_ok counts && page_table_ok counts bytes && free_ok (length counts) entries

-- "1 looks only at what a call is lent: .. page counts, page and job table at release", the free counts and the maps
unfoldable pub release_tables_ok : List ℕ → Tables → Bool
release_tables_ok counts t =
    fresh_tables_ok counts (length t.ledger) (length t.free) && jobs_ok (length t.records) (length t.maps)

-- "1 looks only at what a call is lent: .. else N and the job table": by the job table's length
unfoldable pub record_tables_ok : ℕ → ℕ → Bool
record_tables_ok n words = nodes_ok n && job_table_ok words

-- and, of a call that is lent the maps, these too
unfoldable pub mapped_tables_ok : ℕ → ℕ → ℕ → Bool
mapped_tables_ok n words bytes = nodes_ok n && jobs_ok words bytes

-- M-103: the map of job j is good, else 15
unfoldable pub is_mapped : ℕ → Tables → ℕ → Bool
is_mapped n t j = good_map n (map_bytes t.maps j)

-- "5 .. a flag with modes 0, 4, 5, 6 or with preferred and an empty mask"
unfoldable pub flag_fits : Carries → Policy → Bool
flag_fits nothing p = eqb p.flag 0
flag_fits aMask p = eqb p.flag 0 || not (eqb p.mode 1 && is_empty p.user)
flag_fits aList p = eqb p.flag 0
flag_fits unknown p = false

-- "5 unknown mode or flag; .."
unfoldable pub policy_known : Policy → Bool
policy_known p = mode_known (mode_of p.mode) && flag_known (flag_of p.flag) && flag_fits (carries (mode_of p.mode)) p

-- "6 at install: .. flag 0 or 1 with a bit at N or above, or with a non-empty mask that misses the allowed set"
unfoldable pub mask_fits : ℕ → ℕ → Policy → Bool
mask_fits n allowed p = eqb p.flag 2 || (below n p.user && (is_empty p.user || not (is_empty (both p.user allowed))))

-- "6 at install: bind or interleave with an empty mask; default or a list mode with a mask; .. modes 0 to 3 with places; modes 4 to 6
-- with 0 or over 16 places"
unfoldable pub policy_fits : Carries → ℕ → ℕ → Policy → Bool
policy_fits nothing n allowed p = is_empty p.user && eqb (length p.places) 0
policy_fits aMask n allowed p = (eqb p.mode 1 || not (is_empty p.user)) && mask_fits n allowed p && eqb (length p.places) 0
policy_fits aList n allowed p = is_empty p.user && between 1 places_per_job (length p.places)
policy_fits unknown n allowed p = false

-- "9 a rebind gives an empty effective set, flag not static, user mask not empty"
unfoldable pub rebind_fits : Record → Bool
rebind_fits r = not (is_empty r.effective && not (eqb r.flag 1) && not (is_empty r.user))

-- "10 page number out of range, or not held by this job"
unfoldable pub holds : List ℕ → List ℕ → ℕ → ℕ → Bool
holds counts ledger j p = ltb p (sum counts) && eqb (get_or ledger p 0) (j + 1)

-- M-100: "a release that would take a count above the node's pages answers 14"
unfoldable pub count_fits : List ℕ → List ℕ → ℕ → Bool
count_fits counts free n = leb (get_or free n 0 + 1) (get_or counts n 0)

-- ---- the calls, decided

-- "Order: request 1, 2, 3, 4", and M-103's 15 "right after 2": a request's tests before the search; the record that it goes by
unfoldable pub admitted : Machine → Tables → ℕ → ℕ → Decision Record
admitted m t j k =
    unless (request_tables_ok m t) 1
    (unless (is_job t.records j) 2
    (unless (is_mapped (node_count m) t j) 15
    (unless (is_cpu m.cpu_nodes k) 3
    (unless (well_formed (node_count m) (record_at t.records j)) 4
    (accept (record_at t.records j))))))

-- the nodes that job j may get: its allowed set; M-103: "the map is a second limit beside the allowed set"
unfoldable pub limit_of : Tables → ℕ → ℕ
limit_of t j = both (record_at t.records j).allowed (set_of (map_of t j))

-- "Search order": job j's at a request from CPU k
unfoldable pub order_of : Machine → Tables → ℕ → ℕ → List Try
order_of m t j k =
    order (node_count m) m.distances (limit_of t j) (plan (limit_of t j) (record_at t.records j) (node_of_cpu m.cpu_nodes k))

-- M-105's page; "A grant to job j writes j + 1 at its page in the ledger"; the turn becomes what the try leaves; M-100: the
-- node has one free page less; M-103: "answers back"
abbrev pub granting : List ℕ → Tables → ℕ → Try → Change
granting counts t j s = record {
  answer = granted (application_node (map_of t j) s.node) (pick_page counts t.ledger j s.node);
  writes = write (pick_page counts t.ledger j s.node) (j + 1) ∷ [];
  stores = record { job = j; stored = with_turn (record_at t.records j) s.turn } ∷ [];
  recounts = write s.node (get_or t.free s.node 0 - 1) ∷ [];
  remaps = [];
}

-- M-100: "If a request, before it finds a page, meets a node counted above 0 with no free page, it answers new refusal 14 ..; in a request
-- it comes before 8, which then means every node in the order counted 0"
unfoldable pub serve : List ℕ → Tables → ℕ → Option Try → Decision Change
serve counts t j none = refuse 8
serve counts t j (some s) = unless (has_room counts t.ledger s.node) 14 (accept (granting counts t j s))

-- "Order: request 1, 2", 15, "3, 4", 14, "8"; the first node in the order that is counted above 0 grants
unfoldable pub request_decision : Machine → Tables → ℕ → ℕ → Decision Change
request_decision m t j k = then (admitted m t j k) (λ r. serve m.page_counts t j (chosen t.free (order_of m t j k)))

-- "release 1, 2", 15, "10"; M-100: "In a release 14 stands last"; "a release [writes] 0"
unfoldable pub release_decision : List ℕ → Tables → ℕ → ℕ → Decision Change
release_decision counts t j p =
    unless (release_tables_ok counts t) 1
    (unless (is_job t.records j) 2
    (unless (is_mapped (length counts) t j) 15
    (unless (holds counts t.ledger j p) 10
    (unless (count_fits counts t.free (node_of_page counts p)) 14
    (accept (freeing counts t j p))))))

-- M-100: the fresh table "can be refused only 1"
unfoldable pub fresh_decision : List ℕ → Tables → Decision Change
fresh_decision counts t = unless (fresh_tables_ok counts (length t.ledger) (length t.free)) 1 (accept (freeing_all counts))

-- M-103: an install fits if every application number that it names has an entry, and what they name fits by 01's rules
unfoldable pub install_fits : ℕ → List ℕ → ℕ → Policy → Bool
install_fits n nodes allowed p = within_map nodes p && policy_fits (carries (mode_of p.mode)) n allowed (turned nodes p)

-- "install 1, 2", 15, "4, 5, 7, 6"; M-103: what is stored are system nodes
unfoldable pub install_decision : ℕ → Tables → ℕ → Policy → Decision Change
install_decision n t j p =
    unless (mapped_tables_ok n (length t.records) (length t.maps)) 1
    (unless (is_job t.records j) 2
    (unless (is_mapped n t j) 15
    (unless (well_formed n (record_at t.records j)) 4
    (unless (policy_known p) 5
    (unless (not (is_empty (record_at t.records j).allowed)) 7
    (unless (install_fits n (map_of t j) (record_at t.records j).allowed p) 6
    (accept (storing j (installed (record_at t.records j) (turned (map_of t j) p))))))))))

-- "rebind 1, 2, 4, 6, 7, 9" and "6 .. At rebind: a bit at N or above"
unfoldable pub rebind_decision : ℕ → List ℕ → ℕ → ℕ → Decision Change
rebind_decision n records j allowed =
    unless (record_tables_ok n (length records)) 1
    (unless (is_job records j) 2
    (unless (well_formed n (record_at records j)) 4
    (unless (below n allowed) 6
    (unless (not (is_empty allowed)) 7
    (unless (rebind_fits (rebound (record_at records j) allowed)) 9
    (accept (storing j (rebound (record_at records j) allowed))))))))

-- "clear 1, 2"; "Clear makes the record fresh; held pages stay held"
unfoldable pub clear_decision : ℕ → List ℕ → ℕ → Decision Change
clear_decision n records j =
    unless (record_tables_ok n (length records)) 1
    (unless (is_job records j) 2
    (accept (storing j fresh)))

-- M-103: "The tenant's call may only drop nodes: it lists the application nodes it keeps of a good map, one or more, rising, else 15";
-- "Both test 1, 2, 15"
unfoldable pub keep_decision : ℕ → Tables → ℕ → List ℕ → Decision Change
keep_decision n t j kept =
    unless (mapped_tables_ok n (length t.records) (length t.maps)) 1
    (unless (is_job t.records j) 2
    (unless (is_mapped n t j && keeps_of (map_of t j) kept) 15
    (accept (mapping j (map (system_node (map_of t j)) kept)))))

-- M-103: "the administrator's sets any good list of system nodes, else 15"; "Both test 1, 2, 15"
unfoldable pub set_map_decision : ℕ → Tables → ℕ → List ℕ → Decision Change
set_map_decision n t j nodes =
    unless (mapped_tables_ok n (length t.records) (length t.maps)) 1
    (unless (is_job t.records j) 2
    (unless (good_nodes n nodes) 15
    (accept (mapping j nodes))))

-- ---- the calls, each for all inputs

unfoldable pub on_request : Machine → Tables → ℕ → ℕ → Outcome
on_request m t j k = applied t (request_decision m t j k)

unfoldable pub on_release : List ℕ → Tables → ℕ → ℕ → Outcome
on_release counts t j p = applied t (release_decision counts t j p)

unfoldable pub on_fresh : List ℕ → Tables → Outcome
on_fresh counts t = applied t (fresh_decision counts t)

unfoldable pub on_install : ℕ → Tables → ℕ → Policy → Outcome
on_install n t j p = applied t (install_decision n t j p)

unfoldable pub on_rebind : ℕ → Tables → ℕ → ℕ → Outcome
on_rebind n t j allowed = applied t (rebind_decision n t.records j allowed)

unfoldable pub on_clear : ℕ → Tables → ℕ → Outcome
on_clear n t j = applied t (clear_decision n t.records j)

unfoldable pub on_keep : ℕ → Tables → ℕ → List ℕ → Outcome
on_keep n t j kept = applied t (keep_decision n t j kept)

unfoldable pub on_set_map : ℕ → Tables → ℕ → List ℕ → Outcome
on_set_map n t j nodes = applied t (set_map_decision n t j nodes)

-- for a proof that computes: `unfolding open_calls` opens every definition of this file
unfoldable pub open_calls : Unit {0}
unfolding numbers after_writes after_stores after_remaps applied map_of jobs_ok request_tables_ok fresh_tables_ok release_tables_ok record_tables_ok
    mapped_tables_ok is_mapped flag_fits policy_known mask_fits policy_fits rebind_fits holds count_fits admitted limit_of order_of serve request_decision
    release_decision fresh_decision install_fits install_decision rebind_decision clear_decision keep_decision set_map_decision on_request on_release
    on_fresh on_install on_rebind on_clear on_keep on_set_map
open_calls = tt
