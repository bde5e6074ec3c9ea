-- Request M-106 by examples: the reasons of each node at a request of job 0, put into one byte more than there are nodes, all 9 before.
use Rattle.std.specs.Prelude.{ℕ, suc, Bool, ◌&&◌, List, [], ◌∷◌, ◌++◌, replicate, T}
use Rattle.rules.specs.Basics.{open_basics, all, same}
use Rattle.rules.specs.Machine.{open_machine, Machine, node_count}
use Rattle.rules.specs.Masks.{open_masks}
use Rattle.rules.specs.Records.{open_records}
use Rattle.rules.specs.Maps.{open_maps, bytes_for, identity_maps}
use Rattle.rules.specs.SearchOrder.{open_search_order}
use Rattle.rules.specs.Calls.{open_calls, Tables, tables_of}
use Rattle.rules.specs.Book.{open_book, Call, request, rebind, set_map, final}
use Rattle.rules.specs.Answers.{in_numbers}
use Rattle.rules.specs.Reasons.{open_reasons, on_reasons}
use Rattle.rules.specs.Examples.{machine_a, start, nodes, installs, set_up}

-- What an example says: after these calls the reasons at a request from this CPU are these; or, on these tables, a call for this job and CPU
-- with so much room is refused with this number.
pub data Example : Type 0 where
  reasons : (m : Machine) (t : Tables) (calls : List Call) (cpu : ℕ) (wanted : List ℕ) → Example
  refuses : (t : Tables) (job cpu room number : ℕ) → Example

abbrev pub right : Example → Bool
right (reasons m t calls cpu wanted) =
    let done = on_reasons m (final m t calls) 0 cpu (replicate (suc (node_count m)) 9) in
    same (in_numbers done.answer) (0 ∷ node_count m ∷ []) && same done.output (wanted ++ (9 ∷ []))
right (refuses t job cpu room number) =
    let done = on_reasons machine_a t job cpu (replicate room 9) in
    same (in_numbers done.answer) (number ∷ 0 ∷ []) && same done.output (replicate room 9)

-- after these calls on a machine with all pages free
abbrev on_free : Machine → List Call → ℕ → List ℕ → Example
on_free m calls cpu wanted = reasons m (start m) calls cpu wanted

-- on machine A, job 0 being allowed all nodes and installed so, after some requests from CPU 0
abbrev on_a : (mode flag user : ℕ) (places : List ℕ) → List Call → ℕ → List ℕ → Example
on_a mode flag user places calls cpu wanted = on_free machine_a (set_up mode flag user places ++ calls) cpu wanted

abbrev ask : Call
ask = request 0 0

-- three nodes of two pages, a CPU on each: from node 0, node 1 is unreachable; from node 2, both others are
abbrev cut_off : Machine
cut_off = record {
  page_counts = 2 ∷ 2 ∷ 2 ∷ [];
  cpu_nodes = 0 ∷ 1 ∷ 2 ∷ [];
  distances = 10 ∷ 255 ∷ 254 ∷ 20 ∷ 10 ∷ 20 ∷ 255 ∷ 255 ∷ 10 ∷ [];
}

-- there, job 0 being allowed these nodes and installed so, after some requests from CPU 0
abbrev apart : (allowed mode user : ℕ) (places : List ℕ) → List Call → ℕ → List ℕ → Example
apart allowed mode user places calls cpu wanted = on_free cut_off (rebind 0 allowed ∷ installs 0 mode 0 user places ∷ calls) cpu wanted

-- machine A with this page table and these free counts, and one job with these words, whose map is 0 to 3
abbrev given : (ledger free words : List ℕ) → Tables
given ledger free words = tables_of ledger words free (identity_maps 4 1)

-- a job in default mode with all nodes allowed; and one whose words are no record
abbrev in_default : List ℕ
in_default = 0 ∷ 0 ∷ 15 ∷ 0 ∷ 0 ∷ 0 ∷ []

abbrev no_record : List ℕ
no_record = 9 ∷ 0 ∷ 15 ∷ 0 ∷ 0 ∷ 0 ∷ []

-- modes 0 to 3
abbrev pub by_near : List Example
by_near =
    -- default, CPU 4: order 2,0,3,1; node 2 has no pages
    on_a 0 0 0 [] [] 4 (6 ∷ 7 ∷ 5 ∷ 7 ∷ [])
    -- "1 not allowed": nodes 2 and 3; a fresh job may get none
    ∷ on_free machine_a (rebind 0 3 ∷ []) 0 (6 ∷ 7 ∷ 1 ∷ 1 ∷ [])
    ∷ on_free machine_a [] 0 (1 ∷ 1 ∷ 1 ∷ 1 ∷ [])
    -- "code 1 includes nodes outside the map"
    ∷ on_free machine_a (rebind 0 15 ∷ set_map 0 (3 ∷ 1 ∷ []) ∷ []) 0 (1 ∷ 6 ∷ 1 ∷ 7 ∷ [])
    -- bind 1,3: "2 outside a bind set in force"; then node 1 is full; then both are, and no node is chosen
    ∷ on_a 2 0 (nodes (1 ∷ 3 ∷ [])) [] [] 0 (2 ∷ 6 ∷ 2 ∷ 7 ∷ [])
    ∷ on_a 2 0 (nodes (1 ∷ 3 ∷ [])) [] (ask ∷ ask ∷ []) 0 (2 ∷ 5 ∷ 2 ∷ 6 ∷ [])
    ∷ on_a 2 0 (nodes (1 ∷ 3 ∷ [])) [] (ask ∷ ask ∷ ask ∷ ask ∷ []) 0 (2 ∷ 5 ∷ 2 ∷ 5 ∷ [])
    -- bind 3, static, rebound to 0-1: the set is empty and not in force
    ∷ on_a 2 1 (nodes (3 ∷ [])) [] (rebind 0 3 ∷ []) 0 (6 ∷ 7 ∷ 1 ∷ 1 ∷ [])
    -- interleave 1-3: node 0, outside the effective set, has room and comes later; with target 2, which is full, it is chosen
    ∷ on_a 3 0 (nodes (1 ∷ 2 ∷ 3 ∷ [])) [] [] 0 (7 ∷ 6 ∷ 5 ∷ 7 ∷ [])
    ∷ on_a 3 0 (nodes (1 ∷ 2 ∷ 3 ∷ [])) [] (ask ∷ []) 0 (6 ∷ 7 ∷ 5 ∷ 7 ∷ [])
    -- "3 unreachable": from the CPU's node, from the preferred one, from the target
    ∷ apart 7 0 0 [] [] 0 (6 ∷ 3 ∷ 7 ∷ [])
    ∷ apart 7 1 (nodes (1 ∷ [])) [] [] 0 (7 ∷ 6 ∷ 7 ∷ [])
    ∷ apart 7 3 (nodes (2 ∷ [])) [] [] 1 (3 ∷ 3 ∷ 6 ∷ [])
    -- "the first that fits": 1 before 2 before 3
    ∷ apart 7 2 (nodes (1 ∷ 2 ∷ [])) [] [] 0 (2 ∷ 3 ∷ 6 ∷ [])
    ∷ apart 7 2 (nodes (2 ∷ [])) [] [] 0 (2 ∷ 2 ∷ 6 ∷ [])
    ∷ apart 5 2 (nodes (2 ∷ [])) [] [] 0 (2 ∷ 1 ∷ 6 ∷ [])
    ∷ []

-- modes 4 to 6
abbrev pub by_places : List Example
by_places =
    -- "4 named by no place"; ring {3,3,1}: a node named twice has one reason
    on_a 5 0 0 (3 ∷ 3 ∷ 1 ∷ []) [] 0 (4 ∷ 7 ∷ 4 ∷ 6 ∷ [])
    ∷ on_a 5 0 0 (3 ∷ 3 ∷ 1 ∷ []) (ask ∷ ask ∷ []) 0 (4 ∷ 6 ∷ 4 ∷ 5 ∷ [])
    -- early {0,1,3}: place 0, then place 1 when node 0 is full
    ∷ on_a 6 0 0 (0 ∷ 1 ∷ 3 ∷ []) [] 0 (6 ∷ 7 ∷ 4 ∷ 7 ∷ [])
    ∷ on_a 6 0 0 (0 ∷ 1 ∷ 3 ∷ []) (ask ∷ ask ∷ []) 0 (5 ∷ 6 ∷ 4 ∷ 7 ∷ [])
    -- list {3}: the zero bytes past its end do not name node 0; distances play no part
    ∷ on_a 4 0 0 (3 ∷ []) [] 0 (4 ∷ 4 ∷ 4 ∷ 6 ∷ [])
    ∷ apart 7 4 0 (1 ∷ 0 ∷ []) [] 2 (7 ∷ 6 ∷ 4 ∷ [])
    -- a place of N or more, as a record handed in may have, names none: no node is chosen
    ∷ reasons machine_a (given (replicate 6 0) (2 ∷ 2 ∷ 0 ∷ 2 ∷ []) (0x10005 ∷ 0 ∷ 15 ∷ 0 ∷ 9 ∷ 0 ∷ [])) [] 0 (4 ∷ 4 ∷ 4 ∷ 4 ∷ [])
    -- "under a closing 255: nor reachable", from the CPU's node
    ∷ apart 7 4 0 (2 ∷ 255 ∷ []) [] 0 (7 ∷ 4 ∷ 6 ∷ [])
    ∷ apart 7 4 0 (1 ∷ 255 ∷ []) [] 0 (7 ∷ 6 ∷ 7 ∷ [])
    ∷ apart 7 4 0 (1 ∷ 255 ∷ []) (ask ∷ ask ∷ []) 0 (6 ∷ 5 ∷ 7 ∷ [])
    ∷ apart 7 4 0 (255 ∷ []) [] 2 (4 ∷ 4 ∷ 6 ∷ [])
    ∷ []

-- "Under M-100 full means counted 0", whatever the page table has
abbrev pub by_counts : List Example
by_counts =
    -- node 0 has room and is counted 0
    reasons machine_a (given (replicate 6 0) (0 ∷ 2 ∷ 0 ∷ 2 ∷ []) in_default) [] 0 (5 ∷ 6 ∷ 5 ∷ 7 ∷ [])
    -- node 1, after the chosen one, has no free page and is counted above 0
    ∷ reasons machine_a (given (0 ∷ 0 ∷ 9 ∷ 9 ∷ 0 ∷ 0 ∷ []) (2 ∷ 2 ∷ 0 ∷ 2 ∷ []) in_default) [] 0 (6 ∷ 7 ∷ 5 ∷ 7 ∷ [])
    ∷ []

-- machine A's tables with what is tested wrong: the free counts are three; the map is bad; node 0 is counted above 0 and has no free page
abbrev three_counts : List ℕ → Tables
three_counts words = given (replicate 6 0) (2 ∷ 2 ∷ 0 ∷ []) words

abbrev bad_map : List ℕ → Tables
bad_map words = tables_of (replicate 6 0) words (2 ∷ 2 ∷ 0 ∷ 2 ∷ []) (bytes_for (4 ∷ []))

abbrev wrong_count : List ℕ → Tables
wrong_count words = given (9 ∷ 9 ∷ 0 ∷ 0 ∷ 0 ∷ 0 ∷ []) (2 ∷ 2 ∷ 0 ∷ 2 ∷ []) words

-- "1 to 4 and 15", 11, 14: each with all that comes after it wrong too
abbrev pub refusals : List Example
refusals =
    refuses (three_counts no_record) 1 8 3 1
    ∷ refuses (bad_map no_record) 1 8 3 2
    ∷ refuses (bad_map no_record) 0 8 3 15
    ∷ refuses (wrong_count no_record) 0 8 3 3
    ∷ refuses (wrong_count no_record) 0 0 3 4
    ∷ refuses (wrong_count in_default) 0 0 3 11
    ∷ refuses (wrong_count in_default) 0 0 4 14
    ∷ []

pub all_right : T (all right (by_near ++ by_places ++ by_counts ++ refusals))
unfolding open_basics open_machine open_masks open_records open_maps open_search_order open_calls open_book open_reasons
all_right = tt
