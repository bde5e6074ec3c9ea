-- Request M-107 by examples: what a drain answers, what it leaves in the four tables, and what it writes into the table of pairs.
use Rattle.std.specs.Prelude.{ℕ, Bool, ◌&&◌, List, [], ◌∷◌, ◌++◌, replicate, T}
use Rattle.rules.specs.Basics.{open_basics, all, each, same}
use Rattle.rules.specs.Machine.{open_machine, Machine}
use Rattle.rules.specs.Masks.{open_masks}
use Rattle.rules.specs.Records.{open_records}
use Rattle.rules.specs.Maps.{open_maps, bytes_for, identity_maps}
use Rattle.rules.specs.SearchOrder.{open_search_order, free_counts}
use Rattle.rules.specs.Decisions.{Decision, refuse, accept}
use Rattle.rules.specs.Calls.{open_calls, numbers, Tables, tables_of, with_pages}
use Rattle.rules.specs.Drain.{open_drain, on_drain}
use Rattle.rules.specs.Book.{open_book, Call, request, release, rebind, drain, answers, final}
use Rattle.rules.specs.Answers.{in_numbers}
use Rattle.rules.specs.Examples.{machine_a, start, installs}
use Rattle.rules.specs.MapExamples.{default_job}

-- What an example says. On these tables a drain of node x of a machine, with `out` for the pairs, answers so many moves and leaves this page
-- table and these free counts, and `out` so, and jobs and maps as they were; or is refused with this number and changes nothing. Or: these
-- calls are answered so, in numbers, and leave these tables.
pub data Example : Type 0 where
  drains : (m : Machine) (t : Tables) (x : ℕ) (out : List ℕ) (moves : ℕ) (ledger free written : List ℕ) → Example
  refuses : (m : Machine) (t : Tables) (x : ℕ) (out : List ℕ) (number : ℕ) → Example
  listed : (m : Machine) (t : Tables) (calls : List Call) (wanted : List (List ℕ)) (after : Tables) → Example

abbrev same_tables : Tables → Tables → Bool
same_tables t u = same t.ledger u.ledger && same t.records u.records && same t.free u.free && same t.maps u.maps

-- a drain comes to this answer, these tables and this output
abbrev comes_to : Machine → Tables → ℕ → List ℕ → Decision ℕ → Tables → List ℕ → Bool
comes_to m t x out answer after written =
    let done = on_drain m.page_counts m.distances x t out in
    same (in_numbers done.answer) (in_numbers answer) && same_tables done.tables after && same done.output written

abbrev pub right : Example → Bool
right (drains m t x out moves ledger free written) = comes_to m t x out (accept moves) (with_pages t ledger free) written
right (refuses m t x out number) = comes_to m t x out (refuse number) t out
right (listed m t calls wanted after) =
    same (each numbers (answers m t calls)) (each (λ w. w) wanted) && same_tables (final m t calls) after

-- ---- the machines and the tables

-- three nodes of two pages, with these distances from node 0, and no CPU, which a drain is not lent
abbrev three : ℕ → ℕ → Machine
three one two = record {
  page_counts = 2 ∷ 2 ∷ 2 ∷ [];
  cpu_nodes = [];
  distances = 10 ∷ one ∷ two ∷ 20 ∷ 10 ∷ 20 ∷ 20 ∷ 20 ∷ 10 ∷ [];
}

-- a node of three pages and one of six
abbrev wide : Machine
wide = record { page_counts = 3 ∷ 6 ∷ []; cpu_nodes = []; distances = 10 ∷ 20 ∷ 20 ∷ 10 ∷ [] }

-- tables with free counts that match
abbrev matching : Machine → List ℕ → List ℕ → List ℕ → Tables
matching m ledger records maps = tables_of ledger records (free_counts m.page_counts ledger) maps

-- machine A with two jobs that are allowed all nodes, by maps 0 to 3
abbrev on_a : List ℕ → Tables
on_a ledger = matching machine_a ledger (default_job 15 ++ default_job 15) (identity_maps 4 2)

-- three nodes with two jobs of these words, by maps 0 to 2
abbrev jobs : List ℕ → List ℕ → Tables
jobs ledger records = matching (three 20 20) ledger records (identity_maps 3 2)

-- two jobs that are allowed all three nodes
abbrev two : List ℕ → Tables
two ledger = jobs ledger (default_job 7 ++ default_job 7)

-- the same with these nodes in job 0's map
abbrev mapped : List ℕ → List ℕ → Tables
mapped ledger nodes = matching (three 20 20) ledger (default_job 7 ++ default_job 7) (bytes_for nodes ++ bytes_for (0 ∷ 1 ∷ 2 ∷ []))

-- page 0 is job 0's, and no other is held
abbrev zero_held : List ℕ
zero_held = 1 ∷ 0 ∷ 0 ∷ 0 ∷ 0 ∷ 0 ∷ []

-- page 0 is job 0's and goes to page 2, of node 1; or to page 4, of node 2
abbrev to_one : Machine → Tables → Example
to_one m t = drains m t 0 (9 ∷ 9 ∷ []) 1 (0 ∷ 0 ∷ 1 ∷ 0 ∷ 0 ∷ 0 ∷ []) (2 ∷ 1 ∷ 2 ∷ []) (0 ∷ 2 ∷ [])

abbrev to_two : Machine → Tables → Example
to_two m t = drains m t 0 (9 ∷ 9 ∷ []) 1 (0 ∷ 0 ∷ 0 ∷ 0 ∷ 1 ∷ 0 ∷ []) (2 ∷ 2 ∷ 1 ∷ []) (0 ∷ 4 ∷ [])

-- a drain of node 0 with room enough is refused 17
abbrev stuck : Machine → Tables → Example
stuck m t = refuses m t 0 (replicate 4 9) 17

-- job 0, with these words, holds page 0; job 1 is in default mode with all nodes
abbrev first : List ℕ → Tables
first words = jobs zero_held (words ++ default_job 7)

-- words that are no record
abbrev no_record : List ℕ
no_record = 9 ∷ 0 ∷ 7 ∷ 0 ∷ 0 ∷ 0 ∷ []

-- ---- where the pages go

-- "the first node with room in near(x), taken over its job's allowed set without x"
abbrev pub nearest : List Example
nearest =
    -- machine A: page 0, job 0's, and page 1, job 1's, go to node 1, the nearest of node 0
    drains machine_a (on_a (1 ∷ 2 ∷ 0 ∷ 0 ∷ 0 ∷ 0 ∷ [])) 0 (replicate 4 9) 2 (0 ∷ 0 ∷ 1 ∷ 2 ∷ 0 ∷ 0 ∷ []) (2 ∷ 0 ∷ 0 ∷ 2 ∷ []) (0 ∷ 2 ∷ 1 ∷ 3 ∷ [])
    -- "at its turn": the first takes the last free page of node 1, the second goes on to node 3
    ∷ drains machine_a (on_a (1 ∷ 1 ∷ 2 ∷ 0 ∷ 0 ∷ 0 ∷ [])) 0 (replicate 4 9) 2 (0 ∷ 0 ∷ 2 ∷ 1 ∷ 1 ∷ 0 ∷ []) (2 ∷ 0 ∷ 0 ∷ 1 ∷ []) (0 ∷ 3 ∷ 1 ∷ 4 ∷ [])
    -- another node than 0; the other nodes' pages stay
    ∷ drains machine_a (on_a (1 ∷ 0 ∷ 2 ∷ 0 ∷ 0 ∷ 1 ∷ [])) 3 (replicate 2 9) 1 (1 ∷ 0 ∷ 2 ∷ 1 ∷ 0 ∷ 0 ∷ []) (1 ∷ 0 ∷ 0 ∷ 2 ∷ []) (5 ∷ 3 ∷ [])
    -- nearer first, by x's row and not its column; lower number first when equal; 255 is unreachable, 254 is not
    ∷ to_two (three 30 20) (two zero_held)
    ∷ to_one (three 20 20) (two zero_held)
    ∷ to_one (three 20 30) (two zero_held)
    ∷ to_two (three 255 254) (two zero_held)
    ∷ stuck (three 255 255) (two zero_held)
    -- "its job's allowed set": node 1 is not allowed; none but x is; none at all is
    ∷ to_two (three 20 20) (first (default_job 5))
    ∷ stuck (three 20 20) (first (default_job 1))
    ∷ stuck (three 20 20) (first (default_job 0))
    -- each page goes by its own job's
    ∷ drains (three 20 20) (jobs (1 ∷ 2 ∷ 0 ∷ 0 ∷ 0 ∷ 0 ∷ []) (default_job 5 ++ default_job 7)) 0 (replicate 4 9) 2 (0 ∷ 0 ∷ 0 ∷ 2 ∷ 1 ∷ 0 ∷ [])
    (2 ∷ 1 ∷ 1 ∷ []) (0 ∷ 4 ∷ 1 ∷ 3 ∷ [])
    -- neither the mode nor the effective set nor the list, and "Cursors stay": preferred 2, bind 2, interleave 2, list, ring, early {2}
    ∷ to_one (three 20 20) (first (1 ∷ 4 ∷ 7 ∷ 4 ∷ 0 ∷ 0 ∷ []))
    ∷ to_one (three 20 20) (first (2 ∷ 4 ∷ 7 ∷ 4 ∷ 0 ∷ 0 ∷ []))
    ∷ to_one (three 20 20) (first (0x3000003 ∷ 4 ∷ 7 ∷ 4 ∷ 0 ∷ 0 ∷ []))
    ∷ to_one (three 20 20) (first (0x10004 ∷ 0 ∷ 7 ∷ 0 ∷ 2 ∷ 0 ∷ []))
    ∷ to_one (three 20 20) (first (0x1010005 ∷ 0 ∷ 7 ∷ 0 ∷ 2 ∷ 0 ∷ []))
    ∷ to_one (three 20 20) (first (0x1010006 ∷ 0 ∷ 7 ∷ 0 ∷ 2 ∷ 0 ∷ []))
    -- "a target must be in the job's map", in whatever entry: nodes 2 and 0; 2 alone; x alone; a node that is not allowed
    ∷ to_two (three 20 20) (mapped zero_held (2 ∷ 0 ∷ []))
    ∷ to_two (three 20 20) (mapped zero_held (2 ∷ []))
    ∷ to_one (three 30 20) (mapped zero_held (1 ∷ []))
    ∷ stuck (three 20 20) (mapped zero_held (0 ∷ []))
    ∷ stuck (three 20 20) (matching (three 20 20) zero_held (default_job 3) (bytes_for (2 ∷ 0 ∷ [])))
    ∷ []

-- "M-105's colours apply to the page": by the page's holder and the offset in the node that takes it
abbrev pub colours : List Example
colours =
    -- job 2's page goes to offset 2 of node 1, page 5; the other jobs hold no page of x, and neither their records nor their maps are looked at
    drains wide (matching wide (3 ∷ replicate 8 0) (no_record ++ no_record ++ default_job 3) (replicate 128 7 ++ bytes_for (0 ∷ 1 ∷ []))) 0 (replicate 2 9) 1
    (0 ∷ 0 ∷ 0 ∷ 0 ∷ 0 ∷ 3 ∷ 0 ∷ 0 ∷ 0 ∷ []) (3 ∷ 5 ∷ []) (0 ∷ 5 ∷ [])
    -- job 1's three pages go to offsets 1 and 5, and then, "failing that", to the lowest free page; an odd output has one number more
    ∷ drains wide (matching wide (2 ∷ 2 ∷ 2 ∷ replicate 6 0) (default_job 3 ++ default_job 3) (identity_maps 2 2)) 0 (replicate 7 9) 3
    (0 ∷ 0 ∷ 0 ∷ 2 ∷ 2 ∷ 0 ∷ 0 ∷ 0 ∷ 2 ∷ []) (3 ∷ 3 ∷ []) (0 ∷ 4 ∷ 1 ∷ 8 ∷ 2 ∷ 3 ∷ 9 ∷ [])
    -- two jobs, each by its own colour
    ∷ drains wide (matching wide (2 ∷ 0 ∷ 1 ∷ replicate 6 0) (default_job 3 ++ default_job 3) (identity_maps 2 2)) 0 (replicate 6 9) 2
    (0 ∷ 0 ∷ 0 ∷ 1 ∷ 2 ∷ 0 ∷ 0 ∷ 0 ∷ 0 ∷ []) (3 ∷ 4 ∷ []) (0 ∷ 4 ∷ 2 ∷ 3 ∷ 9 ∷ 9 ∷ [])
    ∷ []

-- "If any page has nowhere to go at its turn, or its byte names no job, or the job's record or map is malformed, answer 17 and change nothing"
abbrev pub nowhere : List Example
nowhere =
    -- two jobs and one free page: there is room for either page, and not for both
    stuck (three 20 20) (two (1 ∷ 2 ∷ 9 ∷ 9 ∷ 9 ∷ 0 ∷ []))
    ∷ drains (three 20 20) (two (1 ∷ 0 ∷ 9 ∷ 9 ∷ 9 ∷ 0 ∷ [])) 0 (replicate 2 9) 1 (0 ∷ 0 ∷ 9 ∷ 9 ∷ 9 ∷ 1 ∷ []) (2 ∷ 0 ∷ 0 ∷ []) (0 ∷ 5 ∷ [])
    -- only x has room; the page table is longer than there are pages
    ∷ stuck (three 20 20) (two (0 ∷ 1 ∷ 9 ∷ 9 ∷ 9 ∷ 9 ∷ 0 ∷ []))
    -- a byte that names no job, also as the last; at another node it stays
    ∷ stuck (three 20 20) (two (3 ∷ 0 ∷ 0 ∷ 0 ∷ 0 ∷ 0 ∷ []))
    ∷ stuck (three 20 20) (two (1 ∷ 255 ∷ 0 ∷ 0 ∷ 0 ∷ 0 ∷ []))
    ∷ drains (three 20 20) (two (1 ∷ 0 ∷ 0 ∷ 3 ∷ 255 ∷ 0 ∷ [])) 0 (replicate 2 9) 1 (0 ∷ 0 ∷ 1 ∷ 3 ∷ 255 ∷ 0 ∷ []) (2 ∷ 0 ∷ 1 ∷ []) (0 ∷ 2 ∷ [])
    -- a malformed record of a job that holds a page of x; of one that holds none
    ∷ stuck (three 20 20) (first no_record)
    ∷ stuck (three 20 20) (jobs (1 ∷ 2 ∷ 0 ∷ 0 ∷ 0 ∷ 0 ∷ []) (default_job 7 ++ no_record))
    ∷ drains (three 20 20) (jobs (1 ∷ 0 ∷ 0 ∷ 2 ∷ 0 ∷ 0 ∷ []) (default_job 7 ++ no_record)) 0 (replicate 2 9) 1 (0 ∷ 0 ∷ 1 ∷ 2 ∷ 0 ∷ 0 ∷ [])
    (2 ∷ 0 ∷ 2 ∷ []) (0 ∷ 2 ∷ [])
    -- a bad map likewise: an unknown node, a repeated one, none
    ∷ stuck (three 20 20) (mapped zero_held (1 ∷ 3 ∷ []))
    ∷ stuck (three 20 20) (mapped zero_held (1 ∷ 1 ∷ []))
    ∷ stuck (three 20 20) (mapped zero_held [])
    ∷ drains (three 20 20) (mapped (2 ∷ 0 ∷ 1 ∷ 0 ∷ 0 ∷ 0 ∷ []) (1 ∷ 3 ∷ [])) 0 (replicate 2 9) 1 (0 ∷ 0 ∷ 1 ∷ 2 ∷ 0 ∷ 0 ∷ []) (2 ∷ 0 ∷ 2 ∷ []) (0 ∷ 3 ∷ [])
    ∷ []

-- ---- the order of the tests, and the output

-- two pages of job 0 on node 0, of which one has nowhere to go; with these free counts
abbrev counted : List ℕ → Tables
counted free = tables_of (1 ∷ 1 ∷ 9 ∷ 9 ∷ 9 ∷ 0 ∷ []) (default_job 7) free (identity_maps 3 1)

-- two pages of job 0 on node 0 that go to node 1
abbrev going : Tables
going = two (1 ∷ 1 ∷ 0 ∷ 0 ∷ 0 ∷ 0 ∷ [])

-- the machine with these distances
abbrev far : List ℕ → Machine
far distances = record { page_counts = 2 ∷ 2 ∷ 2 ∷ []; cpu_nodes = []; distances = distances }

-- "Test 1, then x below N (else 6), 14, 17, 11": each with all that comes after it wrong too
abbrev pub tested : List Example
tested =
    -- 1: the page table is one short; the free counts are two, and four; the job table is one word short; the maps are one byte long; the
    -- distances are one too many, and one on the diagonal is 11
    refuses (three 20 20) (tables_of (1 ∷ 1 ∷ 9 ∷ 9 ∷ 0 ∷ []) (default_job 7) (0 ∷ 0 ∷ 1 ∷ []) (identity_maps 3 1)) 3 [] 1
    ∷ refuses (three 20 20) (counted (0 ∷ 0 ∷ [])) 3 [] 1
    ∷ refuses (three 20 20) (counted (0 ∷ 0 ∷ 1 ∷ 0 ∷ [])) 3 [] 1
    ∷ refuses (three 20 20) (tables_of (replicate 6 0) (replicate 5 0) (2 ∷ 2 ∷ 2 ∷ []) (identity_maps 3 1)) 3 [] 1
    ∷ refuses (three 20 20) (tables_of (replicate 6 0) (default_job 7) (2 ∷ 2 ∷ 2 ∷ []) (0 ∷ [])) 3 [] 1
    ∷ refuses (far (10 ∷ 20 ∷ 20 ∷ 20 ∷ 10 ∷ 20 ∷ 20 ∷ 20 ∷ 10 ∷ 10 ∷ [])) (counted (0 ∷ 0 ∷ 1 ∷ [])) 3 [] 1
    ∷ refuses (far (10 ∷ 20 ∷ 20 ∷ 20 ∷ 11 ∷ 20 ∷ 20 ∷ 20 ∷ 10 ∷ [])) (counted (0 ∷ 0 ∷ 1 ∷ [])) 3 [] 1
    ∷ refuses (far []) (two zero_held) 0 (9 ∷ 9 ∷ []) 1
    -- 6: node N
    ∷ refuses (three 20 20) (counted (2 ∷ 2 ∷ 2 ∷ [])) 3 [] 6
    -- 14: node 1, full, is counted 1; x is; node 2 is counted 0; node 1, of which nothing is wanted, where x holds nothing
    ∷ refuses (three 20 20) (counted (0 ∷ 1 ∷ 1 ∷ [])) 0 [] 14
    ∷ refuses (three 20 20) (counted (1 ∷ 0 ∷ 1 ∷ [])) 0 [] 14
    ∷ refuses (three 20 20) (counted (0 ∷ 0 ∷ 0 ∷ [])) 0 [] 14
    ∷ refuses (three 20 20) (tables_of (replicate 6 0) (default_job 7) (2 ∷ 1 ∷ 2 ∷ []) (identity_maps 3 1)) 0 [] 14
    -- 17 before 11
    ∷ refuses (three 20 20) (counted (0 ∷ 0 ∷ 1 ∷ [])) 0 [] 17
    -- "a table too short is 11": two numbers a move
    ∷ refuses (three 20 20) going 0 [] 11
    ∷ refuses (three 20 20) going 0 (9 ∷ 9 ∷ 9 ∷ []) 11
    -- "no output changes past what is written"
    ∷ drains (three 20 20) going 0 (9 ∷ 9 ∷ 9 ∷ 9 ∷ []) 2 (0 ∷ 0 ∷ 1 ∷ 1 ∷ 0 ∷ 0 ∷ []) (2 ∷ 0 ∷ 2 ∷ []) (0 ∷ 2 ∷ 1 ∷ 3 ∷ [])
    ∷ drains (three 20 20) going 0 (9 ∷ 9 ∷ 9 ∷ 9 ∷ 8 ∷ 7 ∷ 6 ∷ []) 2 (0 ∷ 0 ∷ 1 ∷ 1 ∷ 0 ∷ 0 ∷ []) (2 ∷ 0 ∷ 2 ∷ []) (0 ∷ 2 ∷ 1 ∷ 3 ∷ 8 ∷ 7 ∷ 6 ∷ [])
    -- no page of x is held: no moves, and no room is needed; whatever the jobs are like
    ∷ drains (three 20 20) going 1 [] 0 (1 ∷ 1 ∷ 0 ∷ 0 ∷ 0 ∷ 0 ∷ []) (0 ∷ 2 ∷ 2 ∷ []) []
    ∷ drains machine_a (on_a zero_held) 2 (9 ∷ []) 0 zero_held (1 ∷ 2 ∷ 0 ∷ 2 ∷ []) (9 ∷ [])
    ∷ drains (three 255 255) (jobs (0 ∷ 0 ∷ 1 ∷ 3 ∷ 2 ∷ 0 ∷ []) (no_record ++ no_record)) 0 [] 0 (0 ∷ 0 ∷ 1 ∷ 3 ∷ 2 ∷ 0 ∷ []) (2 ∷ 0 ∷ 1 ∷ []) []
    ∷ []

-- ---- lists of calls

abbrev ask : Call
ask = request 0 0

-- a refusal in numbers, with no node and no page
abbrev no : ℕ → List ℕ
no number = number ∷ 255 ∷ 4294967295 ∷ []

abbrev done : List ℕ
done = no 0

abbrev pub lists : List Example
lists =
    -- on machine A job 0 holds pages 0, 1 and 2; with room for 3 numbers the drain is 11, and then two pages move; a freed page is granted
    -- again, and a page that moved is released where it is now; node 4 is none
    listed machine_a (start machine_a) (rebind 0 15 ∷ ask ∷ ask ∷ ask ∷ drain 0 3 ∷ drain 0 4 ∷ ask ∷ release 0 1 ∷ release 0 4 ∷ drain 4 9 ∷ [])
    (done ∷ (0 ∷ 0 ∷ 0 ∷ []) ∷ (0 ∷ 0 ∷ 1 ∷ []) ∷ (0 ∷ 1 ∷ 2 ∷ []) ∷ no 11 ∷ (0 ∷ 255 ∷ 2 ∷ []) ∷ (0 ∷ 0 ∷ 0 ∷ []) ∷ no 10 ∷ (0 ∷ 3 ∷ 4 ∷ []) ∷ no 6 ∷ [])
    (tables_of (1 ∷ 0 ∷ 1 ∷ 1 ∷ 0 ∷ 0 ∷ []) (default_job 15) (1 ∷ 0 ∷ 0 ∷ 2 ∷ []) (identity_maps 4 1))
    -- ring {0,0,3}: after page 0 the cursor is at place 0, and a drain in between leaves it there: places 1 and 2 come next
    ∷ listed machine_a (start machine_a) (rebind 0 15 ∷ installs 0 5 0 0 (0 ∷ 0 ∷ 3 ∷ []) ∷ ask ∷ drain 0 2 ∷ ask ∷ ask ∷ [])
    (done ∷ done ∷ (0 ∷ 0 ∷ 0 ∷ []) ∷ (0 ∷ 255 ∷ 1 ∷ []) ∷ (0 ∷ 0 ∷ 0 ∷ []) ∷ (0 ∷ 3 ∷ 4 ∷ []) ∷ [])
    (tables_of (1 ∷ 0 ∷ 1 ∷ 0 ∷ 1 ∷ 0 ∷ []) (0x3030005 ∷ 0 ∷ 15 ∷ 0 ∷ 0x030000 ∷ 0 ∷ []) (1 ∷ 1 ∷ 0 ∷ 1 ∷ []) (identity_maps 4 1))
    -- a drain is lent no CPU table, and a request is; a second drain finds nothing to move; 17 changes nothing
    ∷ listed (three 20 20) (two (1 ∷ 2 ∷ 0 ∷ 0 ∷ 0 ∷ 0 ∷ [])) (ask ∷ drain 0 4 ∷ drain 0 0 ∷ rebind 1 2 ∷ drain 1 4 ∷ [])
    (no 1 ∷ (0 ∷ 255 ∷ 2 ∷ []) ∷ (0 ∷ 255 ∷ 0 ∷ []) ∷ done ∷ no 17 ∷ [])
    (jobs (0 ∷ 0 ∷ 1 ∷ 2 ∷ 0 ∷ 0 ∷ []) (default_job 7 ++ default_job 2))
    ∷ []

pub all_right : T (all right (nearest ++ colours ++ nowhere ++ tested ++ lists))
unfolding open_basics open_machine open_masks open_records open_maps open_search_order open_calls open_drain open_book
all_right = tt
