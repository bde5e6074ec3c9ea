-- Document 01, "Shown by example": the examples marked T, in one table, and the one statement that all of them come out right.
use Rattle.std.specs.Prelude.{ℕ, ◌/◌, Bool, true, false, ◌&&◌, List, [], ◌∷◌, ◌++◌, map, get_or, replicate, T, eqb}
use Rattle.rules.specs.Basics.{open_basics, sum, all, any, from, same}
use Rattle.rules.specs.Machine.{open_machine, Machine, node_count}
use Rattle.rules.specs.Masks.{open_masks, most_nodes, mask_of}
use Rattle.rules.specs.Records.{open_records, words_per_job, record_at, policy}
use Rattle.rules.specs.Maps.{open_maps, identity_maps}
use Rattle.rules.specs.SearchOrder.{open_search_order}
use Rattle.rules.specs.Calls.{open_calls, Answer, granted, done, refused, Tables, tables_of, order_of, numbers}
use Rattle.rules.specs.Book.{open_book, Call, request, install, rebind, answers, final}

-- "Machine A: pages 2,2,0,2; CPU k of 8 on node k/2 rounded down; distances .."
abbrev pub machine_a : Machine
machine_a = record {
  page_counts = 2 ∷ 2 ∷ 0 ∷ 2 ∷ [];
  cpu_nodes = map (λ k. k / 2) (from 0 8);
  distances =
      10 ∷ 20 ∷ 20 ∷ 30
      ∷ 20 ∷ 10 ∷ 30 ∷ 20
      ∷ 20 ∷ 30 ∷ 10 ∷ 20
      ∷ 30 ∷ 20 ∷ 20 ∷ 10 ∷ [];
}

-- "Mask examples take N = 10": rebind and install look at N alone
abbrev pub ten_nodes : Machine
ten_nodes = record { page_counts = replicate 10 0; cpu_nodes = []; distances = [] }

-- "all pages free", and so counted, and one fresh job; its map is 0 to N-1
abbrev pub start : Machine → Tables
start m = tables_of (replicate (sum m.page_counts) 0) (replicate words_per_job 0) m.page_counts (identity_maps (node_count m) 1)

-- the mask of some node numbers
abbrev pub nodes : List ℕ → ℕ
nodes ns = mask_of most_nodes (λ n. any (eqb n) ns)

-- What an example says. On machine A, job 0, allowed all nodes and then installed so, has its requests from this CPU answered so; or has
-- this search order. With N = 10, job 0 has this effective mask after these calls.
pub data Example : Type 0 where
  pages : (mode flag user : ℕ) (places : List ℕ) (cpu : ℕ) (wanted : List Answer) → Example
  visits : (cpu : ℕ) (wanted : List ℕ) → Example
  effective : (calls : List Call) (wanted : List ℕ) → Example

-- page p of machine A, granted with its node
abbrev pub page : ℕ → Answer
page p = granted (get_or (0 ∷ 0 ∷ 1 ∷ 1 ∷ 3 ∷ 3 ∷ []) p 9) p

-- an install of a policy by its parts
abbrev pub installs : ℕ → ℕ → ℕ → ℕ → List ℕ → Call
installs j mode flag user places = install j (policy mode flag user places)

-- "Job 0, freshly installed, all nodes allowed": rebind, then install
abbrev pub set_up : ℕ → ℕ → ℕ → List ℕ → List Call
set_up mode flag user places = rebind 0 15 ∷ installs 0 mode flag user places ∷ []

-- "and interleave": the first allowed set, the flag, the user mask, and the sets that it is rebound to
abbrev pub rebinds : List ℕ → ℕ → List ℕ → List (List ℕ) → List Call
rebinds allowed flag user later = rebind 0 (nodes allowed) ∷ installs 0 3 flag (nodes user) [] ∷ map (λ s. rebind 0 (nodes s)) later

abbrev pub table : List Example
table =
    -- default, CPU 4: node 0, page 0 (order 2,0,3,1)
    pages 0 0 0 [] 4 (page 0 ∷ [])
    ∷ visits 4 (2 ∷ 0 ∷ 3 ∷ 1 ∷ [])
    -- bind 1,3, CPU 0: pages 2,3,4,5, then 8
    ∷ pages 2 0 (nodes (1 ∷ 3 ∷ [])) [] 0 (page 2 ∷ page 3 ∷ page 4 ∷ page 5 ∷ refused 8 ∷ [])
    -- interleave 1-3: pages 2,0,4
    ∷ pages 3 0 (nodes (1 ∷ 2 ∷ 3 ∷ [])) [] 0 (page 2 ∷ page 0 ∷ page 4 ∷ [])
    -- ring {3,3,1}: pages 4,5,2,3, then 8
    ∷ pages 5 0 0 (3 ∷ 3 ∷ 1 ∷ []) 0 (page 4 ∷ page 5 ∷ page 2 ∷ page 3 ∷ refused 8 ∷ [])
    -- list {3,3,1}: pages 4,5,2,3, then 8
    ∷ pages 4 0 0 (3 ∷ 3 ∷ 1 ∷ []) 0 (page 4 ∷ page 5 ∷ page 2 ∷ page 3 ∷ refused 8 ∷ [])
    -- early {0,1,3}: pages 0,1,2,4,3,5, then 8
    ∷ pages 6 0 0 (0 ∷ 1 ∷ 3 ∷ []) 0 (page 0 ∷ page 1 ∷ page 2 ∷ page 4 ∷ page 3 ∷ page 5 ∷ refused 8 ∷ [])
    -- 1-3 in 1-3, rebound to 3-5: 3-5; static: 3
    ∷ effective (rebinds (1 ∷ 2 ∷ 3 ∷ []) 0 (1 ∷ 2 ∷ 3 ∷ []) ((3 ∷ 4 ∷ 5 ∷ []) ∷ [])) (3 ∷ 4 ∷ 5 ∷ [])
    ∷ effective (rebinds (1 ∷ 2 ∷ 3 ∷ []) 1 (1 ∷ 2 ∷ 3 ∷ []) ((3 ∷ 4 ∷ 5 ∷ []) ∷ [])) (3 ∷ [])
    -- relative 2-5 in 3-7: 3,5-7
    ∷ effective (rebinds (3 ∷ 4 ∷ 5 ∷ 6 ∷ 7 ∷ []) 2 (2 ∷ 3 ∷ 4 ∷ 5 ∷ []) []) (3 ∷ 5 ∷ 6 ∷ 7 ∷ [])
    -- relative 2-5 in 0,2-3,5: 0,2-3,5
    ∷ effective (rebinds (0 ∷ 2 ∷ 3 ∷ 5 ∷ []) 2 (2 ∷ 3 ∷ 4 ∷ 5 ∷ []) []) (0 ∷ 2 ∷ 3 ∷ 5 ∷ [])
    -- 1,3,5 in 1-5, rebound to 7-9: 7-9; back to 1-5: 1-3
    ∷ effective (rebinds (1 ∷ 2 ∷ 3 ∷ 4 ∷ 5 ∷ []) 0 (1 ∷ 3 ∷ 5 ∷ []) ((7 ∷ 8 ∷ 9 ∷ []) ∷ [])) (7 ∷ 8 ∷ 9 ∷ [])
    ∷ effective (rebinds (1 ∷ 2 ∷ 3 ∷ 4 ∷ 5 ∷ []) 0 (1 ∷ 3 ∷ 5 ∷ []) ((7 ∷ 8 ∷ 9 ∷ []) ∷ (1 ∷ 2 ∷ 3 ∷ 4 ∷ 5 ∷ []) ∷ [])) (1 ∷ 2 ∷ 3 ∷ [])
    ∷ []

abbrev pub same_answers : List Answer → List Answer → Bool
same_answers [] [] = true
same_answers [] (y ∷ ys) = false
same_answers (x ∷ xs) [] = false
same_answers (x ∷ xs) (y ∷ ys) = same (numbers x) (numbers y) && same_answers xs ys

abbrev pub right : Example → Bool
right (pages mode flag user places cpu wanted) =
    same_answers
    (answers machine_a (start machine_a) (set_up mode flag user places ++ map (λ a. request 0 cpu) wanted))
    (done ∷ done ∷ wanted)
right (visits cpu wanted) =
    same (map (λ s. s.node) (order_of machine_a (final machine_a (start machine_a) (set_up 0 0 0 [])) 0 cpu)) wanted
right (effective calls wanted) =
    same_answers (answers ten_nodes (start ten_nodes) calls) (map (λ c. done) calls)
    && eqb (record_at (final ten_nodes (start ten_nodes) calls).records 0).effective (nodes wanted)

-- "Those marked T are proved together"
pub all_right : T (all right table)
unfolding open_basics open_machine open_masks open_records open_maps open_search_order open_calls open_book
all_right = tt
