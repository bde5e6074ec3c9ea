-- Request M-105, "Page colours", by examples: 01's pages for other jobs than job 0, and nodes of more than four pages.
use Rattle.std.specs.Prelude.{ℕ, Bool, List, [], ◌∷◌, ◌++◌, map, replicate, T}
use Rattle.rules.specs.Basics.{open_basics, sum, all}
use Rattle.rules.specs.Machine.{open_machine, Machine, node_count, node_of_page}
use Rattle.rules.specs.Masks.{open_masks}
use Rattle.rules.specs.Records.{open_records}
use Rattle.rules.specs.Maps.{open_maps, identity_maps}
use Rattle.rules.specs.SearchOrder.{open_search_order}
use Rattle.rules.specs.Calls.{open_calls, Answer, granted, released, done, refused, Tables, tables_of}
use Rattle.rules.specs.Book.{open_book, Call, request, release, rebind, answers}
use Rattle.rules.specs.Examples.{machine_a, nodes, installs, same_answers}

-- What an example says: these calls on a machine with all pages free and six fresh jobs are answered so.
pub record Example : Type 0 where
  pub machine : Machine
  pub calls : List Call
  pub wanted : List Answer

-- "all pages free", and so counted, and six fresh jobs; their maps are 0 to N-1
abbrev pub start : Machine → Tables
start m = tables_of (replicate (sum m.page_counts) 0) (replicate 36 0) m.page_counts (identity_maps (node_count m) 6)

abbrev pub right : Example → Bool
right e = same_answers (answers e.machine (start e.machine) e.calls) e.wanted

-- pages of a machine, each granted with its node
abbrev pub pages : Machine → List ℕ → List Answer
pages m ps = map (λ p. granted (node_of_page m.page_counts p) p) ps

-- job j, allowed these nodes and installed so, asks from a CPU until it is refused 8
abbrev pub fills : Machine → (j allowed mode user : ℕ) (places : List ℕ) (cpu : ℕ) → List ℕ → Example
fills m j allowed mode user places cpu ps = record {
  machine = m;
  calls = rebind j allowed ∷ installs j mode 0 user places ∷ (map (λ p. request j cpu) ps ++ (request j cpu ∷ []));
  wanted = done ∷ done ∷ (pages m ps ++ (refused 8 ∷ []));
}

-- a node of seven pages and one of six, whose first page is page 7; a CPU on each
abbrev pub wide : Machine
wide = record { page_counts = 7 ∷ 6 ∷ []; cpu_nodes = 0 ∷ 1 ∷ []; distances = 10 ∷ 20 ∷ 20 ∷ 10 ∷ [] }

-- 01's pages on machine A, whose nodes have offsets 0 and 1: jobs 1 and 5 take offset 1 first, jobs 2 and 3 find no page of their colour
abbrev pub on_a : List Example
on_a =
    -- default, CPU 4
    fills machine_a 1 15 0 0 [] 4 (1 ∷ 0 ∷ 5 ∷ 4 ∷ 3 ∷ 2 ∷ [])
    -- bind 1,3, CPU 0: for job 0 pages 2,3,4,5
    ∷ fills machine_a 0 15 2 (nodes (1 ∷ 3 ∷ [])) [] 0 (2 ∷ 3 ∷ 4 ∷ 5 ∷ [])
    ∷ fills machine_a 1 15 2 (nodes (1 ∷ 3 ∷ [])) [] 0 (3 ∷ 2 ∷ 5 ∷ 4 ∷ [])
    ∷ fills machine_a 2 15 2 (nodes (1 ∷ 3 ∷ [])) [] 0 (2 ∷ 3 ∷ 4 ∷ 5 ∷ [])
    ∷ fills machine_a 3 15 2 (nodes (1 ∷ 3 ∷ [])) [] 0 (2 ∷ 3 ∷ 4 ∷ 5 ∷ [])
    ∷ fills machine_a 5 15 2 (nodes (1 ∷ 3 ∷ [])) [] 0 (3 ∷ 2 ∷ 5 ∷ 4 ∷ [])
    -- interleave 1-3: for job 0 pages 2,0,4
    ∷ fills machine_a 1 15 3 (nodes (1 ∷ 2 ∷ 3 ∷ [])) [] 0 (3 ∷ 1 ∷ 5 ∷ 2 ∷ 0 ∷ 4 ∷ [])
    -- ring {3,3,1}, list {3,3,1}: for job 0 pages 4,5,2,3; early {0,1,3}: 0,1,2,4,3,5
    ∷ fills machine_a 5 15 5 0 (3 ∷ 3 ∷ 1 ∷ []) 0 (5 ∷ 4 ∷ 3 ∷ 2 ∷ [])
    ∷ fills machine_a 2 15 5 0 (3 ∷ 3 ∷ 1 ∷ []) 0 (4 ∷ 5 ∷ 2 ∷ 3 ∷ [])
    ∷ fills machine_a 5 15 4 0 (3 ∷ 3 ∷ 1 ∷ []) 0 (5 ∷ 4 ∷ 3 ∷ 2 ∷ [])
    ∷ fills machine_a 3 15 4 0 (3 ∷ 3 ∷ 1 ∷ []) 0 (4 ∷ 5 ∷ 2 ∷ 3 ∷ [])
    ∷ fills machine_a 1 15 6 0 (0 ∷ 1 ∷ 3 ∷ []) 0 (1 ∷ 0 ∷ 3 ∷ 5 ∷ 2 ∷ 4 ∷ [])
    ∷ []

-- a node is filled by its colour first, then lowest first, before the next one is tried, whatever colours that one has free; in node 1 the
-- offset of page p is p - 7
abbrev pub on_wide : List Example
on_wide =
    fills wide 0 3 0 0 [] 0 (0 ∷ 4 ∷ 1 ∷ 2 ∷ 3 ∷ 5 ∷ 6 ∷ 7 ∷ 11 ∷ 8 ∷ 9 ∷ 10 ∷ 12 ∷ [])
    ∷ fills wide 1 3 0 0 [] 0 (1 ∷ 5 ∷ 0 ∷ 2 ∷ 3 ∷ 4 ∷ 6 ∷ 8 ∷ 12 ∷ 7 ∷ 9 ∷ 10 ∷ 11 ∷ [])
    ∷ fills wide 2 3 0 0 [] 0 (2 ∷ 6 ∷ 0 ∷ 1 ∷ 3 ∷ 4 ∷ 5 ∷ 9 ∷ 7 ∷ 8 ∷ 10 ∷ 11 ∷ 12 ∷ [])
    ∷ fills wide 3 3 0 0 [] 0 (3 ∷ 0 ∷ 1 ∷ 2 ∷ 4 ∷ 5 ∷ 6 ∷ 10 ∷ 7 ∷ 8 ∷ 9 ∷ 11 ∷ 12 ∷ [])
    ∷ fills wide 5 3 0 0 [] 0 (1 ∷ 5 ∷ 0 ∷ 2 ∷ 3 ∷ 4 ∷ 6 ∷ 8 ∷ 12 ∷ 7 ∷ 9 ∷ 10 ∷ 11 ∷ [])
    -- a released page of the colour is the next one; two jobs of one colour, and one of another
    ∷ record {
      machine = wide;
      calls =
          rebind 1 3 ∷ rebind 5 3 ∷ rebind 2 3 ∷ request 1 0 ∷ request 5 0 ∷ request 2 0 ∷ request 1 0 ∷ release 5 5 ∷ request 1 0 ∷ request 1 1 ∷ [];
      wanted =
          done ∷ done ∷ done
          ∷ granted 0 1 ∷ granted 0 5 ∷ granted 0 2 ∷ granted 0 0 ∷ released 0 5 ∷ granted 0 5 ∷ granted 1 8 ∷ [];
    }
    ∷ []

pub all_right : T (all right (on_a ++ on_wide))
unfolding open_basics open_machine open_masks open_records open_maps open_search_order open_calls open_book
all_right = tt
