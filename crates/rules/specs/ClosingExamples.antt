-- Request M-104 by examples on machine A: lists of mode 4 that close with 255, and 255 elsewhere.
use Rattle.std.specs.Prelude.{ℕ, List, [], ◌∷◌, ◌++◌, replicate, T}
use Rattle.rules.specs.Basics.{open_basics, all, from}
use Rattle.rules.specs.Machine.{open_machine}
use Rattle.rules.specs.Masks.{open_masks}
use Rattle.rules.specs.Records.{open_records}
use Rattle.rules.specs.Maps.{open_maps, bytes_for}
use Rattle.rules.specs.SearchOrder.{open_search_order}
use Rattle.rules.specs.Decisions.{open_decisions}
use Rattle.rules.specs.Calls.{open_calls, granted, done, refused, Tables, tables_of}
use Rattle.rules.specs.Book.{open_book, Call, request}
use Rattle.rules.specs.Examples.{installs}
use Rattle.rules.specs.MoreExamples.{apart, ask}
use Rattle.rules.specs.MapExamples.{Example, answered, stored, right, default_job, free_a, three_one, on_a}

-- machine A with all pages free: one job, of these words, with the map 0 to 3
abbrev handed : List ℕ → Tables
handed job = free_a job (bytes_for (from 0 4))

-- all nodes allowed
abbrev start : Tables
start = handed (default_job 15)

-- an install of mode 4
abbrev lists : List ℕ → Call
lists places = installs 0 4 0 0 places

-- so many requests from CPU 0
abbrev asks : ℕ → List Call
asks k = replicate k ask

-- "a 255 in the last place of a mode 4 list stands, unmapped, for near(CPU's node) there"
abbrev pub closings : List Example
closings =
    -- {3,255}: node 3, then near(0) over 0,1,2,3
    on_a start (lists (3 ∷ 255 ∷ []) ∷ asks 7)
    (done ∷ granted 3 4 ∷ granted 3 5 ∷ granted 0 0 ∷ granted 0 1 ∷ granted 1 2 ∷ granted 1 3 ∷ refused 8 ∷ [])
    -- the record stores 255
    ∷ stored start (lists (3 ∷ 255 ∷ []) ∷ []) (0x20004 ∷ 0 ∷ 15 ∷ 0 ∷ 0xFF03 ∷ 0 ∷ [])
    -- {255} alone, from CPU 4: near(2) is 2,0,3,1
    ∷ on_a start (lists (255 ∷ []) ∷ replicate 7 (request 0 4))
    (done ∷ granted 0 0 ∷ granted 0 1 ∷ granted 3 4 ∷ granted 3 5 ∷ granted 1 2 ∷ granted 1 3 ∷ refused 8 ∷ [])
    -- the same list from two CPUs: node 3 first, then the nearest of each
    ∷ on_a start (lists (3 ∷ 255 ∷ []) ∷ ask ∷ ask ∷ request 0 2 ∷ request 0 4 ∷ []) (done ∷ granted 3 4 ∷ granted 3 5 ∷ granted 1 2 ∷ granted 0 0 ∷ [])
    -- a node outside the allowed set is not near: 0 and 3 allowed
    ∷ on_a (handed (default_job 9)) (lists (3 ∷ 255 ∷ []) ∷ asks 5) (done ∷ granted 3 4 ∷ granted 3 5 ∷ granted 0 0 ∷ granted 0 1 ∷ refused 8 ∷ [])
    -- "unmapped": application node 0 is node 3, 1 is node 1; near(0) goes by the nodes of the map
    ∷ stored (free_a (default_job 15) three_one) (lists (0 ∷ 255 ∷ []) ∷ []) (0x20004 ∷ 0 ∷ 15 ∷ 0 ∷ 0xFF03 ∷ 0 ∷ [])
    ∷ on_a (free_a (default_job 15) three_one) (lists (0 ∷ 255 ∷ []) ∷ asks 5)
    (done ∷ granted 0 4 ∷ granted 0 5 ∷ granted 1 2 ∷ granted 1 3 ∷ refused 8 ∷ [])
    -- an unreachable node is not near, and is reached by its place
    ∷ answered apart (tables_of (0 ∷ 0 ∷ []) (default_job 3) (1 ∷ 1 ∷ []) (bytes_for (0 ∷ 1 ∷ []))) (lists (255 ∷ []) ∷ ask ∷ ask ∷ [])
    (done ∷ granted 0 0 ∷ refused 8 ∷ [])
    ∷ answered apart (tables_of (0 ∷ 0 ∷ []) (default_job 3) (1 ∷ 1 ∷ []) (bytes_for (0 ∷ 1 ∷ []))) (lists (1 ∷ 255 ∷ []) ∷ ask ∷ ask ∷ ask ∷ [])
    (done ∷ granted 1 1 ∷ granted 0 0 ∷ refused 8 ∷ [])
    -- 15 places and 255 are 16; one more is 6
    ∷ on_a start (lists (replicate 15 3 ++ (255 ∷ [])) ∷ asks 3 ++ (lists (replicate 16 3 ++ (255 ∷ [])) ∷ []))
    (done ∷ granted 3 4 ∷ granted 3 5 ∷ granted 0 0 ∷ refused 6 ∷ [])
    ∷ []

-- "elsewhere nothing changes"
abbrev pub elsewhere : List Example
elsewhere =
    -- before the last place, or in modes 5 and 6, 255 is an application number past the map's end
    on_a start
    (lists (255 ∷ 3 ∷ []) ∷ lists (255 ∷ 255 ∷ []) ∷ lists (3 ∷ 254 ∷ []) ∷ installs 0 5 0 0 (3 ∷ 255 ∷ []) ∷ installs 0 6 0 0 (3 ∷ 255 ∷ []) ∷ [])
    (refused 6 ∷ refused 6 ∷ refused 6 ∷ refused 6 ∷ refused 6 ∷ [])
    -- with a mask, or in a mode without places, a closing 255 helps nothing
    ∷ on_a start (installs 0 4 0 1 (3 ∷ 255 ∷ []) ∷ installs 0 0 0 0 (255 ∷ []) ∷ []) (refused 6 ∷ refused 6 ∷ [])
    -- in a record handed in it is passed over: {255,3} in mode 4, {3,255} in modes 5 and 6
    ∷ on_a (handed (0x20004 ∷ 0 ∷ 15 ∷ 0 ∷ 0x03FF ∷ 0 ∷ [])) (asks 3) (granted 3 4 ∷ granted 3 5 ∷ refused 8 ∷ [])
    ∷ on_a (handed (0x20005 ∷ 0 ∷ 15 ∷ 0 ∷ 0xFF03 ∷ 0 ∷ [])) (asks 3) (granted 3 4 ∷ granted 3 5 ∷ refused 8 ∷ [])
    ∷ on_a (handed (0x20006 ∷ 0 ∷ 15 ∷ 0 ∷ 0xFF03 ∷ 0 ∷ [])) (asks 3) (granted 3 4 ∷ granted 3 5 ∷ refused 8 ∷ [])
    -- and in the last place of mode 4 it closes
    ∷ on_a (handed (0x20004 ∷ 0 ∷ 15 ∷ 0 ∷ 0xFF03 ∷ 0 ∷ [])) (asks 3) (granted 3 4 ∷ granted 3 5 ∷ granted 0 0 ∷ [])
    ∷ []

pub all_right : T (all right (closings ++ elsewhere))
unfolding open_basics open_machine open_masks open_records open_maps open_search_order open_decisions open_calls open_book
all_right = tt
