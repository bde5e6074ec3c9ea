-- Request M-103 by examples on machine A: what calls answer and leave where jobs have maps, good ones and bad ones.
use Rattle.std.specs.Prelude.{ℕ, ◌-◌, ◌^◌, Bool, List, [], ◌∷◌, ◌++◌, map, replicate, T}
use Rattle.rules.specs.Basics.{open_basics, all, from, same}
use Rattle.rules.specs.Machine.{open_machine, Machine}
use Rattle.rules.specs.Masks.{open_masks}
use Rattle.rules.specs.Records.{open_records}
use Rattle.rules.specs.Maps.{open_maps, no_node, bytes_for}
use Rattle.rules.specs.SearchOrder.{open_search_order}
use Rattle.rules.specs.Decisions.{open_decisions}
use Rattle.rules.specs.Calls.{open_calls, Answer, granted, released, done, refused, Tables, tables_of, map_of}
use Rattle.rules.specs.Book.{open_book, Call, request, release, rebind, clear, keep_nodes, set_map, answers, final}
use Rattle.rules.specs.Examples.{machine_a, installs, same_answers}
use Rattle.rules.specs.MoreExamples.{machine64, ask}

-- What an example says: these calls on a machine with these tables are answered so; on machine A they leave job 0 a map of these nodes, or
-- leave these words in the job table.
pub data Example : Type 0 where
  answered : (m : Machine) (t : Tables) (calls : List Call) (wanted : List Answer) → Example
  mapped : (t : Tables) (calls : List Call) (nodes : List ℕ) → Example
  stored : (t : Tables) (calls : List Call) (words : List ℕ) → Example

abbrev pub right : Example → Bool
right (answered m t calls wanted) = same_answers (answers m t calls) wanted
right (mapped t calls nodes) = same (map_of (final machine_a t calls) 0) nodes
right (stored t calls words) = same (final machine_a t calls).records words

-- a job in default mode with these nodes allowed
abbrev pub default_job : ℕ → List ℕ
default_job allowed = 0 ∷ 0 ∷ allowed ∷ 0 ∷ 0 ∷ 0 ∷ []

-- machine A with all pages free, these jobs and these maps
abbrev pub free_a : List ℕ → List ℕ → Tables
free_a jobs maps = tables_of (replicate 6 0) jobs machine_a.page_counts maps

-- one job with all nodes allowed and a map of these bytes
abbrev with_bytes : List ℕ → Tables
with_bytes bytes = free_a (default_job 15) bytes

-- a job's application node 0 is node 3, its 1 is node 1
abbrev pub three_one : List ℕ
three_one = bytes_for (3 ∷ 1 ∷ [])

abbrev start : Tables
start = with_bytes three_one

-- pages 0 and 4 are job 0's
abbrev holding : List ℕ → Tables
holding bytes = tables_of (1 ∷ 0 ∷ 0 ∷ 0 ∷ 1 ∷ 0 ∷ []) (default_job 15) (1 ∷ 2 ∷ 0 ∷ 1 ∷ []) bytes

-- calls on machine A
abbrev pub on_a : Tables → List Call → List Answer → Example
on_a t calls wanted = answered machine_a t calls wanted

-- a request, a release and an install, each with what comes after 15 wrong too, and the tenant's call
abbrev tested : List Call
tested = request 0 8 ∷ release 0 1 ∷ installs 0 9 0 0 [] ∷ keep_nodes 0 (0 ∷ []) ∷ []

-- a map of these bytes is refused 15 there, right after 2
abbrev bad : List ℕ → Example
bad bytes =
    on_a (with_bytes bytes) (request 1 8 ∷ release 1 1 ∷ installs 1 9 0 0 [] ∷ tested)
    (refused 2 ∷ refused 2 ∷ refused 2 ∷ refused 15 ∷ refused 15 ∷ refused 15 ∷ refused 15 ∷ [])

-- "User masks and places are turned into system nodes at install, answers back"
abbrev pub turns : List Example
turns =
    -- default: node 1 is the nearest of the map, page 2 in application node 1; the map is a limit, then 8
    on_a start (ask ∷ ask ∷ ask ∷ ask ∷ ask ∷ []) (granted 1 2 ∷ granted 1 3 ∷ granted 0 4 ∷ granted 0 5 ∷ refused 8 ∷ [])
    -- ring {0,0,1}; its places are stored as nodes 3, 3 and 1
    ∷ on_a start (installs 0 5 0 0 (0 ∷ 0 ∷ 1 ∷ []) ∷ ask ∷ ask ∷ ask ∷ ask ∷ ask ∷ [])
    (done ∷ granted 0 4 ∷ granted 0 5 ∷ granted 1 2 ∷ granted 1 3 ∷ refused 8 ∷ [])
    ∷ stored start (installs 0 5 0 0 (0 ∷ 0 ∷ 1 ∷ []) ∷ []) (0x30005 ∷ 0 ∷ 15 ∷ 0 ∷ 0x010303 ∷ 0 ∷ [])
    -- bind to application node 0 binds to node 3, static too
    ∷ on_a start (installs 0 2 0 1 [] ∷ ask ∷ ask ∷ ask ∷ []) (done ∷ granted 0 4 ∷ granted 0 5 ∷ refused 8 ∷ [])
    ∷ stored start (installs 0 2 0 1 [] ∷ []) (2 ∷ 8 ∷ 15 ∷ 8 ∷ 0 ∷ 0 ∷ [])
    ∷ stored start (installs 0 2 1 3 [] ∷ []) (0x102 ∷ 10 ∷ 15 ∷ 10 ∷ 0 ∷ 0 ∷ [])
    -- "a relative mask doesn't, being ranks already, nor a rebind's": past the map's end it is no 6
    ∷ stored start (installs 0 2 2 8 [] ∷ []) (0x202 ∷ 8 ∷ 15 ∷ 8 ∷ 0 ∷ 0 ∷ [])
    ∷ stored start (rebind 0 5 ∷ []) (default_job 5)
    -- "an application number past the map's end is 6": a place, a bit of a mask; after 7
    ∷ on_a start
    (installs 0 5 0 0 (2 ∷ []) ∷ installs 0 5 0 0 (0 ∷ 255 ∷ []) ∷ installs 0 2 0 4 [] ∷ installs 0 2 1 5 [] ∷ installs 0 5 0 0 (1 ∷ []) ∷ [])
    (refused 6 ∷ refused 6 ∷ refused 6 ∷ refused 6 ∷ done ∷ [])
    ∷ on_a (free_a (default_job 0) three_one) (installs 0 5 0 0 (2 ∷ []) ∷ []) (refused 7 ∷ [])
    -- "misses the allowed set": as nodes, with node 1 alone allowed
    ∷ on_a (free_a (default_job 2) three_one) (installs 0 2 0 1 [] ∷ installs 0 2 0 2 [] ∷ []) (refused 6 ∷ done ∷ [])
    -- "A released page outside the map answers node FF"
    ∷ on_a (holding three_one) (release 0 0 ∷ release 0 4 ∷ release 0 2 ∷ []) (released no_node 0 ∷ released 0 4 ∷ refused 10 ∷ [])
    ∷ []

-- "The search order drops nodes outside the map"
abbrev pub limits : List Example
limits =
    -- the allowed set and the map have no node in both; node 0 alone
    on_a (free_a (default_job 5) three_one) (ask ∷ []) (refused 8 ∷ [])
    ∷ on_a (free_a (default_job 5) (bytes_for (1 ∷ 0 ∷ []))) (ask ∷ []) (granted 1 0 ∷ [])
    -- a ring handed in over nodes 9, 0, 255 and 3: a place at N or above, or outside the map, is passed over
    ∷ on_a (free_a (0x40005 ∷ 0 ∷ 15 ∷ 0 ∷ 0x03FF0009 ∷ 0 ∷ []) three_one) (ask ∷ ask ∷ ask ∷ []) (granted 0 4 ∷ granted 0 5 ∷ refused 8 ∷ [])
    -- interleave over nodes 0 and 3: the target 0 is outside the map and has its turn
    ∷ on_a (free_a (3 ∷ 9 ∷ 15 ∷ 9 ∷ 0 ∷ 0 ∷ []) three_one) (ask ∷ ask ∷ ask ∷ ask ∷ []) (granted 1 2 ∷ granted 0 4 ∷ granted 1 3 ∷ granted 0 5 ∷ [])
    -- a bind set outside the map is not empty
    ∷ on_a (free_a (2 ∷ 1 ∷ 15 ∷ 1 ∷ 0 ∷ 0 ∷ []) three_one) (ask ∷ []) (refused 8 ∷ [])
    -- two jobs: each goes by its own map (and its own colour, M-105)
    ∷ on_a (free_a (default_job 15 ++ default_job 15) (three_one ++ bytes_for (1 ∷ 0 ∷ [])))
    (request 1 0 ∷ request 0 0 ∷ keep_nodes 0 (0 ∷ []) ∷ request 1 2 ∷ request 0 2 ∷ []) (granted 1 1 ∷ granted 1 2 ∷ done ∷ granted 0 3 ∷ granted 0 4 ∷ [])
    ∷ []

-- "An empty map, or one with a repeated or unknown node or a node after an FF, is refused 15, right after 2 in request, release and install"
abbrev pub bad_maps : List Example
bad_maps =
    bad (replicate 64 no_node)
    ∷ bad (bytes_for (3 ∷ 1 ∷ 3 ∷ []))
    ∷ bad (bytes_for (3 ∷ 4 ∷ []))
    ∷ bad (3 ∷ no_node ∷ 1 ∷ replicate 61 no_node)
    ∷ bad (3 ∷ 1 ∷ (replicate 61 no_node ++ (0 ∷ [])))
    ∷ bad (from 0 64)
    -- a good one: 3, 10 and 5, and the tenant's call is done
    ∷ on_a start tested (refused 3 ∷ refused 10 ∷ refused 5 ∷ done ∷ [])
    -- before 4; rebind and clear look at no map, and clear leaves it
    ∷ on_a (free_a (7 ∷ 0 ∷ 15 ∷ 0 ∷ 0 ∷ 0 ∷ []) (replicate 64 no_node)) (ask ∷ installs 0 0 0 0 [] ∷ rebind 0 1 ∷ clear 0 ∷ rebind 0 1 ∷ ask ∷ [])
    (refused 15 ∷ refused 15 ∷ refused 4 ∷ done ∷ done ∷ refused 15 ∷ [])
    ∷ on_a (free_a (7 ∷ 0 ∷ 15 ∷ 0 ∷ 0 ∷ 0 ∷ []) three_one) (ask ∷ installs 0 0 0 0 [] ∷ []) (refused 4 ∷ refused 4 ∷ [])
    -- "in a further lent table of 64 bytes a job, else 1": 63 bytes, 65, none; rebind and clear are not lent it
    ∷ on_a (with_bytes (3 ∷ 1 ∷ replicate 61 no_node)) (tested ++ (set_map 0 (1 ∷ []) ∷ rebind 0 1 ∷ clear 0 ∷ []))
    (refused 1 ∷ refused 1 ∷ refused 1 ∷ refused 1 ∷ refused 1 ∷ done ∷ done ∷ [])
    ∷ on_a (with_bytes (3 ∷ 1 ∷ replicate 63 no_node)) (ask ∷ set_map 0 (1 ∷ []) ∷ []) (refused 1 ∷ refused 1 ∷ [])
    ∷ on_a (with_bytes []) (ask ∷ set_map 1 [] ∷ []) (refused 1 ∷ refused 1 ∷ [])
    -- with N 64 a map without an FF is good: here application node a is node 63 - a
    ∷ answered machine64 (tables_of (replicate 64 0) (default_job (2 ^ 64 - 1)) (replicate 64 1) (map (λ a. 63 - a) (from 0 64)))
    (ask ∷ installs 0 2 0 1 [] ∷ ask ∷ []) (granted 63 0 ∷ done ∷ granted 0 63 ∷ [])
    ∷ []

-- the tenant's call and the administrator's
abbrev pub settings : List Example
settings =
    -- "may only drop nodes": of {3,1} application node 1 is kept, and is 0 then
    on_a start (keep_nodes 0 (1 ∷ []) ∷ ask ∷ installs 0 5 0 0 (1 ∷ []) ∷ []) (done ∷ granted 0 2 ∷ refused 6 ∷ [])
    ∷ mapped start (keep_nodes 0 (1 ∷ []) ∷ []) (1 ∷ [])
    ∷ mapped start (keep_nodes 0 (0 ∷ 1 ∷ []) ∷ []) (3 ∷ 1 ∷ [])
    -- "one or more, rising, else 15", and no number past the map's end; nothing changes
    ∷ on_a start (keep_nodes 0 [] ∷ keep_nodes 0 (1 ∷ 0 ∷ []) ∷ keep_nodes 0 (0 ∷ 0 ∷ []) ∷ keep_nodes 0 (2 ∷ []) ∷ keep_nodes 0 (0 ∷ 3 ∷ []) ∷ [])
    (refused 15 ∷ refused 15 ∷ refused 15 ∷ refused 15 ∷ refused 15 ∷ [])
    ∷ mapped start (keep_nodes 0 [] ∷ keep_nodes 0 (1 ∷ 0 ∷ []) ∷ keep_nodes 0 (2 ∷ []) ∷ []) (3 ∷ 1 ∷ [])
    -- "any good list of system nodes": the old map need not be good
    ∷ on_a start (set_map 0 (2 ∷ 0 ∷ []) ∷ ask ∷ []) (done ∷ granted 1 0 ∷ [])
    ∷ mapped start (set_map 0 (2 ∷ 0 ∷ []) ∷ []) (2 ∷ 0 ∷ [])
    ∷ mapped (with_bytes (replicate 64 4)) (set_map 0 (0 ∷ 1 ∷ 2 ∷ 3 ∷ []) ∷ []) (0 ∷ 1 ∷ 2 ∷ 3 ∷ [])
    -- "else 15"; nothing changes
    ∷ on_a start (set_map 0 [] ∷ set_map 0 (1 ∷ 1 ∷ []) ∷ set_map 0 (4 ∷ []) ∷ set_map 0 (1 ∷ no_node ∷ []) ∷ [])
    (refused 15 ∷ refused 15 ∷ refused 15 ∷ refused 15 ∷ [])
    ∷ mapped start (set_map 0 [] ∷ set_map 0 (1 ∷ 1 ∷ []) ∷ set_map 0 (4 ∷ []) ∷ set_map 0 (no_node ∷ []) ∷ []) (3 ∷ 1 ∷ [])
    -- "Both test 1, 2, 15": 2 before 15
    ∷ on_a start (keep_nodes 1 [] ∷ set_map 1 [] ∷ []) (refused 2 ∷ refused 2 ∷ [])
    ∷ []

pub all_right : T (all right (turns ++ limits ++ bad_maps ++ settings))
unfolding open_basics open_machine open_masks open_records open_maps open_search_order open_decisions open_calls open_book
all_right = tt
