-- Document 01's ring story on machine A, encoded: what a replay writes and leaves.
-- Assumes nothing.
use Rattle.std.specs.Prelude.{ℕ, ◌+◌, ◌*◌, ◌^◌, ◌≡◌, refl, List, [], ◌∷◌, ◌++◌, replicate}
use Rattle.rules.specs.Basics.{open_basics}
use Rattle.rules.specs.Machine.{open_machine}
use Rattle.rules.specs.Masks.{open_masks}
use Rattle.rules.specs.Records.{open_records}
use Rattle.rules.specs.Maps.{open_maps, bytes_for}
use Rattle.rules.specs.SearchOrder.{open_search_order}
use Rattle.rules.specs.Decisions.{refuse, accept}
use Rattle.rules.specs.Calls.{open_calls, Tables, tables_of}
use Rattle.rules.specs.Drain.{open_drain}
use Rattle.rules.specs.Book.{open_book, request, release, rebind}
use Rattle.rules.specs.Examples.{machine_a, start, installs}
use Rattle.replay.specs.Encoding.{open_encoding, calls_in}
use Rattle.replay.specs.Replay.{open_replay, run, on_replay}

-- sixteen words: a kind, a job, three arguments, and no more than eight places
abbrev call : ℕ → ℕ → ℕ → ℕ → ℕ → ℕ → ℕ → List ℕ
call kind job a b c len places = kind ∷ job ∷ a ∷ b ∷ c ∷ len ∷ 0 ∷ 0 ∷ places ∷ replicate 7 0

abbrev asking : List ℕ
asking = call 1 0 0 0 0 0 0

-- all nodes allowed; ring {3,3,1}; five requests; page 5 is given back; one request more
abbrev story : List ℕ
story =
    call 3 0 15 0 0 0 0 ++ call 4 0 5 0 0 3 (3 + 3 * 256 + 1 * 256 * 256)
    ++ asking ++ asking ++ asking ++ asking ++ asking ++ call 2 0 5 0 0 0 0 ++ asking

-- the calls that it says
story_calls : calls_in story
    ≡ rebind 0 15 ∷ installs 0 5 0 0 (3 ∷ 3 ∷ 1 ∷ [])
    ∷ request 0 0 ∷ request 0 0 ∷ request 0 0 ∷ request 0 0 ∷ request 0 0 ∷ release 0 5 ∷ request 0 0 ∷ []
unfolding open_basics open_records open_encoding
story_calls = refl

-- the word of page p of node n, granted or released, and those of a refusal and of a call that is done
abbrev page : ℕ → ℕ → ℕ
page n p = n * 2 ^ 8 + p * 2 ^ 32

abbrev no : ℕ → ℕ
no r = r + 255 * 2 ^ 8 + 4294967295 * 2 ^ 32

-- pages 4, 5, 2, 3, then refusal 8; page 5 released and granted again; the word past the answers stays
story_run : on_replay machine_a (start machine_a) story (replicate 10 7)
    ≡ run (accept 9)
    (tables_of (0 ∷ 0 ∷ 1 ∷ 1 ∷ 1 ∷ 1 ∷ []) ((5 + 3 * 2 ^ 16 + 1 * 2 ^ 24) ∷ 0 ∷ 15 ∷ 0 ∷ (3 + 3 * 256 + 1 * 256 * 256) ∷ 0 ∷ [])
    (2 ∷ 0 ∷ 0 ∷ 0 ∷ []) (start machine_a).maps)
    (no 0 ∷ no 0 ∷ page 3 4 ∷ page 3 5 ∷ page 1 2 ∷ page 1 3 ∷ no 8 ∷ page 3 5 ∷ page 3 5 ∷ 7 ∷ [])
unfolding open_basics open_machine open_masks open_records open_maps open_search_order open_calls open_book open_encoding open_replay
story_run = refl

-- held pages, one past the last, and counts that are wrong
abbrev used : Tables
used = tables_of (1 ∷ 255 ∷ 0 ∷ 0 ∷ 9 ∷ 1 ∷ 7 ∷ []) (replicate 6 0) (0 ∷ 9 ∷ 9 ∷ 1 ∷ []) (replicate 64 0)

-- kind 16 is a fresh table, whatever its other words are, and whatever the maps hold; kind 20 is unknown
fresh_run : (on_replay machine_a used (call 16 99 1 2 3 4 5) (7 ∷ 7 ∷ [])
    ≡ run (accept 1) (tables_of (replicate 6 0 ++ (7 ∷ [])) (replicate 6 0) machine_a.page_counts used.maps) (no 0 ∷ 7 ∷ []))
    × (on_replay machine_a used (call 20 0 0 0 0 0 0) (7 ∷ 7 ∷ []) ≡ run (refuse 13) used (7 ∷ 7 ∷ []))
unfolding open_basics open_machine open_masks open_records open_maps open_search_order open_calls open_book open_encoding open_replay
fresh_run = (refl, refl)

-- refused, and nothing changes
abbrev Untouched : List ℕ → ℕ → ℕ → Type 0
Untouched words room r = on_replay machine_a (start machine_a) words (replicate room 7) ≡ run (refuse r) (start machine_a) (replicate room 7)

-- a list that is cut short, an unknown kind, and an output that is too short
refused_whole : Untouched (1 ∷ story) 10 13 × Untouched (story ++ call 6 0 0 0 0 0 0) 10 13 × Untouched story 8 11
unfolding open_basics open_machine open_records open_maps open_calls open_encoding open_replay
refused_whole = (refl, refl, refl)

-- an install may say any number of places: 16 are taken, more are refused by the install itself, even more than there are words for
any_length : on_replay machine_a (start machine_a) (call 3 0 15 0 0 0 0 ++ call 4 0 5 0 0 17 0 ++ call 4 0 5 0 0 65 0 ++ call 4 0 5 3 0 65 0) (replicate 4 7)
    ≡ run (accept 4) (tables_of (replicate 6 0) (0 ∷ 0 ∷ 15 ∷ 0 ∷ 0 ∷ 0 ∷ []) machine_a.page_counts (start machine_a).maps) (no 0 ∷ no 6 ∷ no 6 ∷ no 5 ∷ [])
unfolding open_basics open_machine open_masks open_records open_maps open_search_order open_calls open_book open_encoding open_replay
any_length = refl

-- M-103: kind 18 sets the map 3, 1; kind 17 keeps its entry 1; a list that falls, one of no numbers and one of 65 are 15, never 13
abbrev mapping : List ℕ
mapping = call 18 0 0 0 0 2 (3 + 1 * 256) ++ call 17 0 0 0 0 2 1 ++ call 17 0 0 0 0 0 0 ++ call 18 0 0 0 0 65 0 ++ call 17 0 0 0 0 1 1

map_run : on_replay machine_a (start machine_a) mapping (replicate 5 7)
    ≡ run (accept 5) (tables_of (replicate 6 0) (replicate 6 0) machine_a.page_counts (bytes_for (1 ∷ [])))
    (no 0 ∷ no 15 ∷ no 15 ∷ no 15 ∷ no 0 ∷ [])
unfolding open_basics open_machine open_masks open_records open_maps open_search_order open_calls open_book open_encoding open_replay
map_run = refl

-- M-107: kind 19 drains the node of word 1 with the room of word 2, and ignores the other words; its answer has FF for the node and the number
-- of moves where a page would stand. Two pages of node 0 go to node 1: room for three numbers is 11, and there is no node 4
abbrev draining : List ℕ
draining = call 3 0 15 0 0 0 0 ++ asking ++ asking ++ call 19 0 3 0 0 0 0 ++ call 19 4 9 9 9 9 9 ++ call 19 0 4 7 7 7 7

drain_run : on_replay machine_a (start machine_a) draining (replicate 6 7)
    ≡ run (accept 6)
    (tables_of (0 ∷ 0 ∷ 1 ∷ 1 ∷ 0 ∷ 0 ∷ []) (0 ∷ 0 ∷ 15 ∷ 0 ∷ 0 ∷ 0 ∷ []) (2 ∷ 0 ∷ 0 ∷ 2 ∷ []) (start machine_a).maps)
    (no 0 ∷ page 0 0 ∷ page 0 1 ∷ no 11 ∷ no 6 ∷ page 255 2 ∷ [])
unfolding open_basics open_machine open_masks open_records open_maps open_search_order open_calls open_drain open_book open_encoding open_replay
drain_run = refl
