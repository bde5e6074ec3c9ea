-- Request M-104 by examples: good notes and bad ones, their names, lists turned into places, and notes written.
use Rattle.std.specs.Prelude.{ℕ, Bool, not, ◌&&◌, List, [], ◌∷◌, ◌++◌, replicate, T, eqb}
use Rattle.rules.specs.Basics.{open_basics, all, each, same}
use Rattle.rules.specs.Machine.{open_machine}
use Rattle.rules.specs.Records.{open_records, bytes_of}
use Rattle.rules.specs.Maps.{open_maps, no_node, bytes_for}
use Rattle.rules.specs.Decisions.{open_decisions}
use Rattle.rules.specs.Calls.{open_calls}
use Rattle.rules.specs.Journal.{open_journal}
use Rattle.rules.specs.Notes.{open_notes, text_word, data_word, any_word, closing_word, note_ok, name_part, in_part, table_ok, note_places}
use Rattle.rules.specs.Notes.{note_of, write_note}
use Rattle.rules.specs.Answers.{in_numbers}

-- "names with their zeros, end to end"
abbrev laid : List (List ℕ) → List ℕ
laid names = each (λ w. w ++ (0 ∷ [])) names

-- A question to turn a list into places: N, the job table's words, the maps, the table of names, the note, the job, which list.
pub record Question : Type 0 where
  pub nodes : ℕ
  pub words : ℕ
  pub maps : List ℕ
  pub table : List ℕ
  pub note : List ℕ
  pub job : ℕ
  pub which : ℕ

-- What an example says: a note is good or bad; a table of N names is good or bad; the k-th name of a note is handed back as the part from
-- `start` on with these bytes; a question, or two lists, with so many bytes of output, all 7, are answered so and leave these bytes.
pub data Example : Type 0 where
  good bad : (note : List ℕ) → Example
  table noTable : (n : ℕ) (names : List (List ℕ)) → Example
  hands_back : (note : List ℕ) (k start : ℕ) (name : List ℕ) → Example
  turns : (question : Question) (room : ℕ) (answer output : List ℕ) → Example
  writes : (texts datas : List (List ℕ)) (room : ℕ) (answer output : List ℕ) → Example

abbrev pub right : Example → Bool
right (good note) = note_ok note
right (bad note) = not (note_ok note)
right (table n names) = table_ok n (laid names)
right (noTable n names) = not (table_ok n (laid names))
right (hands_back note k start name) = eqb (name_part note k).start start && same (in_part note (name_part note k)) name
right (turns q room answer output) =
    let done = note_places q.nodes (replicate q.words 0) q.maps q.table q.note q.job q.which (replicate room 7) in
    same (in_numbers done.answer) answer && same done.output output
right (writes texts datas room answer output) =
    let done = write_note (laid texts) (laid datas) (replicate room 7) in
    same (in_numbers done.answer) answer && same done.output output

-- the names `ram`, `fast` and `far`
abbrev ram : List ℕ
ram = 114 ∷ 97 ∷ 109 ∷ []

abbrev fast : List ℕ
fast = 102 ∷ 97 ∷ 115 ∷ 116 ∷ []

abbrev far : List ℕ
far = 102 ∷ 97 ∷ 114 ∷ []

-- text {ram}, data {fast, ANY}
abbrev sample : List ℕ
sample =
    1 ∷ 0 ∷ 0 ∷ 0 ∷ 4 ∷ 0 ∷ 0 ∷ 0 ∷ 2 ∷ 0 ∷ 0 ∷ 0 ∷ 9 ∷ 0 ∷ 0 ∷ 0
    ∷ 114 ∷ 97 ∷ 109 ∷ 0 ∷ 102 ∷ 97 ∷ 115 ∷ 116 ∷ 0 ∷ 65 ∷ 78 ∷ 89 ∷ 0 ∷ []

-- a note with these four numbers and these bytes behind them; and the note of two lists
abbrev with_head : ℕ → ℕ → ℕ → ℕ → List ℕ → List ℕ
with_head a b c d rest = bytes_of 4 a ++ bytes_of 4 b ++ bytes_of 4 c ++ bytes_of 4 d ++ rest

abbrev note_with : List (List ℕ) → List (List ℕ) → List ℕ
note_with texts datas = note_of (laid texts) (laid datas)

-- 16 names in each list, ANY the last
abbrev full : List ℕ
full = note_with (replicate 16 ram) (replicate 15 fast ++ (closing_word ∷ []))

abbrev pub judged : List Example
judged =
    good sample
    -- no names at all; ANY alone; 16 names; 15 bytes; `Text`; bytes above 127
    ∷ good (with_head 0 0 0 0 [])
    ∷ good (note_with (closing_word ∷ []) [])
    ∷ good full
    ∷ good (note_with (replicate 15 120 ∷ []) ((84 ∷ 101 ∷ 120 ∷ 116 ∷ []) ∷ []))
    ∷ good (note_with ((255 ∷ []) ∷ []) (ram ∷ ram ∷ []))
    -- 15 bytes in all; a byte after the last string; a count or a size off by one; no closing zero
    ∷ bad (replicate 15 0)
    ∷ bad (with_head 0 0 0 0 (0 ∷ []))
    ∷ bad (with_head 2 4 0 0 (laid (ram ∷ [])))
    ∷ bad (with_head 0 4 0 0 (laid (ram ∷ [])))
    ∷ bad (with_head 1 3 0 0 (laid (ram ∷ [])))
    ∷ bad (with_head 1 5 0 0 (laid (ram ∷ [])))
    ∷ bad (with_head 1 3 0 0 ram)
    ∷ bad (with_head 0 3 0 0 ram)
    -- an empty name; 16 bytes; `text`, `data`, `any`; ANY not last; one bad list is enough
    ∷ bad (note_with ([] ∷ []) [])
    ∷ bad (note_with [] (replicate 16 120 ∷ []))
    ∷ bad (note_with (text_word ∷ []) [])
    ∷ bad (note_with (ram ∷ []) (data_word ∷ []))
    ∷ bad (note_with (ram ∷ any_word ∷ []) [])
    ∷ bad (note_with (closing_word ∷ ram ∷ []) [])
    ∷ bad (note_with (closing_word ∷ closing_word ∷ []) [])
    -- 17 names, ANY counted
    ∷ bad (note_with (replicate 17 ram) [])
    ∷ bad (note_with [] (replicate 16 ram ++ (closing_word ∷ [])))
    -- sizes near 2 ^ 32, also with a sum that wraps at 32 bits; a name that runs from text into data
    ∷ bad (with_head 1 4294967295 0 4294967295 (laid (ram ∷ [])))
    ∷ bad (with_head 1 4294967289 0 3 (laid (ram ∷ [])))
    ∷ bad (with_head 0 2 1 2 (laid (ram ∷ [])))
    -- two nodes may have one name; no ANY; too few names; a name of 16 bytes
    ∷ table 3 (ram ∷ fast ∷ ram ∷ [])
    ∷ table 17 (replicate 17 ram)
    ∷ noTable 2 (ram ∷ closing_word ∷ [])
    ∷ noTable 3 (ram ∷ fast ∷ [])
    ∷ noTable 1 (replicate 16 120 ∷ [])
    ∷ []

-- "The k-th name, k from 0 and text before data"
abbrev pub handed : List Example
handed =
    hands_back sample 0 16 ram
    ∷ hands_back sample 1 20 fast
    ∷ hands_back sample 2 25 closing_word
    ∷ hands_back full 15 76 ram
    ∷ hands_back full 16 80 fast
    ∷ hands_back full 31 155 closing_word
    -- "an empty part if the note is bad or has no such name": not even its text names are read where the data list is bad
    ∷ hands_back sample 3 0 []
    ∷ hands_back full 32 0 []
    ∷ hands_back (with_head 0 0 0 0 []) 0 0 []
    ∷ hands_back (note_with (ram ∷ []) (data_word ∷ [])) 0 0 []
    ∷ []

-- four nodes: the nodes 0 and 2 are named `ram`, node 1 `fast` and node 3 `far`
abbrev node_names : List ℕ
node_names = laid (ram ∷ fast ∷ ram ∷ far ∷ [])

-- job 0's application node 0 is node 3, its 1 is node 1; job 1's map is bad
abbrev some_maps : List ℕ
some_maps = bytes_for (3 ∷ 1 ∷ []) ++ replicate 64 no_node

abbrev ask : List ℕ → List ℕ → ℕ → ℕ → Question
ask maps note job which = record { nodes = 4; words = 12; maps = maps; table = node_names; note = note; job = job; which = which }

-- the text list of these names, with a map of these nodes, gives these places
abbrev gives : List ℕ → List (List ℕ) → List ℕ → List ℕ → Example
gives nodes names answer output = turns (ask (bytes_for nodes ++ replicate 64 no_node) (note_with names []) 0 0) 3 answer output

-- a question is refused so with no room at all, and with room for a byte, which stays
abbrev refused_with : ℕ → Question → List Example
refused_with r q = turns q 0 (r ∷ 0 ∷ []) [] ∷ turns q 1 (r ∷ 0 ∷ []) (7 ∷ []) ∷ []

abbrev pub turned : List Example
turned =
    -- "Under M-103 a place is the node's application number"; "ANY becoming 255"; no output changes past the places
    gives (3 ∷ 1 ∷ []) (fast ∷ far ∷ closing_word ∷ []) (0 ∷ 3 ∷ []) (1 ∷ 0 ∷ 255 ∷ [])
    ∷ gives (0 ∷ 1 ∷ 2 ∷ 3 ∷ []) (far ∷ fast ∷ []) (0 ∷ 2 ∷ []) (3 ∷ 1 ∷ 7 ∷ [])
    ∷ gives (3 ∷ 1 ∷ []) (closing_word ∷ []) (0 ∷ 1 ∷ []) (255 ∷ 7 ∷ 7 ∷ [])
    ∷ gives (3 ∷ 1 ∷ []) (far ∷ far ∷ []) (0 ∷ 2 ∷ []) (0 ∷ 0 ∷ 7 ∷ [])
    -- "the first match counting": node 0 and not node 2; where it is outside the map the name is unknown
    ∷ gives (2 ∷ 0 ∷ []) (ram ∷ []) (0 ∷ 1 ∷ []) (1 ∷ 7 ∷ 7 ∷ [])
    ∷ gives (2 ∷ 1 ∷ []) (ram ∷ []) (0 ∷ 0 ∷ []) (7 ∷ 7 ∷ 7 ∷ [])
    -- "An empty list or an unknown name drops that whole list to default", which needs no room
    ∷ gives (3 ∷ 1 ∷ []) (fast ∷ ram ∷ closing_word ∷ []) (0 ∷ 0 ∷ []) (7 ∷ 7 ∷ 7 ∷ [])
    ∷ gives (3 ∷ 1 ∷ []) (far ∷ (102 ∷ []) ∷ []) (0 ∷ 0 ∷ []) (7 ∷ 7 ∷ 7 ∷ [])
    ∷ gives (3 ∷ 1 ∷ []) [] (0 ∷ 0 ∷ []) (7 ∷ 7 ∷ 7 ∷ [])
    ∷ turns (ask some_maps sample 0 0) 0 (0 ∷ 0 ∷ []) []
    -- which list: the one drops, the other does not
    ∷ turns (ask some_maps sample 0 1) 3 (0 ∷ 2 ∷ []) (1 ∷ 255 ∷ 7 ∷ [])
    ∷ turns (ask some_maps sample 0 2) 2 (0 ∷ 2 ∷ []) (1 ∷ 255 ∷ [])
    -- "then a short output 11"
    ∷ refused_with 11 (ask some_maps sample 0 1)
    -- 16 before 11; 15 before 16; 2 before 15; 1 before 2: by N, by each table's length, by the table of names
    ++ refused_with 16 (ask some_maps (replicate 15 0) 0 1)
    ++ refused_with 15 (ask some_maps (replicate 15 0) 1 1)
    ++ refused_with 2 (ask some_maps (replicate 15 0) 2 1)
    ++ refused_with 1 (record { nodes = 3; words = 12; maps = some_maps; table = node_names; note = sample; job = 2; which = 0 })
    ++ refused_with 1 (record { nodes = 4; words = 11; maps = some_maps; table = node_names; note = sample; job = 2; which = 0 })
    ++ refused_with 1 (record { nodes = 4; words = 6; maps = some_maps; table = node_names; note = sample; job = 2; which = 0 })
    ++ refused_with 1 (record { nodes = 4; words = 12; maps = some_maps; table = node_names ++ (0 ∷ []); note = sample; job = 2; which = 0 })

-- "Write the note too"
abbrev pub written : List Example
written =
    -- a long output keeps its bytes past the note; one a byte too short is 11
    writes (ram ∷ []) (fast ∷ closing_word ∷ []) 31 (0 ∷ 29 ∷ []) (sample ++ (7 ∷ 7 ∷ []))
    ∷ writes (ram ∷ []) (fast ∷ closing_word ∷ []) 29 (0 ∷ 29 ∷ []) sample
    ∷ writes (ram ∷ []) (fast ∷ closing_word ∷ []) 28 (11 ∷ 0 ∷ []) (replicate 28 7)
    ∷ writes [] [] 16 (0 ∷ 16 ∷ []) (replicate 16 0)
    -- "a bad note or list is 16, then a short output 11"
    ∷ writes (ram ∷ []) (closing_word ∷ fast ∷ []) 3 (16 ∷ 0 ∷ []) (replicate 3 7)
    ∷ writes (text_word ∷ []) (fast ∷ []) 40 (16 ∷ 0 ∷ []) (replicate 40 7)
    ∷ writes (ram ∷ []) (replicate 17 fast) 3 (16 ∷ 0 ∷ []) (replicate 3 7)
    ∷ []

pub all_right : T (all right (judged ++ handed ++ turned ++ written))
unfolding open_basics open_machine open_records open_maps open_decisions open_calls open_journal open_notes
all_right = tt
