-- Document 01, "Shown by example" and "Easy ways to get it wrong": the examples not marked T, and one for each rule that those marked
-- T leave open, in one table with one statement.
use Rattle.std.specs.Prelude.{
  ℕ,
  zero,
  suc,
  ◌+◌,
  ◌-◌,
  ◌*◌,
  ◌/◌,
  ◌%◌,
  ◌^◌,
  Bool,
  true,
  false,
  ◌&&◌,
  cond,
  List,
  [],
  ◌∷◌,
  ◌++◌,
  map,
  take,
  drop,
  replicate,
  T,
  eqb,
}
use Prim.Native.Char.{code}
use Prim.Native.String.{String, [] as end, ◌∷◌ as ◌then◌}
use Rattle.rules.specs.Basics.{open_basics, all, from, same}
use Rattle.rules.specs.Machine.{open_machine, Machine, node_count}
use Rattle.rules.specs.Masks.{open_masks}
use Rattle.rules.specs.Records.{open_records, well_formed, decode}
use Rattle.rules.specs.Maps.{open_maps}
use Rattle.rules.specs.SearchOrder.{open_search_order, near}
use Rattle.rules.specs.Decisions.{open_decisions, Decision, refuse, accept}
use Rattle.rules.specs.Calls.{open_calls, Answer, granted, released, done, refused}
use Rattle.rules.specs.Book.{open_book, Call, request, release, rebind, clear, answers}
use Rattle.rules.specs.Text.{open_text, read_text, write_text}
use Rattle.rules.specs.Journal.{open_journal, journal}
use Rattle.rules.specs.Examples.{machine_a, start, nodes, page, installs, set_up, same_answers}

-- the bytes of a text
abbrev pub text : String → List ℕ
text end = []
text (c then s) = code c ∷ text s

-- a decision in numbers
abbrev pub in_numbers : Decision ℕ → List ℕ
in_numbers (refuse r) = 0 ∷ r ∷ []
in_numbers (accept x) = 1 ∷ x ∷ []

-- What an example says: these calls on a machine with all pages free and one fresh job are answered so; near(x) on a machine whose nodes
-- are all allowed is this; this text with this N and allowed set is read so; this mask is written so into that much room; this journal
-- is answered so; these six words are, or are not, a well-formed record with this N.
pub data Example : Type 0 where
  run : (m : Machine) (calls : List Call) (wanted : List Answer) → Example
  near_to : (m : Machine) (x : ℕ) (wanted : List ℕ) → Example
  reads : (n allowed : ℕ) (bytes : List ℕ) (wanted : Decision ℕ) → Example
  writes : (n mask room : ℕ) (answer : Decision ℕ) (wanted : List ℕ) → Example
  prints : (bytes wanted : List ℕ) → Example
  formed : (n : ℕ) (words : List ℕ) (wanted : Bool) → Example

abbrev pub agree : Bool → Bool → Bool
agree true b = b
agree false true = false
agree false false = true

abbrev pub right : Example → Bool
right (run m calls wanted) = same_answers (answers m (start m) calls) wanted
right (near_to m x wanted) = same (near (node_count m) m.distances (2 ^ 64 - 1) x) wanted
right (reads n allowed bytes wanted) = same (in_numbers (read_text n allowed bytes)) (in_numbers wanted)
right (writes n mask room answer wanted) =
    same (in_numbers (write_text n mask (replicate room 7)).answer) (in_numbers answer) && same (write_text n mask (replicate room 7)).output wanted
right (prints bytes wanted) = same (journal bytes) wanted
right (formed n words wanted) = agree (well_formed n (decode words)) wanted

-- two nodes of two pages at distance 10 from each other, one CPU on each
abbrev pub twins : Machine
twins = record { page_counts = 2 ∷ 2 ∷ []; cpu_nodes = 0 ∷ 1 ∷ []; distances = replicate 4 10 }

-- two nodes that do not reach each other
abbrev pub apart : Machine
apart = record { page_counts = 1 ∷ 1 ∷ []; cpu_nodes = 0 ∷ 1 ∷ []; distances = 10 ∷ 255 ∷ 255 ∷ 10 ∷ [] }

-- 64 nodes of one page
abbrev pub machine64 : Machine
machine64 = record {
  page_counts = replicate 64 1;
  cpu_nodes = 0 ∷ [];
  distances = map (λ k. cond (eqb (k / 64) (k % 64)) 10 (20 + k % 64)) (from 0 4096);
}

-- a request from CPU 0
abbrev pub ask : Call
ask = request 0 0

-- the text of k + 1 zeros
abbrev pub zeros : ℕ → List ℕ
zeros zero = text "0"
zeros (suc k) = text "0," ++ zeros k

-- "`!4-5` with N 8: 0-3,6-7; `+0-3` with 2-5 allowed: 2-5; `5-3`, `1,`, `!all`, `01`: 12"
abbrev pub texts : List Example
texts =
    reads 8 255 (text "!4-5") (accept 207)
    ∷ writes 8 207 10 (accept 7) (text "0-3,6-7" ++ replicate 3 7)
    ∷ reads 8 60 (text "+0-3") (accept 60)
    ∷ reads 8 255 (text "5-3") (refuse 12)
    ∷ reads 8 255 (text "1,") (refuse 12)
    ∷ reads 8 255 (text "!all") (refuse 12)
    ∷ reads 8 255 (text "01") (refuse 12)
    -- the empty text, `all`, and `0`; a sign alone, two commas, a blank, no number after the dash; repeated and falling items
    ∷ reads 8 60 [] (accept 0)
    ∷ reads 8 60 (text "all") (accept 60)
    ∷ reads 8 60 (text "0") (accept 1)
    ∷ reads 8 60 (text "!") (refuse 12)
    ∷ reads 8 60 (text "+") (refuse 12)
    ∷ reads 8 60 (text "1,,2") (refuse 12)
    ∷ reads 8 60 (text " 1") (refuse 12)
    ∷ reads 8 60 (text "1-") (refuse 12)
    ∷ reads 8 60 (text "1-2-3") (refuse 12)
    ∷ reads 8 60 (text "5,3-3,4-5") (accept 56)
    ∷ reads 8 60 (text "!0-7") (accept 0)
    -- a number at N, a rank at the size of the allowed set, N and the allowed set out of range
    ∷ reads 64 1 (text "63") (accept (2 ^ 63))
    ∷ reads 64 1 (text "64") (refuse 12)
    ∷ reads 8 60 (text "+4") (refuse 12)
    ∷ reads 0 0 (text "1") (refuse 1)
    ∷ reads 65 0 (text "1") (refuse 1)
    ∷ reads 8 256 (text "x") (refuse 6)
    -- 255 bytes are read, 256 are not
    ∷ reads 8 0 (zeros 127) (accept 1)
    ∷ reads 8 0 (text "!" ++ zeros 127) (refuse 12)
    -- two neighbours; the empty set; room for all but one byte; a bit at N
    ∷ writes 8 48 3 (accept 3) (text "4-5")
    ∷ writes 8 0 2 (accept 0) (7 ∷ 7 ∷ [])
    ∷ writes 8 207 6 (refuse 11) (replicate 6 7)
    ∷ writes 8 256 9 (refuse 6) (replicate 9 7)
    ∷ writes 64 (2 ^ 63 + 2 ^ 62 + 1) 7 (accept 7) (text "0,62-63")
    ∷ []

-- "16 places accepted, 17 refused 6; node 63 accepted with N 64", and the rules that the examples marked T leave open
abbrev pub runs : List Example
runs =
    run machine_a (set_up 5 0 0 (replicate 16 3) ++ (installs 0 5 0 0 (replicate 17 3) ∷ [])) (done ∷ done ∷ refused 6 ∷ [])
    ∷ run machine64 (rebind 0 (2 ^ 64 - 1) ∷ installs 0 2 0 (2 ^ 63) [] ∷ ask ∷ []) (done ∷ done ∷ granted 63 63 ∷ [])
    -- the turn of a place is not lost by a refused request
    ∷ run machine_a
    (set_up 5 0 0 (0 ∷ 1 ∷ []) ++ (ask ∷ ask ∷ ask ∷ ask ∷ ask ∷ release 0 0 ∷ release 0 2 ∷ ask ∷ []))
    (done ∷ done ∷ page 0 ∷ page 2 ∷ page 1 ∷ page 3 ∷ refused 8 ∷ released 0 0 ∷ released 1 2 ∷ page 0 ∷ [])
    -- interleave stores the target, not the node that served, and starts again at the lowest
    ∷ run machine_a (set_up 3 0 (nodes (0 ∷ 2 ∷ [])) [] ++ (ask ∷ ask ∷ ask ∷ ask ∷ [])) (done ∷ done ∷ page 0 ∷ page 1 ∷ page 2 ∷ page 4 ∷ [])
    ∷ run machine_a (set_up 3 0 (nodes (0 ∷ 1 ∷ [])) [] ++ (ask ∷ ask ∷ ask ∷ ask ∷ [])) (done ∷ done ∷ page 0 ∷ page 2 ∷ page 1 ∷ page 3 ∷ [])
    -- near(x) has x first, though a lower number lies at distance 10 too
    ∷ near_to twins 1 (1 ∷ 0 ∷ [])
    ∷ run twins (rebind 0 3 ∷ request 0 1 ∷ []) (done ∷ granted 1 2 ∷ [])
    -- near(x) leaves out what is not reachable, and goes by row x where x is not allowed
    ∷ near_to apart 0 (0 ∷ [])
    ∷ run apart (rebind 0 2 ∷ ask ∷ []) (done ∷ refused 8 ∷ [])
    ∷ run machine_a (rebind 0 14 ∷ ask ∷ []) (done ∷ page 2 ∷ [])
    -- M-101: "after pages 0,1,2 and release of page 0, two requests now give page 0 and then page 3"
    ∷ run machine_a
    (set_up 6 0 0 (0 ∷ 1 ∷ 3 ∷ []) ++ (ask ∷ ask ∷ ask ∷ release 0 0 ∷ ask ∷ ask ∷ []))
    (done ∷ done ∷ page 0 ∷ page 1 ∷ page 2 ∷ released 0 0 ∷ page 0 ∷ page 3 ∷ [])
    -- bind goes by the CPU's node, preferred by the lowest effective node, or by the CPU's node with an empty mask
    ∷ run machine_a (set_up 2 0 15 [] ++ (request 0 6 ∷ [])) (done ∷ done ∷ page 4 ∷ [])
    ∷ run machine_a (set_up 1 0 (nodes (1 ∷ 3 ∷ [])) [] ++ (request 0 6 ∷ [])) (done ∷ done ∷ page 2 ∷ [])
    ∷ run machine_a (set_up 1 0 0 [] ++ (request 0 6 ∷ [])) (done ∷ done ∷ page 4 ∷ [])
    -- a bind set out of reach is refused 8 with room in it
    ∷ run apart (rebind 0 3 ∷ installs 0 2 0 2 [] ∷ ask ∷ []) (done ∷ done ∷ refused 8 ∷ [])
    -- static with an empty effective set goes by the CPU's node over all allowed nodes
    ∷ run machine_a (set_up 2 1 (nodes (0 ∷ [])) [] ++ (rebind 0 14 ∷ request 0 6 ∷ [])) (done ∷ done ∷ done ∷ page 4 ∷ [])
    -- a rebind keeps the cursor
    ∷ run machine_a (set_up 3 0 (nodes (1 ∷ 2 ∷ 3 ∷ [])) [] ++ (ask ∷ rebind 0 15 ∷ ask ∷ [])) (done ∷ done ∷ page 2 ∷ done ∷ page 0 ∷ [])
    -- a released page is free, and its byte is another's no longer; held pages stay held over a clear
    ∷ run machine_a (rebind 0 15 ∷ ask ∷ release 0 0 ∷ release 0 0 ∷ ask ∷ []) (done ∷ page 0 ∷ released 0 0 ∷ refused 10 ∷ page 0 ∷ [])
    ∷ run machine_a (rebind 0 15 ∷ ask ∷ clear 0 ∷ rebind 0 15 ∷ ask ∷ release 0 0 ∷ []) (done ∷ page 0 ∷ done ∷ done ∷ page 1 ∷ released 0 0 ∷ [])
    -- a place that is not allowed is passed over; one at N or above is past the end of the map 0 to N-1 (M-103)
    ∷ run machine_a (rebind 0 7 ∷ installs 0 5 0 0 (3 ∷ 1 ∷ []) ∷ ask ∷ ask ∷ ask ∷ []) (done ∷ done ∷ page 2 ∷ page 3 ∷ refused 8 ∷ [])
    ∷ run machine_a (rebind 0 7 ∷ installs 0 5 0 0 (4 ∷ 1 ∷ []) ∷ installs 0 5 0 0 (255 ∷ 3 ∷ 1 ∷ []) ∷ []) (done ∷ refused 6 ∷ refused 6 ∷ [])
    ∷ []

-- "Refusal numbers": the order of the refusals, call by call
abbrev pub refusals : List Example
refusals =
    -- a fresh job: 8 at a request, 7 at an install, 5 before 7, 7 before 6
    run machine_a (ask ∷ installs 0 0 0 0 [] ∷ installs 0 7 0 0 [] ∷ installs 0 0 3 0 [] ∷ installs 0 2 0 0 [] ∷ [])
    (refused 8 ∷ refused 7 ∷ refused 5 ∷ refused 5 ∷ refused 7 ∷ [])
    -- 2 and 3; 10; 6 before 7 at a rebind
    ∷ run machine_a
    (request 1 8 ∷ request 0 8 ∷ release 1 0 ∷ release 0 0 ∷ release 0 6 ∷ rebind 1 0 ∷ rebind 0 16 ∷ rebind 0 0 ∷ clear 1 ∷ clear 0 ∷ [])
    (refused 2 ∷ refused 3 ∷ refused 2 ∷ refused 10 ∷ refused 10 ∷ refused 2 ∷ refused 6 ∷ refused 7 ∷ refused 2 ∷ done ∷ [])
    -- 5: a flag with default, with a list, with preferred and an empty mask
    ∷ run machine_a
    (rebind 0 15 ∷ installs 0 0 1 0 [] ∷ installs 0 5 2 0 (1 ∷ []) ∷ installs 0 1 1 0 [] ∷ installs 0 1 0 0 [] ∷ [])
    (done ∷ refused 5 ∷ refused 5 ∷ refused 5 ∷ done ∷ [])
    -- 6: an empty mask, a mask with default or a list, a bit at N, a mask that misses the allowed set, places with a mask, no places
    ∷ run machine_a
    (rebind 0 3 ∷ installs 0 2 1 0 [] ∷ installs 0 0 0 1 [] ∷ installs 0 4 0 1 (1 ∷ []) ∷ installs 0 3 0 16 [] ∷ installs 0 3 1 12 []
    ∷ installs 0 3 2 (2 ^ 63) [] ∷ installs 0 2 0 1 (1 ∷ []) ∷ installs 0 6 0 0 [] ∷ [])
    (done ∷ refused 6 ∷ refused 6 ∷ refused 6 ∷ refused 6 ∷ refused 6 ∷ done ∷ refused 6 ∷ refused 6 ∷ [])
    -- 1: no nodes; a page count and a sum too large; a distance table too short; a CPU on no node
    ∷ run (record { page_counts = []; cpu_nodes = 0 ∷ []; distances = [] }) (ask ∷ release 0 0 ∷ clear 0 ∷ []) (refused 1 ∷ refused 1 ∷ refused 1 ∷ [])
    ∷ run (record { page_counts = 1 ∷ []; cpu_nodes = 1 ∷ []; distances = 10 ∷ [] }) (ask ∷ release 0 0 ∷ clear 0 ∷ []) (refused 1 ∷ refused 10 ∷ done ∷ [])
    ∷ run (record { page_counts = 1 ∷ []; cpu_nodes = 0 ∷ []; distances = 11 ∷ [] }) (ask ∷ []) (refused 1 ∷ [])
    ∷ run (record { page_counts = 1 ∷ 1 ∷ []; cpu_nodes = 0 ∷ []; distances = 10 ∷ 20 ∷ 20 ∷ [] }) (ask ∷ []) (refused 1 ∷ [])
    ∷ []

-- "A record is well formed if": a fresh one; ring over place 0 with its cursor; then one thing wrong in each
abbrev pub records : List Example
records =
    formed 4 (replicate 6 0) true
    ∷ formed 4 ((5 + 2 ^ 16 + 2 ^ 24) ∷ 0 ∷ 15 ∷ 0 ∷ 3 ∷ 0 ∷ []) true
    ∷ formed 4 ((5 + 2 ^ 16 + 2 * 2 ^ 24) ∷ 0 ∷ 15 ∷ 0 ∷ 3 ∷ 0 ∷ []) false
    ∷ formed 4 ((5 + 2 ^ 16 + 2 ^ 32) ∷ 0 ∷ 15 ∷ 0 ∷ 3 ∷ 0 ∷ []) false
    ∷ formed 4 ((5 + 2 ^ 16) ∷ 0 ∷ 15 ∷ 0 ∷ 259 ∷ 0 ∷ []) false
    ∷ formed 4 ((5 + 17 * 2 ^ 16) ∷ 0 ∷ 15 ∷ 0 ∷ 3 ∷ 0 ∷ []) false
    ∷ formed 4 ((5 + 2 ^ 16) ∷ 0 ∷ 31 ∷ 0 ∷ 3 ∷ 0 ∷ []) false
    ∷ formed 4 ((5 + 2 ^ 16) ∷ 0 ∷ 0 ∷ 0 ∷ 3 ∷ 0 ∷ []) false
    ∷ formed 4 ((5 + 2 ^ 16) ∷ 1 ∷ 15 ∷ 0 ∷ 3 ∷ 0 ∷ []) false
    ∷ formed 4 ((7) ∷ 0 ∷ 15 ∷ 0 ∷ 0 ∷ 0 ∷ []) false
    -- interleave: plain needs an effective set, static its own, relative the folded one; preferred may be empty, bind may not
    ∷ formed 4 ((3) ∷ 3 ∷ 15 ∷ 12 ∷ 0 ∷ 0 ∷ []) true
    ∷ formed 4 ((3) ∷ 3 ∷ 15 ∷ 0 ∷ 0 ∷ 0 ∷ []) false
    ∷ formed 4 ((3) ∷ 3 ∷ 3 ∷ 12 ∷ 0 ∷ 0 ∷ []) false
    ∷ formed 4 ((3 + 2 ^ 8) ∷ 3 ∷ 12 ∷ 0 ∷ 0 ∷ 0 ∷ []) true
    ∷ formed 4 ((3 + 2 ^ 8) ∷ 3 ∷ 12 ∷ 4 ∷ 0 ∷ 0 ∷ []) false
    ∷ formed 4 ((3 + 2 * 2 ^ 8) ∷ 2 ^ 63 ∷ 12 ∷ 8 ∷ 0 ∷ 0 ∷ []) true
    ∷ formed 4 ((3 + 2 * 2 ^ 8) ∷ 2 ^ 63 ∷ 12 ∷ 4 ∷ 0 ∷ 0 ∷ []) false
    ∷ formed 4 ((1) ∷ 0 ∷ 15 ∷ 0 ∷ 0 ∷ 0 ∷ []) true
    ∷ formed 4 ((2) ∷ 0 ∷ 15 ∷ 0 ∷ 0 ∷ 0 ∷ []) false
    ∷ []

-- machine A as a machine record, and a 32-byte record of some first bytes
abbrev pub record_a : List ℕ
record_a =
    0x4E ∷ 0x50 ∷ 0 ∷ 4 ∷ 8 ∷ 0 ∷ 2 ∷ 0 ∷ 2 ∷ 0 ∷ 0 ∷ 0 ∷ 2 ∷ 0 ∷ (machine_a.cpu_nodes ++ machine_a.distances)

abbrev pub fault : ℕ → List ℕ
fault r = 0x4E ∷ 0x41 ∷ 0xFF ∷ r ∷ 0xFF ∷ 0 ∷ 0 ∷ 0 ∷ 0xFF ∷ 0xFF ∷ 0xFF ∷ 0xFF ∷ []

-- "Journal on A: rebind job 0 to 0F, then request from CPU 0"
abbrev pub rebind_a : List ℕ
rebind_a = 0x4E ∷ 0x50 ∷ 3 ∷ 0 ∷ 0 ∷ 0 ∷ 0 ∷ 0 ∷ 0x0F ∷ replicate 23 0

abbrev pub request_a : List ℕ
request_a = 0x4E ∷ 0x50 ∷ 1 ∷ replicate 29 0

abbrev pub answers_a : List ℕ
answers_a =
    0x4E ∷ 0x41 ∷ 0x03 ∷ 0x00 ∷ 0xFF ∷ 0x00 ∷ 0x00 ∷ 0x00 ∷ 0xFF ∷ 0xFF ∷ 0xFF ∷ 0xFF
    ∷ 0x4E ∷ 0x41 ∷ 0x01 ∷ 0x00 ∷ 0x00 ∷ 0x00 ∷ 0x00 ∷ 0x00 ∷ 0x00 ∷ 0x00 ∷ 0x00 ∷ 0x00 ∷ []

-- the answer to the rebind alone
abbrev pub rebind_answer : List ℕ
rebind_answer = take 12 answers_a

abbrev pub journals : List Example
journals =
    prints (record_a ++ rebind_a ++ request_a) answers_a
    -- nothing; a machine record alone; a head with a bad mark, N 17, five bytes, a short machine record, a distance 9
    ∷ prints [] (fault 13)
    ∷ prints record_a []
    ∷ prints (0x4E ∷ 0x51 ∷ 0 ∷ 17 ∷ 1 ∷ 0 ∷ []) (fault 13)
    ∷ prints (0x4E ∷ 0x50 ∷ 0 ∷ 17 ∷ 1 ∷ 0 ∷ []) (fault 1)
    ∷ prints (0x4E ∷ 0x50 ∷ 0 ∷ 17 ∷ 1 ∷ []) (fault 13)
    ∷ prints (0x4E ∷ 0x50 ∷ 0 ∷ 1 ∷ 1 ∷ 0 ∷ 1 ∷ 0 ∷ 0 ∷ []) (fault 13)
    ∷ prints (0x4E ∷ 0x50 ∷ 0 ∷ 1 ∷ 1 ∷ 0 ∷ 1 ∷ 0 ∷ 0 ∷ 9 ∷ []) (fault 1)
    -- a short record, an unused byte, kind 6; the answers before it stand, and nothing after it is read
    ∷ prints (record_a ++ rebind_a ++ (0x4E ∷ [])) (rebind_answer ++ fault 13)
    ∷ prints (record_a ++ rebind_a ++ (0x4E ∷ 0x50 ∷ 1 ∷ 0 ∷ 0 ∷ 1 ∷ replicate 26 0) ++ request_a) (rebind_answer ++ fault 13)
    ∷ prints (record_a ++ (0x4E ∷ 0x50 ∷ 6 ∷ replicate 29 0)) (fault 13)
    -- an install with 17 places is the call's refusal 6; its list length makes its place bytes used
    ∷ prints (record_a ++ rebind_a ++ (0x4E ∷ 0x50 ∷ 4 ∷ 0 ∷ 0 ∷ 5 ∷ 0 ∷ 17 ∷ (replicate 8 0 ++ replicate 16 3)))
    (rebind_answer ++ (0x4E ∷ 0x41 ∷ 4 ∷ 6 ∷ drop 4 (fault 6)))
    ∷ prints (record_a ++ (0x4E ∷ 0x50 ∷ 4 ∷ 0 ∷ 0 ∷ 5 ∷ 0 ∷ 1 ∷ (replicate 8 0 ++ (3 ∷ 3 ∷ replicate 14 0)))) (fault 13)
    ∷ []

pub all_right : T (all right (texts ++ runs ++ refusals ++ records ++ journals))
unfolding open_basics open_machine open_masks open_records open_maps open_search_order open_decisions open_calls open_book open_text open_journal
all_right = tt
