-- Request M-104, "Programs that name their memory": the .memtypes note, read and written, the table of the nodes' names, and a note's list
-- turned into places.
use Rattle.std.specs.Prelude.{ℕ, zero, suc, ◌+◌, Bool, true, false, not, ◌&&◌, ◌||◌, cond, List, [], ◌∷◌, ◌++◌, map, length, get_or, take, leb, ltb, eqb}
use Rattle.rules.specs.Basics.{all, any, is_nil, between, same}
use Rattle.rules.specs.Records.{closing_place, bytes_of}
use Rattle.rules.specs.Maps.{map_bytes, nodes_in, is_in, good_map, application_node}
use Rattle.rules.specs.Decisions.{Decision, accept, unless, decided, Written, not_written, written}
use Rattle.rules.specs.Calls.{is_job, mapped_tables_ok}
use Rattle.rules.specs.Journal.{part, number}

-- ---- names and lists of names

-- a byte in front of the first string
unfoldable pub in_front : ℕ → List (List ℕ) → List (List ℕ)
in_front x [] = []
in_front x (w ∷ ws) = (x ∷ w) ∷ ws

-- "Each string ends in a zero byte": the strings of some bytes, each without its zero; bytes after the last zero make no string
unfoldable pub strings : List ℕ → List (List ℕ)
strings [] = []
strings (zero ∷ xs) = [] ∷ strings xs
strings (suc x ∷ xs) = in_front (suc x) (strings xs)

-- "counted in its size": the bytes that strings take, each with its zero
unfoldable pub size_of : List (List ℕ) → ℕ
size_of [] = 0
size_of (w ∷ ws) = suc (length w) + size_of ws

-- the words `text`, `data`, `any` and `ANY`
abbrev pub text_word : List ℕ
text_word = 116 ∷ 101 ∷ 120 ∷ 116 ∷ []

abbrev pub data_word : List ℕ
data_word = 100 ∷ 97 ∷ 116 ∷ 97 ∷ []

abbrev pub any_word : List ℕ
any_word = 97 ∷ 110 ∷ 121 ∷ []

abbrev pub closing_word : List ℕ
closing_word = 65 ∷ 78 ∷ 89 ∷ []

-- "Names are 1 to 15 bytes and may not be text, data or any; ANY is allowed only as the last of a list"
unfoldable pub name_ok : List ℕ → Bool → Bool
name_ok w last =
    between 1 15 (length w) && not (same w text_word) && not (same w data_word) && not (same w any_word) && (last || not (same w closing_word))

unfoldable pub names_ok : List (List ℕ) → Bool
names_ok [] = true
names_ok (w ∷ ws) = name_ok w (is_nil ws) && names_ok ws

-- "A list of over 16 names, ANY counted, is bad"
abbrev pub most_names : ℕ
most_names = 16

-- a list, "laid out like the table", is good: its strings fill it, they are at most 16, and each is a name
unfoldable pub list_ok : List ℕ → Bool
list_ok list = eqb (size_of (strings list)) (length list) && leb (length (strings list)) most_names && names_ok (strings list)

-- ---- the note

-- "little-endian 32-bit number of text strings, their total size, number of data strings, their total size"
abbrev pub text_count : List ℕ → ℕ
text_count note = number 0 4 note

abbrev pub text_size : List ℕ → ℕ
text_size note = number 4 4 note

abbrev pub data_count : List ℕ → ℕ
data_count note = number 8 4 note

abbrev pub data_size : List ℕ → ℕ
data_size note = number 12 4 note

-- the bytes of "the four counts"
abbrev pub head_size : ℕ
head_size = 16

-- "then the strings, text first"
abbrev pub text_part : List ℕ → List ℕ
text_part note = part head_size (text_size note) note

abbrev pub data_part : List ℕ → List ℕ
data_part note = part (head_size + text_size note) (data_size note) note

-- "counts and sizes must fit exactly"; "A list of over 16 names .. is bad and so is its note"
unfoldable pub note_ok : List ℕ → Bool
note_ok note =
    leb head_size (length note) && eqb (length note) (head_size + text_size note + data_size note)
    && (list_ok (text_part note) && eqb (length (strings (text_part note))) (text_count note))
    && (list_ok (data_part note) && eqb (length (strings (data_part note))) (data_count note))

-- "text before data": the names of a note
unfoldable pub all_names : List ℕ → List (List ℕ)
all_names note = strings (text_part note) ++ strings (data_part note)

-- the note is good and has a k-th name
unfoldable pub has_name : List ℕ → ℕ → Bool
has_name note k = note_ok note && ltb k (length (all_names note))

-- A part of some bytes: where it starts, and how many bytes it has.
pub record Part : Type 0 where
  pub start : ℕ
  pub len : ℕ

abbrev pub part_at : ℕ → ℕ → Part
part_at start len = record { start = start; len = len }

-- the bytes of a part
abbrev pub in_part : List ℕ → Part → List ℕ
in_part note p = part p.start p.len note

-- "The k-th name, k from 0 and text before data, is handed back as that part of the caller's own bytes, without its zero; an empty part if
-- the note is bad or has no such name": it stands behind the four numbers and the names before it, each with its zero
unfoldable pub name_part : List ℕ → ℕ → Part
name_part note k =
    cond (has_name note k) (part_at (head_size + size_of (take k (all_names note))) (length (get_or (all_names note) k []))) (part_at 0 0)

-- ---- the table of names, and places

-- "A table of N such names with their zeros, end to end, no ANY, else 1"
unfoldable pub table_ok : ℕ → List ℕ → Bool
table_ok n table = eqb (size_of (strings table)) (length table) && eqb (length (strings table)) n && all (λ w. name_ok w false) (strings table)

-- "the first match counting": its number from 0, the node's; else how many names there are
unfoldable pub first_match : List ℕ → List (List ℕ) → ℕ
first_match w [] = 0
first_match w (v ∷ vs) = cond (same w v) 0 (suc (first_match w vs))

-- "a first match outside the map counting as an unknown name": ANY and the names of nodes of the map are known
unfoldable pub is_known : List (List ℕ) → List ℕ → List ℕ → Bool
is_known names nodes w = same w closing_word || (any (same w) names && is_in nodes (first_match w names))

-- "ANY becoming 255"; "a place is the node's application number"
unfoldable pub place_of : List (List ℕ) → List ℕ → List ℕ → ℕ
place_of names nodes w = cond (same w closing_word) closing_place (application_node nodes (first_match w names))

-- "An empty list or an unknown name drops that whole list to default": a list that drops has no places
unfoldable pub places_in : List (List ℕ) → List ℕ → List (List ℕ) → List ℕ
places_in names nodes ws = cond (all (is_known names nodes) ws) (map (place_of names nodes) ws) []

-- "a note's list": 0 is the text list, any other number the data list
unfoldable pub list_part : List ℕ → ℕ → List ℕ
list_part note which = cond (eqb which 0) (text_part note) (data_part note)

-- "A table of N such names .. turns a note's list into places after tests 1, 2, 15, 16"
unfoldable pub places_decision : ℕ → List ℕ → List ℕ → List ℕ → List ℕ → ℕ → ℕ → Decision (List ℕ)
places_decision n records maps table note j which =
    unless (mapped_tables_ok n (length records) (length maps) && table_ok n table) 1
    (unless (is_job records j) 2
    (unless (good_map n (map_bytes maps j)) 15
    (unless (note_ok note) 16
    (accept (places_in (strings table) (nodes_in (map_bytes maps j)) (strings (list_part note which)))))))

-- "a bad note or list is 16, then a short output 11. Here and later no output changes past what is written"
unfoldable pub note_places : ℕ → List ℕ → List ℕ → List ℕ → List ℕ → ℕ → ℕ → List ℕ → Written
note_places n records maps table note j which out = decided (not_written out) (written out) (places_decision n records maps table note j which)

-- ---- the note written

-- the four numbers of a note
unfoldable pub head_of : ℕ → ℕ → ℕ → ℕ → List ℕ
head_of a b c d = bytes_of 4 a ++ (bytes_of 4 b ++ (bytes_of 4 c ++ bytes_of 4 d))

-- "Write the note too, from a text and a data list each laid out like the table"
unfoldable pub note_of : List ℕ → List ℕ → List ℕ
note_of ts ds = head_of (length (strings ts)) (length ts) (length (strings ds)) (length ds) ++ (ts ++ ds)

-- "a bad note or list is 16"
unfoldable pub note_decision : List ℕ → List ℕ → Decision (List ℕ)
note_decision ts ds = unless (list_ok ts && list_ok ds) 16 (accept (note_of ts ds))

-- "then a short output 11. Here and later no output changes past what is written"
unfoldable pub write_note : List ℕ → List ℕ → List ℕ → Written
write_note ts ds out = decided (not_written out) (written out) (note_decision ts ds)

-- for a proof that computes: `unfolding open_notes` opens every definition of this file
unfoldable pub open_notes : Unit {0}
unfolding in_front strings size_of name_ok names_ok list_ok note_ok all_names has_name name_part table_ok first_match is_known place_of places_in list_part
    places_decision note_places head_of note_of note_decision write_note
open_notes = tt
