-- The records of a journal as the book's list of calls (document 01, "The journal program" and "The lists of demand 3").
use Rattle.std.specs.Prelude.{ℕ, zero, suc, Bool, not, ◌&&◌, cond, List, [], ◌∷◌, ◌++◌, map, length, take, drop, ltb}
use Rattle.rules.specs.Basics.{sum}
use Rattle.rules.specs.Machine.{Machine}
use Rattle.rules.specs.Decisions.{decided}
use Rattle.rules.specs.Calls.{Answer, Tables, numbers}
use Rattle.rules.specs.Book.{Call, answers, final}
use Rattle.rules.specs.FreeCounts.{answers_uncounted}
use Rattle.rules.specs.Journal.{Entry, answer_bytes, faulty, read_record}
use Rattle.journal.specs.Parts.{is_ready, Ran, ran}

-- the records up to the end of input or the first damaged one; the first argument bounds their number, as in `run_from`
unfoldable pub records_from : ℕ → List ℕ → List Entry
records_from zero bs = []
records_from (suc more) bs = decided (λ r. []) (λ e. e ∷ records_from more (drop e.size bs)) (read_record bs)

-- the good records that the bytes start with
abbrev pub records_in : List ℕ → List Entry
records_in bs = records_from (length bs) bs

-- the bytes past some records
abbrev pub past : List ℕ → List Entry → List ℕ
past bs es = drop (sum (map (λ e. e.size) es)) bs

-- "one book for all jobs, fed with the calls alone": the calls of some records
abbrev pub calls : List Entry → List Call
calls es = map (λ e. e.call) es

-- "Answers are 12 bytes: mark 4E 41, kind, refusal, ..": each record's kind and answer, record by record
unfoldable pub answer_lines : List Entry → List Answer → List ℕ
answer_lines [] given = []
answer_lines (e ∷ es) [] = []
answer_lines (e ∷ es) (a ∷ given) = answer_bytes e.kind (numbers a) ++ answer_lines es given

-- the answers to some records, by a law that answers lists of calls
abbrev pub lines_by : (List Call → List Answer) → List Entry → List ℕ
lines_by law es = answer_lines es (law (calls es))

-- the book's answers to some records
abbrev pub book_lines : Machine → Tables → List Entry → List ℕ
book_lines m t es = lines_by (answers m t) es

-- "The end of input after a whole record ends the run without an answer"; "A bad mark, kind, unused byte or short record .. answers kind
-- FF, refusal 13, .. and ends"
abbrev pub ending : List ℕ → List ℕ
ending [] = []
ending (b ∷ bs) = faulty 13

-- the answers to the calls of the records by a law, and then what ends the run
abbrev pub run_by : (List Call → List Answer) → List ℕ → List ℕ
run_by law bs = lines_by law (records_in bs) ++ ending (past bs (records_in bs))

-- by the book
abbrev pub book_run : Machine → Tables → List ℕ → List ℕ
book_run m t bs = run_by (answers m t) bs

-- by the law without counts
abbrev pub uncounted_run : Machine → Tables → List ℕ → List ℕ
uncounted_run m t bs = run_by (answers_uncounted m t) bs

-- there is room for one answer more than there are good records, and one stands past them: it is damaged
abbrev pub meets_damage : Bool → ℕ → List ℕ → List Entry → Bool
meets_damage ended room bs es = ltb (length es) room && is_ready ended (past bs es)

-- the book's part: as many of the records as there is room for answers, and damage that it meets
abbrev pub book_part : Bool → ℕ → Machine → Tables → List ℕ → List Entry → Ran
book_part ended room m t bs es =
    let ds = take room es in
    let damage = meets_damage ended room bs es in
    ran (sum (map (λ e. e.size) ds)) (book_lines m t ds ++ cond damage (faulty 13) []) (not damage) (final m t (calls ds))
