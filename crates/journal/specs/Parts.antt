-- A run in parts: what the whole records at the start of some bytes come to, as far as there is room for answers (document 01, "The
-- journal program").
use Rattle.std.specs.Prelude.{ℕ, zero, suc, ◌+◌, ◌/◌, Bool, true, false, not, ◌&&◌, ◌||◌, cond, List, [], ◌++◌, length, drop, leb}
use Rattle.rules.specs.Basics.{is_nil}
use Rattle.rules.specs.Machine.{Machine}
use Rattle.rules.specs.Decisions.{decided}
use Rattle.rules.specs.Calls.{Tables, numbers}
use Rattle.rules.specs.Book.{step}
use Rattle.rules.specs.Journal.{Entry, byte_at, answer_bytes, faulty, kind_of, size_of, read_record, run_from}

-- "Answers are 12 bytes"
abbrev pub answer_size : ℕ
answer_size = 12

-- the answers to all records of some bytes: as many records at most as there are bytes
abbrev pub run_of : Machine → Tables → List ℕ → List ℕ
run_of m t bs = run_from (length bs) m t bs

-- the record that the bytes start with is there to its end
unfoldable pub is_whole : List ℕ → Bool
is_whole bs = leb (size_of (kind_of (byte_at bs 2))) (length bs)

-- What a part of a run comes to: the bytes of the records that it did, its answers, whether the run goes on, and the tables it leaves.
pub record Ran : Type 0 where
  pub read : ℕ
  pub answers : List ℕ
  pub more : Bool
  pub tables : Tables

abbrev pub ran : ℕ → List ℕ → Bool → Tables → Ran
ran read answers more tables = record { read = read; answers = answers; more = more; tables = tables }

-- the answer to a record
abbrev pub answer_to : Machine → Tables → Entry → List ℕ
answer_to m t e = answer_bytes e.kind (numbers (step m t e.call).answer)

-- one record: its call is performed; "A bad mark, kind, unused byte or short record .. answers kind FF, refusal 13, .. and ends"
unfoldable pub one_record : Machine → Tables → List ℕ → Ran
one_record m t bs =
    decided
    (λ r. ran 0 (faulty r) false t)
    (λ e. ran e.size (answer_to m t e) true (step m t e.call).tables)
    (read_record bs)

-- a part, and the part after it
abbrev pub after : Ran → Ran → Ran
after p q = ran (p.read + q.read) (p.answers ++ q.answers) q.more q.tables

-- a record can be done: it is whole, or the input has ended and it is a short one
abbrev pub is_ready : Bool → List ℕ → Bool
is_ready ended bs = is_whole bs || (ended && not (is_nil bs))

-- the records that the bytes start with, one after the other, up to one that cannot be done yet. The second argument is how many answers
-- there is room for.
unfoldable pub part_from : Bool → ℕ → Machine → Tables → List ℕ → Ran
part_from ended zero m t bs = ran 0 [] true t
part_from ended (suc room) m t bs =
    let one = one_record m t bs in
    let more = after one (part_from ended room m one.tables (drop one.read bs)) in
    cond (is_ready ended bs) (cond one.more more one) (ran 0 [] true t)

-- What a part does to an output too: how many bytes it wrote, and the output afterwards.
pub record Passed : Type 0 where
  pub read : ℕ
  pub written : ℕ
  pub more : Bool
  pub tables : Tables
  pub output : List ℕ

-- a part with its answers put at the start of an output; no byte past them changes
unfoldable pub put_into : List ℕ → Ran → Passed
put_into out p = record {
  read = p.read;
  written = length p.answers;
  more = p.more;
  tables = p.tables;
  output = p.answers ++ drop (length p.answers) out;
}

-- a part of a run, with as many answers as the output has room for
unfoldable pub on_part : Machine → Tables → List ℕ → Bool → List ℕ → Passed
on_part m t input ended out = put_into out (part_from ended (length out / answer_size) m t input)
