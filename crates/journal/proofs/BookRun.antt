-- What a journal's run does to the tables and answers is the book's run of its calls.
-- Assumes nothing.
use Prim.Native.Nat.{ℕ, zero, suc, ◌+◌, ◌-◌, ◌*◌, ◌/◌, ◌≤◌, ◌<◌}
use mathlib.Core.Path.{◌≡◌, refl, sym, ap, ◌∙◌}
use mathlib.Core.Bool.{Bool, true, false, cond}
use mathlib.Core.List.{List, [], ◌∷◌, ◌++◌, map, append_assoc, append-nil}
use native.Mathlib.Omega.{arith}
use borrow.Author.Tests.{ltb-true, lt-ltb, le-ltb}
use lib.Dec.{ltb}
use lib.ListN.{length, take, drop, length-append, length-drop, drop_of_length-le}
use lib.Seq.{drop-drop}
use Rattle.rules.specs.Basics.{sum}
use Rattle.rules.specs.Machine.{Machine}
use Rattle.rules.specs.Decisions.{Decision, refuse, accept, decided}
use Rattle.rules.specs.Calls.{Answer, Tables, numbers}
use Rattle.rules.specs.Book.{step, answers, final}
use Rattle.rules.specs.FreeCounts.{Matches}
use Rattle.rules.specs.Journal.{Entry, faulty, read_record, machine_in, start_of, opening, run_from, journal}
use Rattle.rules.proofs.Lists.{same_test}
use Rattle.rules.proofs.FreeCounts.{all_free}
use Rattle.rules.proofs.AsBefore.{answers_as_before}
use Rattle.journal.specs.Parts.{answer_size, run_of, is_ready, ran, answer_to, one_record, after, part_from, put_into, on_part}
use Rattle.journal.specs.BookRun.{records_from, records_in, past, calls, answer_lines, book_lines, ending, book_run, uncounted_run, meets_damage, book_part}
use Rattle.std.specs.Prelude.{Option, Some, None}
use Rattle.rules.specs.Records.{places_per_job}
use Rattle.rules.specs.Journal.{part}
use Rattle.journal.specs.declared.record.Entry.{Entry as Read}
use Rattle.journal.specs.Reads.{Reads}
use Rattle.journal.proofs.Output.{rest_lent}
use Rattle.journal.proofs.Records.{short_left, short_damaged, good_record, damage, is_good, is_damaged}
use Rattle.journal.proofs.Answers.{answer_length, fault_length, enough, run_next, run_damaged}
use Rattle.journal.proofs.Parts.{done, part_waits}

-- ---- the records

-- es are the good records that the bytes start with, one after the other; after them no good record stands
pub data Records : List ℕ → List Entry → Type 0 where
  none : {bs : List ℕ} {r : ℕ} → read_record bs ≡ refuse r → Records bs []
  more : {bs : List ℕ} {e : Entry} {es : List Entry} → read_record bs ≡ accept e → Records (drop e.size bs) es → Records bs (e ∷ es)

records_from_lem : (f : ℕ) (bs : List ℕ) → length bs ≤ f → Records bs (records_from f bs)
unfolding records_from
records_from_lem zero bs h = none (short_damaged bs (sym (short_left bs (omega arith))))
records_from_lem (suc f) bs h = go (read_record bs) refl (λ e. records_from_lem f (drop e.size bs))
  where
    go : (d : Decision Entry) → read_record bs ≡ d
        → ((e : Entry) → length (drop e.size bs) ≤ f → Records (drop e.size bs) (records_from f (drop e.size bs)))
        → Records bs (decided (λ r. []) (λ e. e ∷ records_from f (drop e.size bs)) d)
    go (refuse r) q ih = none q
    go (accept e) q ih = more q (ih e (omega (arith, length-drop e.size bs, (good_record bs q).least)))

-- "Then 32-byte records .. A bad mark, kind, unused byte or short record .. ends"
pub records_are : (bs : List ℕ) → Records bs (records_in bs)
records_are bs = records_from_lem (length bs) bs (omega arith)

-- ---- the run

at_end : (m : Machine) (t : Tables) (bs : List ℕ) {r : ℕ} → read_record bs ≡ refuse r → run_of m t bs ≡ ending bs
unfolding run_from
at_end m t [] q = refl
at_end m t (b ∷ bs) q = run_damaged m t (b ∷ bs) (omega arith) q ∙ ap faulty (damage (b ∷ bs) q)

by_book : (m : Machine) {bs : List ℕ} {es : List Entry} → Records bs es → (t : Tables) → run_of m t bs ≡ book_lines m t es ++ ending (past bs es)
unfolding answer_lines answers sum
by_book m {bs} (none q) t = at_end m t bs q
by_book m {bs} (more {e = e} {es = es} q rs) t =
    let later = book_lines m (step m t e.call).tables es in
    run_next m t bs q ∙ ap (λ (xs : List ℕ). answer_to m t e ++ xs) (by_book m rs (step m t e.call).tables)
    ∙ rw (drop-drop (sum (map (λ e. e.size) es)) e.size bs) (sym (append_assoc (answer_to m t e) later (ending (past bs (e ∷ es)))))

-- "Each call's answer or refusal number equals the book's": the bytes that the run writes are the book's answers to the calls of its records
pub run_is_book : (m : Machine) (t : Tables) (bs : List ℕ) → run_of m t bs ≡ book_run m t bs
run_is_book m t bs = by_book m (records_are bs) t

-- ---- how much it writes

lines_length : (m : Machine) (t : Tables) (es : List Entry) → length (book_lines m t es) ≡ answer_size * length es
unfolding answer_lines answers
lines_length m t [] = refl
lines_length m t (e ∷ es) =
    let t' = (step m t e.call).tables in
    rw length-append (omega (arith, answer_length e.kind (numbers (step m t e.call).answer), lines_length m t' es))

-- the records' form alone decides it: not the tables
same_size : (m : Machine) (t u : Tables) (bs : List ℕ) → length (run_of m t bs) ≡ length (run_of m u bs)
same_size m t u bs = rw (run_is_book, run_is_book, length-append, length-append, lines_length, lines_length)

next_size : (m : Machine) (t : Tables) (bs : List ℕ) {e : Entry} → read_record bs ≡ accept e
    → length (run_of m t bs) ≡ answer_size + length (run_of m t (drop e.size bs))
next_size m t bs {e} q =
    let t' = (step m t e.call).tables in
    rw (run_next m t bs q, length-append, answer_length e.kind (numbers (step m t e.call).answer))
    (ap (λ (k : ℕ). answer_size + k) (same_size m t' t (drop e.size bs)))

-- The answers to the records before byte `at` take so many bytes.
pub record Counted (input : List ℕ) (size at : ℕ) : Type 0 where
  pub within : at ≤ length input
  pub small : size + size ≤ at
  pub rest : (m : Machine) (t : Tables) → size + length (run_of m t (drop at input)) ≡ length (run_of m t input)

module _ {input : List ℕ} {size at : ℕ} (done : Counted input size at) where
  -- an answer for each good record
  pub counted_next : {e : Entry} → read_record (drop at input) ≡ accept e → Counted input (size + answer_size) (at + e.size)
  counted_next {e} q = let g = good_record (drop at input) q in record {
    within = omega (arith, g.within, length-drop at input, done.within);
    small = omega (arith, g.least, done.small);
    rest = λ m t. rw (sym (drop-drop e.size at input)) (omega (arith, next_size m t (drop at input) q, done.rest m t));
  }

  -- and one for a damaged or short one
  pub counted_last : {r : ℕ} → at < length input → read_record (drop at input) ≡ refuse r → (m : Machine) (t : Tables)
      → size + answer_size ≡ length (run_of m t input)
  counted_last {r} l q m t =
      let some : 0 < length (drop at input) = rw length-drop (omega arith) in
      omega (arith, done.rest m t, ap length (run_damaged m t (drop at input) some q), fault_length r)

  -- all are counted
  pub counted_all : length input ≤ at → (m : Machine) (t : Tables) → size ≡ length (run_of m t input)
  unfolding run_from
  counted_all l m t = omega (arith, rw (drop_of_length-le input l) at (done.rest m t))

  -- So with what the code reads of the bytes from `at` on.
  module _ {r : Option Read} (read : Reads r (part 16 places_per_job (take (length input - at) (drop at input)))
      (read_record (take (length input - at) (drop at input)))) where
    pub counted_good : {e : Read} → r ≡ Some e → Counted input (size + answer_size) (at + e.size) × (32 ≤ e.size)
    counted_good is = let good = is_good _ is (rw (rest_lent input at) at read) in (counted_next good.is, (good_record _ good.is).least)

    pub counted_damaged : r ≡ None → at < length input → (m : Machine) (t : Tables) → size + answer_size ≡ length (run_of m t input)
    counted_damaged is l = counted_last l (is_damaged _ is (rw (rest_lent input at) at read))

-- ---- a part

-- one more of both
more_room : (n room : ℕ) → ltb (suc n) (suc room) ≡ ltb n room
more_room n room =
    same_test (λ h. lt-ltb n room (omega (arith, ltb-true (suc n) (suc room) h))) (λ h. lt-ltb (suc n) (suc room) (omega (arith, ltb-true n room h)))

part_by_book : (ended : Bool) (m : Machine) {bs : List ℕ} {es : List Entry} → Records bs es → (room : ℕ) (t : Tables)
    → part_from ended room m t bs ≡ book_part ended room m t bs es
unfolding part_from one_record answer_lines answers final sum
part_by_book ended m {bs} (none q) zero t = refl
part_by_book ended m {bs} (none q) (suc room) t = go (is_ready ended bs) refl
  where
    go : (w : Bool) → is_ready ended bs ≡ w → part_from ended (suc room) m t bs ≡ book_part ended (suc room) m t bs []
    go false w = part_waits ended (suc room) m t bs w ∙ rw (lt-ltb 0 (suc room) (omega arith), w)
    go true w = rw (w, q, lt-ltb 0 (suc room) (omega arith), damage bs q)
part_by_book ended m {bs} (more {es = es} q rs) zero t = rw (le-ltb (suc (length es)) 0 (omega arith))
part_by_book ended m {bs} (more {e = e} {es = es} q rs) (suc room) t =
    let t' = (step m t e.call).tables in
    let ready : is_ready ended bs ≡ true = rw (good_record bs q).whole in
    let rest = book_part ended room m t' (drop e.size bs) es in
    rw (ready, q) (ap (after (done m t e)) (part_by_book ended m rs room t')
    ∙ rw (more_room (length es) room, sym (drop-drop (sum (map (λ e. e.size) es)) e.size bs))
    (ap (λ (xs : List ℕ). ran (e.size + rest.read) xs rest.more rest.tables)
    (sym (append_assoc (answer_to m t e) (book_lines m t' (take room es)) (cond (meets_damage ended room (drop e.size bs) es) (faulty 13) [])))))

-- "at the end the whole page table, job table .. equal the book's": what a part does is the book's part, the tables that it leaves with it
pub left_is_book : (ended : Bool) (room : ℕ) (m : Machine) (t : Tables) (bs : List ℕ) → part_from ended room m t bs ≡ book_part ended room m t bs
    (records_in bs)
left_is_book ended room m t bs = part_by_book ended m (records_are bs) room t

-- so is every part that the contract of `run_part` allows
pub runs_by_book : (m : Machine) (t : Tables) (input : List ℕ) (ended : Bool) (out : List ℕ)
    → on_part m t input ended out ≡ put_into out (book_part ended (length out / answer_size) m t input (records_in input))
unfolding on_part
runs_by_book m t input ended out = ap (put_into out) (left_is_book ended (length out / answer_size) m t input)

-- ---- the whole journal

-- a machine record that is refused
pub journal_refused : (bs : List ℕ) {r : ℕ} → opening bs ≡ refuse r → journal bs ≡ faulty r
unfolding journal
journal_refused bs h = rw h

-- "A good machine record has no answer": the run of the records after it, on "64 fresh jobs"
pub journal_opened : (bs : List ℕ) {k : ℕ} → opening bs ≡ accept k → journal bs ≡ run_of (machine_in bs) (start_of (machine_in bs)) (drop k bs)
unfolding journal
journal_opened bs {k} h =
    rw h (enough (machine_in bs) (length bs) (length (drop k bs)) (start_of (machine_in bs)) (drop k bs) (rw length-drop (omega arith)) (omega arith))

-- after a good machine record, the book's run on "64 fresh jobs"
pub journal_is_book : (bs : List ℕ) {k : ℕ} → opening bs ≡ accept k → journal bs ≡ book_run (machine_in bs) (start_of (machine_in bs)) (drop k bs)
journal_is_book bs {k} h = journal_opened bs h ∙ run_is_book (machine_in bs) (start_of (machine_in bs)) (drop k bs)

-- ---- M-100: "every call answers as before"

-- a run on counts that match answers as the law without counts does
pub run_as_before : (m : Machine) (t : Tables) (bs : List ℕ) → Matches m.page_counts t → book_run m t bs ≡ uncounted_run m t bs
run_as_before m t bs a =
    ap (λ (given : List Answer). answer_lines (records_in bs) given ++ ending (past bs (records_in bs))) (answers_as_before m t (calls (records_in bs)) a)

-- a journal starts on counts that match: every page is free
pub start_matches : (m : Machine) → Matches m.page_counts (start_of m)
unfolding start_of
start_matches m = sym (rw append-nil at (all_free m.page_counts []))

-- so its answers are those of the law without counts
pub journal_as_before : (bs : List ℕ) {k : ℕ} → opening bs ≡ accept k → journal bs ≡ uncounted_run (machine_in bs) (start_of (machine_in bs)) (drop k bs)
journal_as_before bs {k} h =
    let m = machine_in bs in
    journal_is_book bs h ∙ run_as_before m (start_of m) (drop k bs) (start_matches m)
