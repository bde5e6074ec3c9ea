-- A part, record by record: what is done, and what is still to come, in the output and in the tables.
-- Assumes nothing.
use Prim.Native.Nat.{ℕ, suc, ◌+◌, ◌-◌, ◌/◌, ◌≤◌}
use mathlib.Core.Path.{◌≡◌, refl, sym, ap, ◌∙◌}
use mathlib.Core.Bool.{Bool, true, false, ◌&&◌, cond}
use mathlib.Core.List.{List, [], ◌++◌, append_assoc, append-nil}
use native.Mathlib.Nat.{add-zero, zero-add, add_assoc}
use native.Mathlib.Omega.{arith}
use borrow.Author.Tests.{leb-true, leb-false}
use lib.Dec.{leb}
use lib.ListN.{length, take, drop, length-append, length-drop, take-append-drop, drop_of_length-le}
use lib.Seq.{take-append-add, drop-append-add, take-append_seam, drop-append_seam, take_all, take-length, length-take-le, drop-drop}
use Rattle.rules.specs.Machine.{Machine}
use Rattle.rules.specs.Decisions.{refuse, accept}
use Rattle.rules.specs.Calls.{Answer, Tables, outcome, numbers}
use Rattle.rules.specs.Book.{Call as LawCall, step}
use Rattle.rules.specs.Journal.{answer_bytes, faulty, read_record}
use Rattle.rules.proofs.Lists.{both_true}
use Rattle.journal.specs.Parts.{answer_size, is_ready, Ran, ran, one_record, after, part_from, Passed, put_into, on_part}
use Rattle.journal.proofs.Parts.{part_waits, one_size}

-- ---- parts that are lent

-- the rest of the bytes, lent from a place on, is the rest
pub rest_lent : (bs : List ℕ) (at : ℕ) → take (length bs - at) (drop at bs) ≡ drop at bs
rest_lent bs at = take_all (length bs - at) (drop at bs) (rw length-drop (omega arith))

-- it has room for what fits after that place
pub room_lent : (out : List ℕ) (at : ℕ) {n : ℕ} → at + n ≤ length out → n ≤ length (take (length out - at) (drop at out))
room_lent out at h = rw (rest_lent out at, length-drop) (omega arith)

-- it comes back after what stands before it
pub rest_back : (out part : List ℕ) (at : ℕ) → take at out ++ (part ++ drop (length out - at) (drop at out)) ≡ take at out ++ part
rest_back out part at =
    let short : length (drop at out) ≤ length out - at = rw length-drop (omega arith) in
    rw (drop_of_length-le (drop at out) short, append-nil)

-- ---- one part after the other

-- a part, and the part after it on what it left
abbrev pub onto : Passed → Passed → Passed
onto a b = record {
  read = a.read + b.read;
  written = a.written + b.written;
  more = b.more;
  tables = b.tables;
  output = take a.written a.output ++ b.output;
}

-- what is done so far: `at` bytes are read, `written` bytes of the output are answers
abbrev pub state : ℕ → ℕ → Tables → List ℕ → Passed
state at written t out = record { read = at; written = written; more = true; tables = t; output = out }

after_take : (xs ys : List ℕ) {n : ℕ} (k : ℕ) → length xs ≡ n → take (n + k) (xs ++ ys) ≡ xs ++ take k ys
after_take xs ys k e = rw (sym e) (take-append-add xs ys k)

after_drop : (xs ys : List ℕ) {n : ℕ} (k : ℕ) → length xs ≡ n → drop (n + k) (xs ++ ys) ≡ drop k ys
after_drop xs ys k e = rw (sym e) (drop-append-add xs ys k)

-- a state, a part on the rest of its output, and then another: the state after the first, and the other
onto_onto : (at : ℕ) {written : ℕ} (t : Tables) (out : List ℕ) (a b : Passed) → written ≤ length out
    → onto (state at written t out) (onto a b) ≡ onto (state (at + a.read) (written + a.written) a.tables (take written out ++ a.output)) b
onto_onto at {written} t out a b h =
    rw (
      add_assoc at a.read b.read,
      add_assoc written a.written b.written,
      after_take (take written out) a.output a.written (length-take-le written out h),
      append_assoc (take written out) (take a.written a.output) b.output,
    )

-- the answers of two parts in an output
put_after : (out : List ℕ) (p q : Ran) → put_into out (after p q) ≡ onto (put_into out p) (put_into (drop (length p.answers) out) q)
unfolding put_into
put_after out p q =
    rw (
      take-append_seam p.answers (drop (length p.answers) out),
      length-append p.answers q.answers,
      append_assoc p.answers q.answers (drop (length p.answers + length q.answers) out),
      drop-drop (length q.answers) (length p.answers) out,
    )

-- a record that is done, and the part that follows it unless it ends the run
abbrev goes_on : Machine → List ℕ → Bool → Passed → Passed
goes_on m bs ended q = cond q.more (onto q (on_part m q.tables (drop q.read bs) ended (drop q.written q.output))) q

-- so does a part begin with a record that can be done, in an output with room for its answer
first_done : (m : Machine) (t : Tables) (bs : List ℕ) (ended : Bool) (out : List ℕ) → is_ready ended bs ≡ true → answer_size ≤ length out
    → on_part m t bs ended out ≡ goes_on m bs ended (put_into out (one_record m t bs))
unfolding on_part put_into part_from
first_done m t bs ended out w l =
    let given = (one_record m t bs).answers in
    let less = length (drop (length given) out) / answer_size in
    let e : length out / answer_size ≡ suc less = omega (arith, length-drop (length given) out, (one_size m t bs).2) in
    ap (λ (k : ℕ). put_into out (part_from ended k m t bs)) e ∙ rw w (go (one_record m t bs).more)
  where
    go : (more : Bool) → let p = one_record m t bs in let q = put_into out p in let less = length (drop (length p.answers) out) / answer_size in
        put_into out (cond more (after p (part_from ended less m p.tables (drop p.read bs))) p)
        ≡ cond more (onto q (on_part m q.tables (drop q.read bs) ended (drop q.written q.output))) q
    go false = refl
    go true =
        let p = one_record m t bs in
        rw (drop-append_seam p.answers (drop (length p.answers) out)) (put_after out p _)

-- ---- the loop

-- What is done and what is still to come are the part of the whole.
pub record Held (m : Machine) (t₀ : Tables) (input : List ℕ) (ended : Bool) (out₀ : List ℕ) (t : Tables) (out : List ℕ) (written at : ℕ) : Type 0 where
  pub within : at ≤ length input
  pub fits : written ≤ length out
  pub part : onto (state at written t out) (on_part m t (drop at input) ended (drop written out)) ≡ on_part m t₀ input ended out₀

-- nothing is done yet
pub begun : (m : Machine) (t : Tables) (input : List ℕ) (ended : Bool) (out : List ℕ) → Held m t input ended out t out 0 0
begun m t input ended out = record { within = omega arith; fits = omega arith; part = simp zero-add }

module _ {m : Machine} {t₀ t : Tables} {input out₀ out : List ℕ} {ended : Bool} {written at : ℕ} (held : Held m t₀ input ended out₀ t out written at) where
  -- no room is left, or the next record cannot be done yet
  pub finished : {w : Bool} → w ≡ is_ready ended (take (length input - at) (drop at input)) → (w && leb answer_size (length out - written)) ≡ false
      → state at written t out ≡ on_part m t₀ input ended out₀
  unfolding on_part put_into part_from
  finished {w} e h =
      let stays = go w (sym (ap (is_ready ended) (rest_lent input at)) ∙ sym e) h in
      sym (rw (stays, take-append-drop written out, add-zero, add-zero)) ∙ held.part
    where
      go : (w : Bool) → is_ready ended (drop at input) ≡ w → (w && leb answer_size (length out - written)) ≡ false
          → part_from ended (length (drop written out) / answer_size) m t (drop at input) ≡ ran 0 [] true t
      go false w h = part_waits ended (length (drop written out) / answer_size) m t (drop at input) w
      go true w h =
          let none : length (drop written out) / answer_size ≡ 0 = omega (arith, length-drop written out, leb-false answer_size (length out - written) h) in
          rw none

  -- The next record can be done, and there is room for its answer.
  module _ {w : Bool} (told : w ≡ is_ready ended (take (length input - at) (drop at input)))
      (tested : (w && leb answer_size (length out - written)) ≡ true) where
    pub lent_room : answer_size ≤ length (take (length out - written) (drop written out))
    lent_room = room_lent out written (omega (arith, leb-true answer_size (length out - written) (both_true {a = w} tested).1, held.fits))

    is_ready_lem : is_ready ended (drop at input) ≡ true
    is_ready_lem = sym (ap (is_ready ended) (rest_lent input at)) ∙ sym told ∙ (both_true {a = w} tested).0

    has_room : answer_size ≤ length (drop written out)
    has_room = rw (rest_lent out written) at lent_room

    -- It did this to the lent rest of the output.
    module _ (a : Passed) (said : a ≡ put_into (take (length out - written) (drop written out))
        (one_record m t (take (length input - at) (drop at input)))) where
      did : a ≡ put_into (drop written out) (one_record m t (drop at input))
      did = rw (rest_lent out written, rest_lent input at) at said

      -- how far it came
      pub came : (at + a.read ≤ length input) × (written + a.written ≤ length out) × (a.more ≡ true → 1 ≤ a.read)
      unfolding put_into
      came =
          let one = one_size m t (drop at input) in
          let read = ap (λ (x : Passed). x.read) did in
          let more = ap (λ (x : Passed). x.more) did in (
            omega (arith, read, one.0, length-drop at input, held.within),
            omega (arith, ap (λ (x : Passed). x.written) did, one.2, has_room, length-drop written out, held.fits),
            λ h. omega (arith, read, one.1 (sym more ∙ h)),
          )

      joined : onto (state at written t out) (goes_on m (drop at input) ended a) ≡ on_part m t₀ input ended out₀
      joined =
          let first = first_done m t (drop at input) ended (drop written out) is_ready_lem has_room in
          ap (onto (state at written t out)) (ap (goes_on m (drop at input) ended) did ∙ sym first) ∙ held.part

      -- one record more is done
      pub advanced : a.more ≡ true
          → Held m t₀ input ended out₀ a.tables (take written out ++ (a.output ++ drop (length out - written) (drop written out)))
          (written + a.written) (at + a.read)
      unfolding put_into
      advanced h =
          let n = length-take-le written out held.fits in
          let output = ap (λ (x : Passed). x.output) did in
          let answered = ap (λ (x : Passed). x.written) did in
          rw (rest_back out a.output written) (record {
            within = came.0;
            fits = rw (length-append, n, output, length-append) (omega (arith, answered));
            part =
                rw (after_drop (take written out) a.output a.written n, sym (drop-drop a.read at input))
                (sym (onto_onto at t out a _ held.fits) ∙ (rw h at joined));
          })

      -- a damaged record is answered: the run ends
      pub stopped : a.more ≡ false
          → record {
            read = at + a.read;
            written = written + a.written;
            more = false;
            tables = a.tables;
            output = take written out ++ (a.output ++ drop (length out - written) (drop written out));
          } ≡ on_part m t₀ input ended out₀
      stopped h = rw (rest_back out a.output written) (rw h at joined)

-- ---- one record

module _ (m : Machine) (t : Tables) (bs out : List ℕ) {line out' : List ℕ} {written : ℕ} where
  -- its answer at the start of the output is all that it writes
  lined : {read : ℕ} {more : Bool} {t' : Tables} → written ≡ length line → out' ≡ take (length line) line ++ drop (length line) out
      → one_record m t bs ≡ ran read line more t'
      → record { read = read; written = written; more = more; tables = t'; output = out' } ≡ put_into out (one_record m t bs)
  unfolding put_into
  lined n o p = rw (p, n, o, take-length line)

  -- a good record, whose call did what the book does
  pub record_done : {kind size : ℕ} {law : LawCall} {a : Answer} {t' : Tables} → read_record bs ≡ accept (record { kind = kind; size = size; call = law })
      → outcome a t' ≡ step m t law → line ≡ answer_bytes kind (numbers a) → written ≡ length line → out' ≡ take (length line) line ++ drop (length line) out
      → record { read = size; written = written; more = true; tables = t'; output = out' } ≡ put_into out (one_record m t bs)
  unfolding one_record
  record_done q d l n o = lined n o (rw (q, sym d, sym l))

  -- a damaged one
  pub record_damaged : read_record bs ≡ refuse 13 → line ≡ faulty 13 → written ≡ length line
      → out' ≡ take (length line) line ++ drop (length line) out
      → record { read = 0; written = written; more = false; tables = t; output = out' } ≡ put_into out (one_record m t bs)
  unfolding one_record
  record_damaged q l n o = lined n o (rw (q, sym l))
