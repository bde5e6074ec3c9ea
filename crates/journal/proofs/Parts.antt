-- A run in parts: what a part is, and that parts one after the other are the run.
-- Assumes nothing.
use Prim.Native.Nat.{ℕ, zero, suc, ◌+◌, ◌*◌, ◌≤◌, ◌<◌}
use mathlib.Core.Path.{◌≡◌, refl, sym, ap, ◌∙◌}
use mathlib.Core.Bool.{Bool, true, false, not, ◌&&◌, ◌||◌, cond, or-true, false≢true}
use mathlib.Core.Logic.{◌⊎◌, inl, inr, ⊎_elim}
use mathlib.Core.List.{List, [], ◌∷◌, ◌++◌, append_assoc, append-nil}
use native.Mathlib.Omega.{arith}
use borrow.Author.Tests.{ne_eqb}
use lib.Dec.{eqb}
use lib.ListN.{length, drop, length-append, length-drop}
use lib.Seq.{drop-drop, drop-append-le}
use Rattle.rules.specs.Basics.{is_nil}
use Rattle.rules.specs.Machine.{Machine}
use Rattle.rules.specs.Decisions.{Decision, refuse, accept, decided}
use Rattle.rules.specs.Calls.{Tables, numbers}
use Rattle.rules.specs.Book.{step}
use Rattle.rules.specs.Journal.{Entry, faulty, read_record, run_from}
use Rattle.journal.specs.Parts.{answer_size, run_of, is_whole, is_ready, Ran, ran, answer_to, one_record, after, part_from}
use Rattle.journal.proofs.Records.{whole_long, read_before, good_record}
use Rattle.journal.proofs.Answers.{answer_length, fault_length, run_some, run_next, run_damaged}

-- a good record, done
abbrev pub done : Machine → Tables → Entry → Ran
done m t e = ran e.size (answer_to m t e) true (step m t e.call).tables

-- What holds of a part that stays where it is, having no room or no record that can be done, of one that meets a damaged record, and with
-- one good record before it, holds of every part.
pub by_parts : (ended : Bool) (m : Machine) (P : ℕ → Tables → List ℕ → Ran → Type 0)
    → ((room : ℕ) (t : Tables) (bs : List ℕ) → (room ≡ 0) ⊎ (is_ready ended bs ≡ false) → P room t bs (ran 0 [] true t))
    → ((room : ℕ) (t : Tables) (bs : List ℕ) (r : ℕ) → is_ready ended bs ≡ true → read_record bs ≡ refuse r → P (suc room) t bs (ran 0 (faulty r) false t))
    → ((room : ℕ) (t : Tables) (bs : List ℕ) (e : Entry) (p : Ran) → read_record bs ≡ accept e
    → P room (done m t e).tables (drop e.size bs) p → P (suc room) t bs (after (done m t e) p))
    → (room : ℕ) (t : Tables) (bs : List ℕ) → P room t bs (part_from ended room m t bs)
unfolding part_from one_record
by_parts ended m P stays ends goes zero t bs = stays zero t bs (inl refl)
by_parts ended m P stays ends goes (suc room) t bs =
    go (is_ready ended bs) refl (read_record bs) refl (λ e. by_parts ended m P stays ends goes room (done m t e).tables (drop e.size bs))
  where
    one : Decision Entry → Ran
    one d = decided (λ r. ran 0 (faulty r) false t) (λ e. done m t e) d

    go : (w : Bool) → is_ready ended bs ≡ w → (d : Decision Entry) → read_record bs ≡ d
        → ((e : Entry) → P room (done m t e).tables (drop e.size bs) (part_from ended room m (done m t e).tables (drop e.size bs)))
        → let p = one d in P (suc room) t bs (cond w (cond p.more (after p (part_from ended room m p.tables (drop p.read bs))) p) (ran 0 [] true t))
    go false w d q ih = stays (suc room) t bs (inr w)
    go true w (refuse r) q ih = ends room t bs r w q
    go true w (accept e) q ih = goes room t bs e _ q (ih e)

-- the answers to the bytes that follow a part: none after a damaged record
abbrev pub onward : Machine → Ran → List ℕ → List ℕ
onward m p bs = cond p.more (run_of m p.tables bs) []

-- bytes may follow the input, unless it has ended
abbrev pub Follows : Bool → List ℕ → Type 0
Follows ended b = (ended ≡ true) → b ≡ []

-- no byte is there
pub empty_length : (bs : List ℕ) → eqb (length bs) 0 ≡ is_nil bs
unfolding is_nil
empty_length [] = refl
empty_length (b ∷ bs) = ne_eqb (suc (length bs)) 0 (λ e. omega arith)

-- a byte is there
some_byte : (bs : List ℕ) → not (is_nil bs) ≡ true → 0 < length bs
unfolding is_nil
some_byte [] h = absurd (false≢true h)
some_byte (b ∷ bs) h = omega arith

-- a record that can be done is read alike, whatever follows it, and is not empty
ready_before : (ended : Bool) (a b : List ℕ) → Follows ended b → is_ready ended a ≡ true → (read_record (a ++ b) ≡ read_record a) × (0 < length a)
ready_before ended a b f h = go (is_whole a) refl ended refl h
  where
    go : (w : Bool) → is_whole a ≡ w → (e : Bool) → ended ≡ e → (w || (e && not (is_nil a))) ≡ true → (read_record (a ++ b) ≡ read_record a) × (0 < length a)
    go true w e g h = (read_before a b w, omega (arith, whole_long a w))
    go false w true g h = (ap (λ (xs : List ℕ). read_record (a ++ xs)) (f g) ∙ ap read_record (append-nil a), some_byte a h)
    go false w false g h = absurd (false≢true h)

-- What a part is: it reads no more than there is, and 32 bytes at least for each answer unless it ends the run; where it stops before the
-- end it has used up its room or has come to a record that cannot be done yet; and its answers, with those to what it left and to any bytes
-- that follow, are those of the run.
pub record Stands (ended : Bool) (m : Machine) (room : ℕ) (t : Tables) (bs : List ℕ) (p : Ran) : Type 0 where
  pub within : p.read ≤ length bs
  pub few : p.more ≡ true → 32 * length p.answers ≤ answer_size * p.read
  pub stops : p.more ≡ true → (length p.answers ≡ answer_size * room) ⊎ (is_ready ended (drop p.read bs) ≡ false)
  pub whole : (b : List ℕ) → Follows ended b → run_of m t (bs ++ b) ≡ p.answers ++ onward m p (drop p.read bs ++ b)

pub stands : (ended : Bool) (m : Machine) (room : ℕ) (t : Tables) (bs : List ℕ) → Stands ended m room t bs (part_from ended room m t bs)
stands ended m = by_parts ended m (Stands ended m) stays ends goes
  where
    stays : (room : ℕ) (t : Tables) (bs : List ℕ) → (room ≡ 0) ⊎ (is_ready ended bs ≡ false) → Stands ended m room t bs (ran 0 [] true t)
    stays room t bs h =
        record { within = omega arith; few = λ e. omega arith; stops = λ e. ⊎_elim (λ (z : room ≡ 0). inl (omega arith)) inr h; whole = λ b f. refl }

    ends : (room : ℕ) (t : Tables) (bs : List ℕ) (r : ℕ) → is_ready ended bs ≡ true → read_record bs ≡ refuse r
        → Stands ended m (suc room) t bs (ran 0 (faulty r) false t)
    ends room t bs r w q = record {
      within = omega arith;
      few = λ e. absurd (false≢true e);
      stops = λ e. absurd (false≢true e);
      whole = λ b f.
          let here = ready_before ended bs b f w in
          let some : 0 < length (bs ++ b) = rw length-append (omega (arith, here.1)) in
          run_damaged m t (bs ++ b) some (here.0 ∙ q) ∙ sym (append-nil (faulty r));
    }

    goes : (room : ℕ) (t : Tables) (bs : List ℕ) (e : Entry) (p : Ran) → read_record bs ≡ accept e
        → Stands ended m room (done m t e).tables (drop e.size bs) p → Stands ended m (suc room) t bs (after (done m t e) p)
    goes room t bs e p q ih =
        let g = good_record bs q in
        let line = answer_to m t e in
        let size = answer_length e.kind (numbers (step m t e.call).answer) in
        let past = drop-drop p.read e.size bs in
        record {
          within = omega (arith, ih.within, g.within, length-drop e.size bs);
          few = λ h. rw length-append (omega (arith, size, g.least, ih.few h));
          stops = λ h.
              ⊎_elim (λ (full : length p.answers ≡ answer_size * room). inl (rw length-append (omega (arith, size))))
              (λ w. inr (sym (ap (is_ready ended) past) ∙ w))
              (ih.stops h);
          whole = λ b f.
              run_next m t (bs ++ b) (read_before bs b g.whole ∙ q)
              ∙ rw (drop-append-le e.size bs b g.within, ih.whole b f, past)
              (sym (append_assoc line p.answers (onward m p (drop (e.size + p.read) bs ++ b))));
        }

-- The answers of a part, whatever room it had and wherever the bytes were cut, and then those to what it left with the bytes that follow,
-- are those of the whole.
pub in_parts : (m : Machine) (room : ℕ) (t : Tables) (a b : List ℕ) → let p = part_from false room m t a in
    run_of m t (a ++ b) ≡ p.answers ++ onward m p (drop p.read a ++ b)
in_parts m room t a b = (stands false m room t a).whole b (λ e. absurd (false≢true e))

-- The last part: where the input has ended and there is room for all answers, it has them all.
pub last_part : (m : Machine) (room : ℕ) (t : Tables) (bs : List ℕ) → length (run_of m t bs) < answer_size * room + answer_size
    → (part_from true room m t bs).answers ≡ run_of m t bs
unfolding run_from is_nil
last_part m room t bs fits = sym (split ∙ rw (go p.more refl (drop p.read bs) refl, append-nil))
  where
    p : Ran
    p = part_from true room m t bs

    split : run_of m t bs ≡ p.answers ++ onward m p (drop p.read bs)
    split = simp append-nil at ((stands true m room t bs).whole [] (λ e. refl))

    -- nothing is left: a byte at the end of input would be a record that can be done, and there is room for its answer
    go : (more : Bool) → p.more ≡ more → (left : List ℕ) → drop p.read bs ≡ left → cond more (run_of m p.tables left) [] ≡ []
    go false h left e = refl
    go true h [] e = refl
    go true h (b ∷ rest) e =
        let whole : length (run_of m t bs) ≡ length p.answers + length (run_of m p.tables (b ∷ rest)) = ap length split ∙ rw (h, e, length-append) in
        let later = run_some m p.tables (b ∷ rest) (omega arith) in
        absurd
        (⊎_elim (λ (full : length p.answers ≡ answer_size * room). omega arith)
        (λ w. false≢true (sym w ∙ ap (is_ready true) e ∙ or-true (is_whole (b ∷ rest))))
        ((stands true m room t bs).stops h))

-- ---- one record

-- a part with no record that can be done does nothing
pub part_waits : (ended : Bool) (room : ℕ) (m : Machine) (t : Tables) (bs : List ℕ) → is_ready ended bs ≡ false → part_from ended room m t bs ≡ ran 0 [] true t
unfolding part_from
part_waits ended zero m t bs w = refl
part_waits ended (suc room) m t bs w = rw w

-- a record lies in the bytes, and is no less than 32 bytes where it does not end the run; it has one answer
pub one_size : (m : Machine) (t : Tables) (bs : List ℕ) → let p = one_record m t bs in
    (p.read ≤ length bs) × (p.more ≡ true → 32 ≤ p.read) × (length p.answers ≡ answer_size)
unfolding one_record
one_size m t bs = go (read_record bs) refl
  where
    go : (d : Decision Entry) → read_record bs ≡ d → let p = decided (λ r. ran 0 (faulty r) false t) (λ e. done m t e) d in
        (p.read ≤ length bs) × (p.more ≡ true → 32 ≤ p.read) × (length p.answers ≡ answer_size)
    go (refuse r) q = (omega arith, λ h. absurd (false≢true h), fault_length r)
    go (accept e) q =
        let g = good_record bs q in
        (g.within, λ h. g.least, answer_length e.kind (numbers (step m t e.call).answer))
