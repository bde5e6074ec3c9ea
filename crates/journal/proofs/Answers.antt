-- The laws of a run: what a record adds to the answers, and when the run ends.
-- Assumes nothing.
use Prim.Native.Nat.{ℕ, zero, suc, ◌-◌, ◌≤◌, ◌<◌}
use mathlib.Core.Path.{◌≡◌, refl, ap}
use mathlib.Core.List.{List, [], ◌∷◌, ◌++◌}
use native.Mathlib.Omega.{arith}
use lib.ListN.{length, drop, length-append, length-drop}
use Rattle.rules.specs.Machine.{Machine}
use Rattle.rules.specs.Decisions.{Decision, refuse, accept, decided}
use Rattle.rules.specs.Calls.{Tables, refused, numbers}
use Rattle.rules.specs.Book.{step}
use Rattle.rules.specs.Journal.{Entry, byte_at, answer_bytes, faulty, read_record, run_from}
use Rattle.rules.proofs.Bytes.{bytes_length}
use Rattle.journal.specs.Parts.{answer_size, run_of, answer_to}
use Rattle.journal.proofs.Records.{good_record}

-- ---- "Answers are 12 bytes"

-- an answer
pub answer_length : (kind : ℕ) (ns : List ℕ) → length (answer_bytes kind ns) ≡ answer_size
unfolding answer_bytes
answer_length kind ns = omega (arith, bytes_length 4 (byte_at ns 2))

-- an answer that ends the run
pub fault_length : (r : ℕ) → length (faulty r) ≡ answer_size
unfolding faulty
fault_length r = answer_length 0xFF (numbers (refused r))

-- ---- one record after the other

module _ (m : Machine) where
  -- the tables after a record
  abbrev left : Tables → Entry → Tables
  left t e = (step m t e.call).tables

  -- as many records at most as there are bytes: a greater bound does not matter
  pub enough : (f g : ℕ) (t : Tables) (bs : List ℕ) → length bs ≤ f → length bs ≤ g → run_from f m t bs ≡ run_from g m t bs
  unfolding run_from
  enough zero zero t bs hf hg = refl
  enough zero (suc g) t [] hf hg = refl
  enough zero (suc g) t (b ∷ bs) hf hg = absurd (omega arith)
  enough (suc f) zero t [] hf hg = refl
  enough (suc f) zero t (b ∷ bs) hf hg = absurd (omega arith)
  enough (suc f) (suc g) t [] hf hg = refl
  enough (suc f) (suc g) t (b ∷ bs) hf hg = go (read_record (b ∷ bs)) refl (enough f g)
    where
      next : ℕ → Entry → List ℕ
      next h e = answer_to m t e ++ run_from h m (left t e) (drop e.size (b ∷ bs))

      go : (d : Decision Entry) → read_record (b ∷ bs) ≡ d
          → ((t : Tables) (bs : List ℕ) → length bs ≤ f → length bs ≤ g → run_from f m t bs ≡ run_from g m t bs)
          → decided faulty (next f) d ≡ decided faulty (next g) d
      go (refuse r) q ih = refl
      go (accept e) q ih =
          let l : length (drop e.size (b ∷ bs)) ≡ length (b ∷ bs) - e.size = length-drop e.size (b ∷ bs) in
          let s = (good_record (b ∷ bs) q).least in
          ap (λ (xs : List ℕ). answer_to m t e ++ xs) (ih (left t e) (drop e.size (b ∷ bs)) (omega arith) (omega arith))

  -- a good record: its answer, and then the rest on the tables that it leaves
  pub run_next : (t : Tables) (bs : List ℕ) {e : Entry} → read_record bs ≡ accept e → run_of m t bs ≡ answer_to m t e ++ run_of m (left t e) (drop e.size bs)
  unfolding run_from
  run_next t [] q = let g = good_record [] q in absurd (omega arith)
  run_next t (b ∷ bs) {e} q =
      let l : length (drop e.size (b ∷ bs)) ≡ length (b ∷ bs) - e.size = length-drop e.size (b ∷ bs) in
      let s = (good_record (b ∷ bs) q).least in
      rw q (ap (λ (xs : List ℕ). answer_to m t e ++ xs)
      (enough (length bs) (length (drop e.size (b ∷ bs))) (left t e) (drop e.size (b ∷ bs)) (omega arith) (omega arith)))

  -- "A bad mark, kind, unused byte or short record .. answers kind FF, refusal 13, .. and ends"
  pub run_damaged : (t : Tables) (bs : List ℕ) {r : ℕ} → 0 < length bs → read_record bs ≡ refuse r → run_of m t bs ≡ faulty r
  unfolding run_from
  run_damaged t [] l q = absurd (omega arith)
  run_damaged t (b ∷ bs) l q = rw q

  -- a run that is not at its end has an answer more
  pub run_some : (t : Tables) (bs : List ℕ) → 0 < length bs → answer_size ≤ length (run_of m t bs)
  run_some t bs l = go (read_record bs) refl
    where
      go : (d : Decision Entry) → read_record bs ≡ d → answer_size ≤ length (run_of m t bs)
      go (refuse r) q = rw (run_damaged t bs l q) (omega (arith, fault_length r))
      go (accept e) q = rw (run_next t bs q, length-append) (omega (arith, answer_length e.kind (numbers (step m t e.call).answer)))
