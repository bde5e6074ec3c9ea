-- What a read of the program brings, and what a part of the records leaves.
use Rattle.std.specs.Prelude.{ℕ, ◌≤◌, ◌≡◌, Bool, true, false, not, ◌&&◌, ◌⊎◌, List, ◌++◌, length, take, drop, Option, Some, None, Result, Ok, Err, IsErr}
use Rattle.rules.specs.Machine.{Machine}
use Rattle.rules.specs.Calls.{Tables}
use Rattle.journal.specs.Parts.{is_whole, Passed, on_part}
use Rattle.placer.specs.declared.failure.Failure.{Failure}

-- the bytes that came are at most so many
abbrev pub AtMost : ℕ → Option ℕ → Type 0
AtMost most (Some n) = n ≤ most
AtMost most None = Unit {0}

-- what is kept for the next part is what this part left, at the front of the bytes. It is no whole record: the program waits for no byte
-- while it could answer.
abbrev pub Keeps : List ℕ → List ℕ → Result (Option ℕ) Failure → Type 0
Keeps left bs (Ok (Some n)) = (n ≤ length bs) × (take n bs ≡ left) × (is_whole left ≡ false)
Keeps left bs (Ok None) = Unit {0}
Keeps left bs (Err f) = Unit {0}

-- where no write failed, the run goes on just if this is so
abbrev pub GoesOn : Bool → Result (Option ℕ) Failure → Type 0
GoesOn more (Ok (Some n)) = more ≡ true
GoesOn more (Ok None) = more ≡ false
GoesOn more (Err f) = Unit {0}

-- What answering the bytes that are there does: the part p of the run, and what that leaves of the bytes is kept. The run ends at damage, at
-- the end of the input, and where a write failed.
pub record Answered (p : Passed) (there : List ℕ) (ended : Bool) (t' : Tables) (input' output' : List ℕ) (r : Result (Option ℕ) Failure) : Type 0 where
  pub tables : t' ≡ p.tables
  pub output : output' ≡ p.output
  pub keeps : Keeps (drop p.read there) input' r
  pub goes_on : GoesOn (p.more && not ended) r

-- What a turn does: bytes came behind those that were kept, and all of them are answered.
pub record Took (m : Machine) (t : Tables) (kept out : List ℕ) (t' : Tables) (input' output' : List ℕ) (r : Result (Option ℕ) Failure) : Type 0 where
  pub came : List ℕ
  pub ended : Bool
  pub answered : Answered (on_part m t (kept ++ came) ended out) (kept ++ came) ended t' input' output' r

-- a turn, or a read that failed, which ends the run and answers nothing
abbrev pub Turn : Machine → Tables → List ℕ → List ℕ → Tables → List ℕ → List ℕ → Result (Option ℕ) Failure → Type 0
Turn m t kept out t' input' output' r = Took m t kept out t' input' output' r ⊎ (IsErr r × (t' ≡ t) × (output' ≡ out))
