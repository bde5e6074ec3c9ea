-- What a read takes from a stream and a write gives to one, where its bytes are known.
use Rattle.std.specs.Prelude.{ℕ, ◌≤◌, ◌<◌, List, length, take, Option, Some, None, Result, Ok, Err, MatchResult}
use Rattle.std.specs.Io.KnownBytes.{Keeps as Stays, Appends, Consumes, IsAtEnd}
use Rattle.placer.specs.declared.failure.Failure.{Failure}

-- the bytes that came are taken from the reader; at the end it has none left; a read that failed took none
abbrev pub Brought : Option (List ℕ) → Option (List ℕ) → List ℕ → Result (Option ℕ) Failure → Type 0
Brought old new bs (Ok (Some n)) = Consumes old new (take n bs)
Brought old new bs (Ok None) = Stays old new × (0 < length bs → IsAtEnd new)
Brought old new bs (Err f) = Stays old new

-- the first n bytes are given to the writer; a write that failed gave none
abbrev pub Put : Option (List ℕ) → Option (List ℕ) → List ℕ → Result ℕ Failure → Type 0
Put old new bs r = MatchResult r (λ n. Appends old new (take n bs)) (λ _. Stays old new)

-- all bytes are given to the writer, or, where a write failed, the first n of them
abbrev pub Sent : Option (List ℕ) → Option (List ℕ) → List ℕ → Result (Unit {0}) Failure → Type 0
Sent old new bs r = MatchResult r (λ _. Appends old new bs) (λ _. (n : ℕ) × (n ≤ length bs) × Appends old new (take n bs))
