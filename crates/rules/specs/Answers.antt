-- What the code's enums and structs stand for in the rules: document 01's number of each refusal, its answer for each case, its numbers.
use Rattle.std.specs.Prelude.{ℕ, List, [], ◌∷◌, Result, Ok, Err}
use Rattle.rules.specs.declared.Refusal.{Refusal}
use Rattle.rules.specs.declared.Refusal.TheVariants.{BadTables, NoSuchJob, NoSuchCpu, MalformedRecord, UnknownPolicy, DoesNotFit}
use Rattle.rules.specs.declared.Refusal.TheVariants.{NothingAllowed, NoRoom, NothingEffective, NotHeld, OutputTooShort, BadText}
use Rattle.rules.specs.declared.Refusal.TheVariants.{DamagedJournal, WrongCount, BadMap, BadNote, NowhereToGo}
use Rattle.rules.specs.declared.Effect.{Effect}
use Rattle.rules.specs.declared.Effect.TheVariants.{Granted, Released, Done, Drained}
use Rattle.rules.specs.declared.NearCount.{NearCount}
use Rattle.rules.specs.declared.Numbers.{Numbers}
use Rattle.rules.specs.declared.OrderNumbers.{OrderNumbers}
use Rattle.rules.specs.declared.Number.{Number}
use Rattle.rules.specs.declared.Part.{Part}
use Rattle.rules.specs.Decisions.{Decision as LawDecision, refuse, accept}
use Rattle.rules.specs.Near.{Order, ordered}
use Rattle.rules.specs.Calls.{Answer as LawAnswer, granted, released, done, drained, refused, Tables, Outcome, numbers}
use Rattle.rules.specs.Notes.{Part as LawPart, part_at}

-- The table "Refusal numbers"
abbrev pub number_of : Refusal → ℕ
number_of BadTables = 1
number_of NoSuchJob = 2
number_of NoSuchCpu = 3
number_of MalformedRecord = 4
number_of UnknownPolicy = 5
number_of DoesNotFit = 6
number_of NothingAllowed = 7
number_of NoRoom = 8
number_of NothingEffective = 9
number_of NotHeld = 10
number_of OutputTooShort = 11
number_of BadText = 12
number_of DamagedJournal = 13
number_of WrongCount = 14
number_of BadMap = 15
number_of BadNote = 16
number_of NowhereToGo = 17

-- "Where an answer is an enum, a definition gives this paper's number and values for each case of the enum"
abbrev pub answer_of : Result Effect Refusal → LawAnswer
answer_of (Ok (Granted n p)) = granted n.0 p.0
answer_of (Ok (Released n p)) = released n.0 p.0
answer_of (Ok Done) = done
answer_of (Ok (Drained moves)) = drained moves
answer_of (Err r) = refused (number_of r)

-- a number, or "its number alone"
abbrev pub decision_of : Result ℕ Refusal → LawDecision ℕ
decision_of (Ok value) = accept value
decision_of (Err r) = refuse (number_of r)

-- "refusal, node or FF, .. page or FFFFFFFF": the three numbers of an answer
abbrev pub numbers_in : Numbers → List ℕ
numbers_in n = n.refusal ∷ n.node ∷ n.page ∷ []

-- 0 and the number, or the refusal's number and 0: a decision in numbers
abbrev pub in_numbers : LawDecision ℕ → List ℕ
in_numbers (accept value) = 0 ∷ value ∷ []
in_numbers (refuse r) = r ∷ 0 ∷ []

-- the two numbers of a decision
abbrev pub number_in : Number → List ℕ
number_in n = n.refusal ∷ n.value ∷ []

-- the part of some bytes
abbrev pub part_of : Part → LawPart
part_of p = part_at p.start p.len

-- how many nodes near(x) lists and in how many rounds, or "its number alone"
abbrev pub ordered_of : Result NearCount Refusal → LawDecision Order
ordered_of (Ok listed) = accept (ordered listed.nodes listed.rounds)
ordered_of (Err r) = refuse (number_of r)

-- 0 and both, or the refusal's number, 0 and 0: what near(x) answers, in numbers
abbrev pub order_numbers : LawDecision Order → List ℕ
order_numbers (accept o) = 0 ∷ o.nodes ∷ o.rounds ∷ []
order_numbers (refuse r) = r ∷ 0 ∷ 0 ∷ []

-- the three numbers
abbrev pub order_numbers_in : OrderNumbers → List ℕ
order_numbers_in n = n.refusal ∷ n.nodes ∷ n.rounds ∷ []

-- What a host is told of a call: the answer in numbers, and the tables afterwards.
pub record Told : Type 0 where
  pub answer : List ℕ
  pub tables : Tables

abbrev pub told : List ℕ → Tables → Told
told answer tables = record { answer = answer; tables = tables }

-- an outcome as a host is told of it
unfoldable pub told_of : Outcome → Told
told_of o = told (numbers o.answer) o.tables
