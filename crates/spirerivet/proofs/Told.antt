-- An answer in numbers says what the wrapped call did.
-- Assumes nothing.
use Prim.Native.Nat.{ℕ, ◌≤◌}
use mathlib.Core.Path.{◌≡◌, sym, ap, ◌∙◌}
use mathlib.Core.List.{List}
use native.Mathlib.Omega.{arith}
use lib.ListN.{get_or}
use Rattle.rules.specs.declared.Refusal.{Refusal}
use Rattle.rules.specs.declared.Refusal.TheVariants.{BadTables, NoSuchJob, NoSuchCpu, MalformedRecord, UnknownPolicy, DoesNotFit}
use Rattle.rules.specs.declared.Refusal.TheVariants.{NothingAllowed, NoRoom, NothingEffective, NotHeld, OutputTooShort, BadText}
use Rattle.rules.specs.declared.Refusal.TheVariants.{DamagedJournal, WrongCount, BadMap, BadNote, NowhereToGo}
use Rattle.std.specs.Prelude.{Result, Ok, Err}
use Rattle.rules.specs.declared.Number.{Number}
use Rattle.rules.specs.Decisions.{Decision as LawDecision, accept, Written, wrote}
use Rattle.rules.specs.Calls.{Answer, Tables, Outcome, outcome, numbers}
use Rattle.rules.specs.Near.{Order, Listing, listing}
use Rattle.rules.specs.Answers.{number_of, decision_of, in_numbers, number_in, order_numbers, told, told_of}
use Rattle.rules.specs.Drain.{Drained, did_drain}
use Rattle.replay.specs.Replay.{Run, run}
use Rattle.spirerivet.specs.Told.{told_output, told_written, told_listing, told_run, told_replay, told_drain}

-- a call that did what the rules say is told so
pub told_call : {o : Outcome} {a : Answer} {t : Tables} {ns : List ℕ} → ns ≡ numbers a → outcome a t ≡ o → told ns t ≡ told_of o
unfolding told_of
told_call {o} {a} {t} n e = ap (λ (x : List ℕ). told x t) n ∙ ap told_of e

-- likewise a call that writes an output
pub told_written_lem : {w : Written} {d : LawDecision ℕ} {out : List ℕ} {ns : List ℕ} → ns ≡ in_numbers d → wrote d out ≡ w → told_output ns out ≡
    told_written w
unfolding told_written
told_written_lem {w} {d} {out} n e = ap (λ (x : List ℕ). told_output x out) n ∙ ap told_written e

-- and near(x) as listed
pub told_listing_lem : {l : Listing} {d : LawDecision Order} {out : List ℕ} {ns : List ℕ} → ns ≡ order_numbers d → listing d out ≡ l
    → told_output ns out ≡ told_listing l
unfolding told_listing
told_listing_lem {l} {d} {out} n e = ap (λ (x : List ℕ). told_output x out) n ∙ ap told_listing e

-- and a list of calls
pub told_run_lem : {r : Run} {d : LawDecision ℕ} {t : Tables} {out : List ℕ} {ns : List ℕ} → ns ≡ in_numbers d → run d t out ≡ r → told_run ns t out
    ≡ told_replay r
unfolding told_replay
told_run_lem {r} {d} {t} {out} n e = ap (λ (x : List ℕ). told_run x t out) n ∙ ap told_replay e

-- and a drain
pub told_drain_lem : {r : Drained} {d : LawDecision ℕ} {t : Tables} {out : List ℕ} {ns : List ℕ} → ns ≡ in_numbers d → did_drain d t out ≡ r
    → told_run ns t out ≡ told_drain r
unfolding told_drain
told_drain_lem {r} {d} {t} {out} n e = ap (λ (x : List ℕ). told_run x t out) n ∙ ap told_drain e

-- no refusal has number 0
numbered : (why : Refusal) → 1 ≤ number_of why
numbered BadTables = omega arith
numbered NoSuchJob = omega arith
numbered NoSuchCpu = omega arith
numbered MalformedRecord = omega arith
numbered UnknownPolicy = omega arith
numbered DoesNotFit = omega arith
numbered NothingAllowed = omega arith
numbered NoRoom = omega arith
numbered NothingEffective = omega arith
numbered NotHeld = omega arith
numbered OutputTooShort = omega arith
numbered BadText = omega arith
numbered DamagedJournal = omega arith
numbered WrongCount = omega arith
numbered BadMap = omega arith
numbered NowhereToGo = omega arith
numbered BadNote = omega arith

-- refusal 0 is no refusal: the calls ran
pub ran_at_zero : (x : Result ℕ Refusal) {n : Number} → number_in n ≡ in_numbers (decision_of x) → n.refusal ≡ 0 → decision_of x ≡ accept n.value
ran_at_zero (Ok value) e z = ap accept (sym (ap (λ (l : List ℕ). get_or l 1 0) e))
ran_at_zero (Err why) e z =
    let same : 0 ≡ number_of why = sym z ∙ ap (λ (l : List ℕ). get_or l 0 0) e in
    absurd (omega (arith, numbered why))
