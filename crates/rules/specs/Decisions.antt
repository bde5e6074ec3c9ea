-- Document 01, "Refusal numbers": what the tests of a call come to, and an order of tests.
use Rattle.std.specs.Prelude.{ℕ, Bool, true, false, cond, List, [], ◌∷◌, ◌++◌, length, drop, leb}

-- What the tests of a call come to: a refusal, or what it goes on with.
pub data Decision (A : Type 0) : Type 0 where
  refuse : (number : ℕ) → Decision A
  accept : A → Decision A

-- go on if the test holds, else refuse with this number: a chain of these is a refusal order
abbrev pub unless : {A : Type 0} → Bool → ℕ → Decision A → Decision A
unless true r d = d
unless false r d = refuse r

-- go on with what was accepted, to further tests; a refusal stays
abbrev pub then : {A B : Type 0} → Decision A → (A → Decision B) → Decision B
then (refuse r) go = refuse r
then (accept x) go = go x

-- what becomes of a decision: of a refusal's number, or of what was accepted
abbrev pub decided : {A B : Type 0} → (ℕ → B) → (A → B) → Decision A → B
decided ifRefused ifAccepted (refuse r) = ifRefused r
decided ifRefused ifAccepted (accept x) = ifAccepted x

-- it was accepted
abbrev pub is_accepted : {A : Type 0} → Decision A → Bool
is_accepted (refuse r) = false
is_accepted (accept x) = true

-- what was accepted, as a list: one or none
abbrev pub accepted_in : {A : Type 0} → Decision A → List A
accepted_in (refuse r) = []
accepted_in (accept x) = x ∷ []

-- What a call that writes into a lent output does: its answer, how much it wrote, and the output afterwards.
pub record Written : Type 0 where
  pub answer : Decision ℕ
  pub output : List ℕ

abbrev pub wrote : Decision ℕ → List ℕ → Written
wrote answer output = record { answer = answer; output = output }

-- "Every refusal .. leaves all lent memory unchanged"
abbrev pub not_written : List ℕ → ℕ → Written
not_written out r = wrote (refuse r) out

-- "11 output shorter than the text"; "It changes no output byte past the text"
unfoldable pub written : List ℕ → List ℕ → Written
written out text =
    cond (leb (length text) (length out))
    (wrote (accept (length text)) (text ++ drop (length text) out))
    (not_written out 11)

-- for a proof that computes: `unfolding open_decisions` opens every definition of this file
unfoldable pub open_decisions : Unit {0}
unfolding written
open_decisions = tt
