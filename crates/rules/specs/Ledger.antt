-- Document 00, demand 2: "From a page table of zeros, changed only by these calls, a page belongs to a job exactly when the last step that
-- granted or released it gave it to that job."
use Rattle.std.specs.Prelude.{ℕ, zero, suc, List, [], ◌∷◌, ◌++◌, eqb}
use Rattle.std.proofs.Math.Option.{Option, none, some}
use Rattle.rules.specs.Basics.{keep}
use Rattle.rules.specs.Machine.{Machine}
use Rattle.rules.specs.Decisions.{Decision, refuse, accept}
use Rattle.rules.specs.Calls.{Tables, Write, Change}
use Rattle.rules.specs.Book.{Call, decision, step}

-- "A grant to job j writes j + 1 at its page in the ledger, a release 0. Nothing else changes the ledger"; M-107: "a move is a
-- release and a grant in one step": what a call writes
unfoldable pub writes_of : Decision Change → List Write
writes_of (refuse r) = []
writes_of (accept c) = c.writes

-- what a list of calls writes, in order
unfoldable pub writes : Machine → Tables → List Call → List Write
writes m t [] = []
writes m t (c ∷ cs) = writes_of (decision m t c) ++ writes m (step m t c).tables cs

-- the last of a list, else o
unfoldable pub last_else : {A : Type 0} → Option A → List A → Option A
last_else o [] = o
last_else o (x ∷ xs) = last_else (some x) xs

-- "the last step that granted or released it": the last write at page p, if there is one
unfoldable pub last_write : Machine → Tables → List Call → ℕ → Option Write
last_write m t cs p = last_else none (keep (λ w. eqb w.at p) (writes m t cs))

-- "0 is free, j + 1 is held by job j": the job that a byte gives a page to
unfoldable pub holder : ℕ → Option ℕ
holder zero = none
holder (suc j) = some j

-- "gave it to that job"
unfoldable pub given_to : Option Write → Option ℕ
given_to none = none
given_to (some w) = holder w.value

-- for a proof that computes: `unfolding open_ledger` opens every definition of this file
unfoldable pub open_ledger : Unit {0}
unfolding writes_of writes last_else last_write holder given_to
open_ledger = tt
