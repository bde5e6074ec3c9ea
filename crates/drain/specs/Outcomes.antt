-- What a drain comes to, by its moves or its refusal (request M-107).
use Rattle.std.specs.Prelude.{ℕ, ◌*◌, List, ◌++◌, length, drop}
use Rattle.rules.specs.Decisions.{Decision, accept, then, decided}
use Rattle.rules.specs.Calls.{Tables, applied}
use Rattle.rules.specs.Drain.{Move, draining, pairs}

-- "answer how many"
abbrev pub count_of : Decision (List Move) → Decision ℕ
count_of d = then d (λ vs. accept (length vs))

-- the tables afterwards
abbrev pub tables_after : ℕ → Tables → Decision (List Move) → Tables
tables_after x t d = decided (λ r. t) (λ vs. (applied t (accept (draining x t vs))).tables) d

-- "Write the pairs": the output afterwards
abbrev pub pairs_after : List ℕ → Decision (List Move) → List ℕ
pairs_after out d = decided (λ r. out) (λ vs. pairs vs ++ drop (2 * length vs) out) d
