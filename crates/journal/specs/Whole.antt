-- What the library's call for a whole journal says.
use Rattle.std.specs.Prelude.{ℕ, List, Result}
use Rattle.rules.specs.Answers.{decision_of}
use Rattle.rules.specs.declared.Refusal.{Refusal}
use Rattle.rules.specs.Decisions.{Written}

-- the answer, and the output that it leaves
abbrev pub written_as : Result ℕ Refusal → List ℕ → Written
written_as r out = record { answer = decision_of r; output = out }
