-- What a search's Option stands for in the rules, which count nodes by numbers.
use Rattle.std.specs.Prelude.{ℕ, Option, Some, None}
use Rattle.std.proofs.Math.Option as Math
use Rattle.std.proofs.Math.Option.{none, some}
use Rattle.rules.specs.declared.SysNode.{SysNode}

-- "Where an answer is an enum, a definition gives this paper's number and values for each case of the enum"
abbrev pub found_node : Option SysNode → Math.Option ℕ
found_node (Some n) = some n.0
found_node None = none
