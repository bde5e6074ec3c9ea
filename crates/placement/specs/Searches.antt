-- What the choice of a search stands for in the rules (M-100: "let requests pass over nodes counted 0").
use Rattle.std.specs.Prelude.{ℕ, ◌≡◌, true, List, length, Option, Some, None}
use Rattle.std.proofs.Math.Option as Math
use Rattle.std.proofs.Math.Option.{none, some}
use Rattle.rules.specs.Machine.{distances_ok}
use Rattle.rules.specs.Records.{Record}
use Rattle.rules.specs.SearchOrder.{Try, try}
use Rattle.records.specs.Jobs.{turn_of}
use Rattle.placement.specs.Plans.{Plannable}
use Rattle.placement.specs.declared.search.Chosen.{Chosen}

-- the try that is chosen: its node, and the turn that it leaves
abbrev pub chosen_by : Option Chosen → Math.Option Try
chosen_by (Some c) = some (try (turn_of c.cursor) c.node.0)
chosen_by None = none

-- What a request's search may count on: a count for each node, a distance table of so many nodes, and a job that has a plan on them.
pub record Searchable (free distances : List ℕ) (limit : ℕ) (r : Record) (x : ℕ) : Type 0 where
  pub table : distances_ok (length free) distances ≡ true
  pub plannable : Plannable (length free) limit r x
