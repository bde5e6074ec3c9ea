-- `names_ok`: the table is good if its names passed and its rest are.
-- Assumes nothing.
use Rattle.std.proofs.Common.{◌≡◌, ◌+◌, ◌≤◌, length}
use Rattle.rules.specs.Notes.{table_ok}
use Rattle.notes.proofs.Tables.{rest_ok}
use Rattle.notes.proofs.names.names_ok.Given as goal

abbrev pub invariant-loop-name : goal.invariant-loop-name
invariant-loop-name l = record {
  room : l.n + length l.left ≤ length l.table;
  good : table_ok l.nodes l.table ≡ rest_ok l.nodes l.n l.left;
}

abbrev pub decreases-loop-name : goal.decreases-loop-name
decreases-loop-name l = length l.left
