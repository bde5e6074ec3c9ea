-- `table_ok` meets its contract: a good table is short.
-- Assumes nothing.
use mathlib.Core.Path.{sym}
use Rattle.notes.proofs.GoodLists.{long_table}
use Rattle.notes.proofs.names.table_ok.Goals as goal

pub returns-then-nodes-table : goal.returns-then-nodes-table
returns-then-nodes-table c = sym (long_table _ _ c.if-nodes-table.true)
