-- `rebind` does what the rules say, for all inputs.
-- Assumes nothing.
use mathlib.Core.Path.{sym, ◌∙◌}
use Rattle.rules.specs.Calls.{applied, on_rebind, rebind_decision}
use Rattle.records.proofs.rebind.Goals as goal

pub returns-then-not-tables_ok : goal.returns-then-not-tables_ok
unfolding applied on_rebind rebind_decision
returns-then-not-tables_ok c t = rw (sym c.tables_ok.ensures ∙ c.if-not-tables_ok.true)
