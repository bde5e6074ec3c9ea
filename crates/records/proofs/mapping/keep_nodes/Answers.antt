-- `keep_nodes` does what the rules say, for all inputs.
-- Assumes nothing.
use mathlib.Core.Path.{sym, ◌∙◌}
use Rattle.rules.specs.Calls.{applied, keep_decision, on_keep}
use Rattle.records.proofs.mapping.keep_nodes.Goals as goal

pub returns-then-not-mapped_ok : goal.returns-then-not-mapped_ok
unfolding applied keep_decision on_keep
returns-then-not-mapped_ok c t = rw (sym c.mapped_ok.ensures ∙ c.if-not-mapped_ok.true)
