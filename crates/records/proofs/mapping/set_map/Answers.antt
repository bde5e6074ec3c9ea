-- `set_map` does what the rules say, for all inputs.
-- Assumes nothing.
use mathlib.Core.Path.{sym, ◌∙◌}
use Rattle.rules.specs.Calls.{applied, set_map_decision, on_set_map}
use Rattle.records.proofs.mapping.set_map.Goals as goal

pub returns-then-not-mapped_ok : goal.returns-then-not-mapped_ok
unfolding applied set_map_decision on_set_map
returns-then-not-mapped_ok c t = rw (sym c.mapped_ok.ensures ∙ c.if-not-mapped_ok.true)
