-- `install` does what the rules say, for all inputs.
-- Assumes nothing.
use mathlib.Core.Path.{sym, ◌∙◌}
use Rattle.rules.specs.Calls.{applied, on_install, install_decision}
use Rattle.records.proofs.install.Goals as goal

pub returns-then-not-mapped_ok : goal.returns-then-not-mapped_ok
unfolding applied on_install install_decision
returns-then-not-mapped_ok c t = rw (sym c.mapped_ok.ensures ∙ c.if-not-mapped_ok.true)
