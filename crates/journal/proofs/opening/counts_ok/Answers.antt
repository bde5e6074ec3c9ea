-- `counts_ok` makes the tests of the rule.
-- Assumes nothing.
use mathlib.Core.Path.{refl}
use Rattle.rules.specs.Journal.{counts_ok}
use Rattle.journal.proofs.opening.counts_ok.Goals as goal

pub returns : goal.returns
unfolding counts_ok
returns c = refl
