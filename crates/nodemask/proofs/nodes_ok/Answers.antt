-- `nodes_ok` tests N.
-- Assumes nothing.
use mathlib.Core.Path.{refl}
use Rattle.rules.specs.Machine.{nodes_ok}
use Rattle.nodemask.proofs.nodes_ok.Goals as goal

pub returns : goal.returns
unfolding nodes_ok
returns c = refl
