-- `named` meets its contract. The loop: the set is that of the places before this one.
-- Assumes nothing.
use mathlib.Core.Path.{◌≡◌}
use lib.ListN.{take}
use Rattle.rules.specs.Maps.{set_of}
use Rattle.reasons.proofs.reach.named.Given as goal

abbrev pub invariant-loop-node : goal.invariant-loop-node
invariant-loop-node l = l.set.0 ≡ set_of (take l.node-index l.places)
