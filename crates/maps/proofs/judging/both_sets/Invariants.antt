-- `both_sets` meets its contract. The loop: the sets are those of the nodes before this one in either part.
-- Assumes nothing.
use mathlib.Core.Path.{◌≡◌}
use lib.ListN.{length, take}
use Rattle.rules.specs.Maps.{set_of}
use Rattle.maps.proofs.judging.both_sets.Given as goal

abbrev pub invariant-loop-node : goal.invariant-loop-node
invariant-loop-node l = (l.set.0 ≡ set_of (take (length l.yielded) l.one)) × (l.more.0 ≡ set_of (take (length l.yielded) l.other))
