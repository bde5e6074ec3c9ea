-- `turned_mask` meets its contract. The loop's invariant: the mask has the nodes of the user's bits below `a`.
-- Assumes nothing.
use mathlib.Core.Path.{◌≡◌}
use Rattle.rules.specs.Masks.{image}
use Rattle.rules.specs.Maps.{nodes_in, system_node}
use Rattle.maps.proofs.node_map.NodeMap.turned_mask.Given as goal

abbrev pub invariant-loop-a : goal.invariant-loop-a
invariant-loop-a l = (l.out.0 ≡ image l.user (system_node (nodes_in l.self.bytes.now)) l.a)
