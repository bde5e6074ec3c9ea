-- `turned_places` meets its contract. The loop's invariant: the nodes of the places before `i` are written, and zeros follow.
-- Assumes nothing.
use mathlib.Core.Path.{◌≡◌}
use mathlib.Core.List.{map}
use Rattle.rules.specs.Maps.{nodes_in, system_node}
use Rattle.rules.proofs.Filled.{filled}
use Rattle.maps.proofs.node_map.NodeMap.turned_places.Given as goal

abbrev pub invariant-loop-i : goal.invariant-loop-i
invariant-loop-i l = l.out ≡ filled 16 0 (map (system_node (nodes_in l.self.bytes.now)) l.places) l.i
