-- `keep` meets its contract. The loop: the entries of the numbers before `i` are written, FF follows, and the numbers from `i` on decide.
-- Assumes nothing.
use Prim.Native.Nat.{◌≤◌}
use mathlib.Core.Path.{◌≡◌}
use mathlib.Core.List.{map}
use lib.ListN.{drop}
use Rattle.rules.specs.Maps.{nodes_in, system_node}
use Rattle.rules.proofs.Filled.{filled}
use Rattle.maps.proofs.Keeping.{keeps}
use Rattle.maps.proofs.node_map.NodeMap.keep.Given as goal

abbrev pub invariant-loop-i : goal.invariant-loop-i
invariant-loop-i l = (l.i ≤ l.least)
    × (l.least ≤ l.self.len)
    × (l.out ≡ filled 64 255 (map (system_node (nodes_in l.self.bytes.now)) l.list) l.i)
    × (keeps l.self.len 0 l.list ≡ keeps l.self.len l.least (drop l.i l.list))
