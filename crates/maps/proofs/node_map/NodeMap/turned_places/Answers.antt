-- `turned_places` meets its contract. The loop's invariant: the nodes of the places before `i` are written, and zeros follow.
-- Assumes nothing.
use mathlib.Core.Path.{◌≡◌, ◌∙◌}
use mathlib.Core.Logic.{inl}
use mathlib.Core.List.{map}
use native.Mathlib.Omega.{arith}
use lib.ListN.{length, length-map}
use Rattle.rules.specs.Maps.{nodes_in, system_node}
use Rattle.rules.proofs.Filled.{fill_none, fill_end}
use Rattle.maps.proofs.MapNodes.{fill_node}
use Rattle.maps.proofs.node_map.NodeMap.turned_places.Goals as goal

pub loop-i-init : goal.loop-i-init
loop-i-init c = fill_none 16 0 _

pub loop-i-preserved : goal.loop-i-preserved
loop-i-preserved c = rw c.loop-i.invariant
    (fill_node 16 0 (system_node (nodes_in c.args.self.bytes.now)) c.args.places.now c.loop-i.i c.place_node.result.0 c.loop-i-test.true
    (omega arith) c.place_node.ensures)

pub returns : goal.returns
returns c = let kept = map (system_node (nodes_in c.args.self.bytes.now)) c.args.places.now in
    let all : c.loop-i.i ≡ length kept = rw length-map (omega arith) in
    c.loop-i.invariant ∙ fill_end 16 0 kept c.loop-i.i (omega arith) (omega arith) (inl (omega arith))
