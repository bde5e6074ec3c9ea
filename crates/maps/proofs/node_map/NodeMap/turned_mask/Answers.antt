-- `turned_mask` meets its contract. The loop's invariant: the mask has the nodes of the user's bits below `a`.
-- Assumes nothing.
use mathlib.Core.Path.{◌≡◌, ap, ◌∙◌}
use native.Mathlib.Omega.{arith}
use borrow.Author.Rules.{rules}
use lib.ListN.{length}
use Rattle.rules.specs.Masks.{image}
use Rattle.rules.specs.Maps.{nodes_in, system_node, system_mask}
use Rattle.rules.proofs.Maps.{entry_below}
use Rattle.maps.proofs.MapNodes.{image_more, image_same}
use Rattle.maps.proofs.node_map.NodeMap.turned_mask.Goals as goal
use Rattle.maps.proofs.node_map.NodeMap.turned_mask.Goals.{then-user-a-eq1, else-user-a-eq1}

pub insert-out-requires : goal.insert-out-requires
insert-out-requires c = let nodes = nodes_in c.args.self.bytes.now in
    omega (arith, c.node_at-node.ensures, entry_below 64 nodes c.loop-a.a 255 c.requires.1 (omega arith))

pub loop-a-preserved : goal.loop-a-preserved
loop-a-preserved c = let f = system_node (nodes_in c.args.self.bytes.now) in
    elim c.if-user-a-eq1.branch [
      | then-user-a-eq1 w ↦
          rw (w.out-is, w.insert-out.ensures)
          (image_more c.args.user f c.loop-a.a c.loop-a.out.0 c.loop-a.invariant w.node_at-node.result.0 w.if-user-a-eq1.true w.node_at-node.ensures)
      | else-user-a-eq1 w ↦ rw w.out-is (image_same c.args.user f c.loop-a.a c.loop-a.out.0 c.loop-a.invariant w.if-user-a-eq1.false)
    ]

pub returns : goal.returns
unfolding system_mask
returns c = let e : c.loop-a.a ≡ length (nodes_in c.args.self.bytes.now) = omega arith in
    c.loop-a.invariant ∙ ap (image c.args.user (system_node (nodes_in c.args.self.bytes.now))) e

pub loop-a-init : goal.loop-a-init
unfolding image
loop-a-init c = search rules
