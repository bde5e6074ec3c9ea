-- `named` meets its contract. The loop's invariant: the node's entry is that among the bytes from `a` on.
-- Assumes nothing.
use mathlib.Core.Path.{sym, ◌∙◌}
use Rattle.maps.proofs.MapNodes.{named_end, named_here, named_next, named_past}
use Rattle.maps.proofs.turning.named.Goals as goal

pub returns-then-entry : goal.returns-then-entry
returns-then-entry c = sym (c.loop-a.invariant ∙ named_end _ c.loop-a.a _ c.loop-a-test.true c.if-entry.true)

pub returns-then-entry-node : goal.returns-then-entry-node
returns-then-entry-node c = sym (c.loop-a.invariant ∙ named_here _ c.loop-a.a _ c.loop-a-test.true c.if-entry.false c.if-entry-node.true)

pub loop-a-preserved : goal.loop-a-preserved
loop-a-preserved c = c.loop-a.invariant ∙ named_next _ c.loop-a.a _ c.loop-a-test.true c.if-entry.false c.if-entry-node.false

pub returns : goal.returns
returns c = sym (c.loop-a.invariant ∙ named_past _ c.loop-a.a _ c.loop-a-test.false)
