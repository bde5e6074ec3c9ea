-- `named` meets its contract. The loop's invariant: the node's entry is that among the bytes from `a` on.
-- Assumes nothing.
use mathlib.Core.Path.{◌≡◌}
use lib.ListN.{drop}
use Rattle.rules.specs.Maps.{nodes_in, entry_from}
use Rattle.maps.proofs.turning.named.Given as goal

abbrev pub invariant-loop-a : goal.invariant-loop-a
invariant-loop-a l = (entry_from 0 (nodes_in l.bytes) l.node.0 ≡ entry_from l.a (nodes_in (drop l.a l.bytes)) l.node.0)
