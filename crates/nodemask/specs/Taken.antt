-- The nodes of a mask, taken out of it one by one.
use Rattle.std.specs.Prelude.{◌≡◌, ◌-◌, ◌^◌, ◌<◌, Option, Some, None}
use Rattle.rules.specs.Masks.{most_nodes, lowest}
use Rattle.rules.specs.declared.SysNode.{SysNode}
use Rattle.nodemask.specs.declared.Nodes.{Nodes}

-- the lowest node that is left is taken, and the others are left; or none is
abbrev pub TakesLowest : Nodes → Option SysNode → Nodes → Type 0
TakesLowest old (Some node) new =
    (0 < old.0) × (old.0 < 2 ^ most_nodes) × (node.0 ≡ lowest most_nodes old.0) × (new.0 ≡ old.0 - 2 ^ lowest most_nodes old.0)
TakesLowest old None new = (old.0 ≡ 0) × (new.0 ≡ 0)
