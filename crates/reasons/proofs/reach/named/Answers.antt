-- `named` meets its contract. The loop: the set is that of the places before this one.
-- Assumes nothing.
use Prim.Native.Nat.{ℕ, ◌+◌, ◌<◌}
use mathlib.Core.Path.{◌≡◌, ap, ◌∙◌}
use mathlib.Core.List.{List, [], ◌∷◌, ◌++◌}
use native.Mathlib.Numerals.{add-one}
use lib.ListN.{length, get_or, take}
use lib.Seq.{take-suc}
use Rattle.rules.specs.Maps.{set_of}
use Rattle.rules.specs.Masks.{insert}
use Rattle.nodemask.specs.declared.Mask.{Mask}
use Rattle.maps.proofs.NodeSets.{set_none, set_more, set_past}
use Rattle.reasons.proofs.reach.named.Goals as goal
use Rattle.reasons.proofs.reach.named.Goals.{else-node-lt-MOST_NODES, then-node-lt-MOST_NODES}

-- the set of one place more
step : (places : List ℕ) (i : ℕ) {next : ℕ} → i < length places → next ≡ set_of (take i places ++ (get_or places i 0 ∷ [])) → next ≡ set_of
    (take (i + 1) places)
step places i h e = rw (add-one i, take-suc places i 0 h) e

pub loop-node-init : goal.loop-node-init
loop-node-init c = set_none

pub loop-node-preserved : goal.loop-node-preserved
loop-node-preserved c = let listed : List ℕ = c.args.places.now in
    step listed c.loop-node.node-index c.loop-node-test.true
    (elim c.if-node-lt-MOST_NODES.branch [
      | then-node-lt-MOST_NODES w ↦ ap (λ (m : Mask). m.0) w.set-is ∙ w.insert-set.ensures ∙ ap
          (λ (m : ℕ). insert m (get_or listed c.loop-node.node-index 0)) c.loop-node.invariant
          ∙ set_more (take c.loop-node.node-index listed) (get_or listed c.loop-node.node-index 0) w.if-node-lt-MOST_NODES.true
      | else-node-lt-MOST_NODES w ↦
          ap (λ (m : Mask). m.0) w.set-is ∙ c.loop-node.invariant
          ∙ set_past (take c.loop-node.node-index listed) (get_or listed c.loop-node.node-index 0) w.if-node-lt-MOST_NODES.false
    ])
