-- `set_of` meets its contract: the two parts are all.
-- Assumes nothing.
use Prim.Native.Nat.{ℕ, ◌/◌}
use mathlib.Core.Path.{◌≡◌, sym, ap, ◌∙◌}
use mathlib.Core.Bool.{true}
use mathlib.Core.List.{List, ◌++◌}
use native.Mathlib.Omega.{arith}
use lib.Dec.{ltb}
use lib.ListN.{length, take, drop}
use Rattle.rules.specs.Basics.{all}
use Rattle.rules.specs.Maps.{set_of}
use Rattle.rules.proofs.Lists.{both_true}
use Rattle.machine.proofs.Tables.{parts_all, to, one_length, other_length, to_end}
use Rattle.maps.proofs.NodeSets.{set_parts}
use Rattle.maps.proofs.judging.set_of.Goals as goal

-- the nodes of both parts are below 64
small : (list : List ℕ) → all (λ k. ltb k 64) list ≡ true
    → (all (λ k. ltb k 64) (take (to list) list) ≡ true) × (all (λ k. ltb k 64) (drop (length list / 2) list) ≡ true)
small list h = both_true (parts_all (λ k. ltb k 64) list (to list) (length list / 2) (omega arith) (omega arith) ∙ h)

pub both_sets-requires : goal.both_sets-requires
both_sets-requires c = let known = small c.args.list.now c.requires in
    (ap length (to_end c.args.list.now) ∙ sym (other_length c.args.list.now) ∙ sym (one_length c.args.list.now), known.0, rw (to_end c.args.list.now) known.1)

pub returns : goal.returns
returns c = c.both_sets.ensures ∙ ap (λ (ys : List ℕ). set_of (take (to c.args.list.now) c.args.list.now ++ ys)) (to_end c.args.list.now)
    ∙ set_parts c.args.list.now (to c.args.list.now) (length c.args.list.now / 2) (omega arith) (omega arith)
