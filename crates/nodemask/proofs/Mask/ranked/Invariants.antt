-- `Mask::ranked` meets its contract. The loop's invariant: what is out and what the nodes left take of the bits left is all.
-- Assumes nothing.
use Prim.Native.Nat.{ℕ, ◌^◌, ◌<◌}
use mathlib.Core.Path.{◌≡◌}
use mathlib.Core.Bool.{◌||◌}
use Rattle.rules.specs.Masks.{has}
use Rattle.nodemask.proofs.RankLaws.{by_rank}
use Rattle.nodemask.proofs.Mask.ranked.Given as goal

abbrev pub invariant-loop-node : goal.invariant-loop-node
invariant-loop-node l =
    (l.out < 2 ^ 64) × ((n : ℕ) → (has l.out n || by_rank l.node-iterator.0 l.bits n) ≡ by_rank l.fn.self.0 l.fn.ranks.0 n)
