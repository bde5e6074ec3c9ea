-- `Mask::ranks_in` meets its contract.
-- Assumes nothing.
use Prim.Native.Nat.{◌^◌, ◌<◌}
use Rattle.rules.specs.Masks.{rank}
use Rattle.nodemask.proofs.RankLaws.{Gathered}
use Rattle.nodemask.proofs.Mask.ranks_in.Given as goal

abbrev pub invariant-loop-node : goal.invariant-loop-node
invariant-loop-node l = (l.out.0 < 2 ^ 64) × Gathered l.fn.self.0 (rank l.set.0) l.node-iterator.0 l.out.0
