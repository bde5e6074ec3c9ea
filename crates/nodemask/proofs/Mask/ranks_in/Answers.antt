-- `Mask::ranks_in` meets its contract.
-- Assumes nothing.
use Prim.Native.Nat.{◌<◌}
use mathlib.Core.Path.{ap, ◌∙◌}
use native.Mathlib.Nat.{lt_of_le_of_lt}
use native.Mathlib.Omega.{arith}
use Rattle.rules.specs.Masks.{rank, lowest}
use Rattle.rules.proofs.Masks.{rank_le, insert_lt}
use Rattle.nodemask.specs.Ranks.{ranks_in}
use Rattle.nodemask.proofs.RankLaws.{gathered_none, gathered_more, gathered_all, lowest_is}
use Rattle.nodemask.proofs.Mask.ranks_in.Goals as goal

pub loop-node-init : goal.loop-node-init
loop-node-init c = let start = ap (λ (n : _). n.0) c.into_iter-node-iterator.ensures.into_iter_gives ∙ c.nodes-node-items.ensures in
    (omega arith, rw start (gathered_none c.args.self.0 (rank c.args.set.0)))

pub rank-requires : goal.rank-requires
rank-requires c = let t = c.in-Some.ensures.steps in
    omega (arith, t.2, (lowest_is 64 c.loop-node.node-iterator.0 t.0 t.1).small)

pub insert-out-requires : goal.insert-out-requires
insert-out-requires c = let t = c.in-Some.ensures.steps in
    omega (
      arith,
      t.2,
      c.rank.ensures,
      (lowest_is 64 c.loop-node.node-iterator.0 t.0 t.1).small,
      rank_le c.args.set.0 c.in-Some.node.0,
    )

pub loop-node-preserved : goal.loop-node-preserved
loop-node-preserved c = let t = c.in-Some.ensures.steps in
    let low = lowest_is 64 c.loop-node.node-iterator.0 t.0 t.1 in
    let small : c.rank.result.0 < 64 = omega (arith, t.2, c.rank.ensures, low.small, rank_le c.args.set.0 c.in-Some.node.0) in (
      rw c.insert-out.ensures (insert_lt 64 c.loop-node.out.0 c.rank.result.0 c.loop-node.invariant.0 small),
      gathered_more c.args.self.0 (rank c.args.set.0) c.loop-node.node-iterator.0 c.loop-node.out.0
          (lowest 64 c.loop-node.node-iterator.0) low.member
          (c.rank.ensures ∙ ap (rank c.args.set.0) t.2) c.insert-out.ensures t.3 c.loop-node.invariant.1,
    )

pub returns : goal.returns
unfolding ranks_in
returns c = gathered_all 64 c.args.self.0 (rank c.args.set.0) c.loop-node.node-iterator.0 c.loop-node.out.0 (omega arith) c.loop-node.invariant.0
    (λ b k. lt_of_le_of_lt (rank_le c.args.set.0 b) k) c.in-None.ensures.steps.0 c.loop-node.invariant.1
