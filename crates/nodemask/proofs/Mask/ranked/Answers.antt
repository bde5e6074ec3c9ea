-- `Mask::ranked` meets its contract. The loop's invariant: what is out and what the nodes left take of the bits left is all.
-- Assumes nothing.
use Prim.Native.Nat.{◌%◌, ◌<◌}
use mathlib.Core.Path.{refl, ◌∙◌}
use mathlib.Core.Logic.{inl, inr}
use native.Mathlib.Omega.{arith}
use lib.Bits.{or_lt}
use lib.Pow.{shl_exact}
use Rattle.nodemask.specs.Ranks.{ranked_in}
use Rattle.nodemask.proofs.RankLaws.{ranked_more, ranked_all, lowest_is}
use Rattle.nodemask.proofs.Mask.ranked.Goals as goal

pub overflow_shl-out : goal.overflow_shl-out
overflow_shl-out c = let t = c.in-Some.ensures.steps in
    omega (arith, t.2, (lowest_is 64 c.loop-node.node-iterator.0 t.0 t.1).small)

pub loop-node-preserved : goal.loop-node-preserved
loop-node-preserved c = let t = c.in-Some.ensures.steps in
    let small : c.in-Some.node.0 < 64 = omega (arith, t.2, (lowest_is 64 c.loop-node.node-iterator.0 t.0 t.1).small) in
    let d = shl_exact {a = c.loop-node.bits % 2} 1 c.in-Some.node.0 64 (omega arith) (omega arith) in (
      or_lt 64 c.loop-node.out _ c.loop-node.invariant.0 (omega arith),
      λ n. ranked_more 64 c.loop-node.node-iterator.0 c.loop-node.bits c.loop-node.out n t.0 t.1 t.2 d t.3 refl ∙ c.loop-node.invariant.1 n,
    )

pub returns-in-None : goal.returns-in-None
unfolding ranked_in
returns-in-None c = ranked_all 64 _ _ _ _ _ c.loop-node.invariant.0 (inl c.in-None.ensures.steps.0) c.loop-node.invariant.1

pub returns-then-bits-eq0 : goal.returns-then-bits-eq0
unfolding ranked_in
returns-then-bits-eq0 c = ranked_all 64 _ _ _ _ _ c.loop-node.invariant.0 (inr c.if-bits-eq0.true) c.loop-node.invariant.1
