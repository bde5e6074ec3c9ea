-- `Ranks::wrapped` meets its contract. The loop's invariant: the set lies over itself, shifted by w, as often as the step counts.
-- Assumes nothing.
use Prim.Native.Nat.{◌+◌}
use mathlib.Core.Path.{ap, ◌∙◌}
use native.Mathlib.Nat.{add-mul}
use native.Mathlib.Omega.{arith}
use lib.Bits.{bit_and}
use Rattle.nodemask.specs.Ranks.{wrapped}
use Rattle.nodemask.proofs.RankLaws.{laid_twice, laid_all}
use Rattle.nodemask.proofs.Ranks.wrapped.Goals as goal

pub loop-step-preserved : goal.loop-step-preserved
loop-step-preserved c = let i = c.loop-step.invariant in
    (i.0 + i.0, omega (arith, add-mul i.0 i.0 c.args.w), omega arith, laid_twice c.args.w c.args.self.0 i.0 c.loop-step.laid c.loop-step.step i.1 i.3)

pub returns : goal.returns
unfolding wrapped
returns c = ap (bit_and c.loop-step.laid) c.low_bits.ensures
    ∙ laid_all 64 c.args.w c.args.self.0 c.loop-step.invariant.0 c.loop-step.laid c.requires.0 c.requires.1 (omega arith) (omega arith) c.loop-step.invariant.3
