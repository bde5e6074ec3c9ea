-- `counting::counts_match` meets its contract.
-- Assumes nothing.
use mathlib.Core.Path.{sym, ◌∙◌}
use native.Mathlib.Omega.{arith}
use Rattle.drain.proofs.Matching.{match_all, match_not}
use Rattle.drain.proofs.counting.counts_match.Goals as goal

-- a count is wrong
pub returns-then-count-free_of : goal.returns-then-count-free_of
returns-then-count-free_of c = sym (match_not c.args.layout.counts.now c.args.pages.now c.args.free.now c.loop-node.node
    (λ e. c.if-count-free_of.true (e ∙ sym c.free_of.ensures)))

-- all are right
pub returns : goal.returns
returns c = sym (match_all c.args.layout.counts.now c.args.pages.now c.args.free.now c.requires.1
    (λ k h. c.loop-node.invariant k (omega (arith, c.loop-node-test.false, c.requires.1))))
