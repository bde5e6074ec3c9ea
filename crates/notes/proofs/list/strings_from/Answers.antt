-- `strings_from` meets its contract: a string and its zero are passed at a time.
-- Assumes nothing.
use Rattle.std.proofs.Common.{arith}
use Rattle.notes.proofs.Starts.{passed_last, passed_all, passed_next}
use Rattle.notes.proofs.list.strings_from.Goals as goal

pub loop-passed-preserved : goal.loop-passed-preserved
loop-passed-preserved c = passed_next _ _ _ _ c.loop-passed.invariant _ _ _ (omega (arith, c.loop-passed-test.true)) c.in-Some.ensures

pub returns-in_default : goal.returns-in_default
returns-in_default c = let both = passed_last _ _ _ _ c.loop-passed.invariant c.in_default.ensures in
    record { rest = both.0; within = both.1 }

pub returns : goal.returns
returns c = let both = passed_all _ _ _ _ c.loop-passed.invariant (omega (arith, c.loop-passed-test.false)) in
    record { rest = both.0; within = both.1 }
