-- `answers_size` counts an answer for each record, and one for damage.
-- Assumes nothing.
use native.Mathlib.Omega.{arith}
use borrow.Author.Rules.{rules}
use Rattle.journal.proofs.BookRun.{counted_all, counted_good, counted_damaged}
use Rattle.journal.proofs.run.answers_size.Goals as goal

pub returns-in-None : goal.returns-in-None
returns-in-None c = counted_damaged c.loop-at.invariant c.read_record.ensures c.in-None.is c.loop-at-test.true

pub overflow_add-at : goal.overflow_add-at
overflow_add-at c = let next = counted_good c.loop-at.invariant c.read_record.ensures c.in-Some.is in search rules

pub loop-at-smaller : goal.loop-at-smaller
loop-at-smaller c = let next = counted_good c.loop-at.invariant c.read_record.ensures c.in-Some.is in omega (arith, next.0.within)

pub loop-at-preserved : goal.loop-at-preserved
loop-at-preserved c = (counted_good c.loop-at.invariant c.read_record.ensures c.in-Some.is).0

pub returns : goal.returns
returns c = counted_all c.loop-at.invariant c.loop-at-test.false
