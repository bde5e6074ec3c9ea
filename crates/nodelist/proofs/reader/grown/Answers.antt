-- `grown` meets its contract, by its test.
-- Assumes nothing.
use borrow.Author.Tests.{eq-eqb, ne_eqb}
use Rattle.nodelist.specs.Reader.{grown}
use Rattle.nodelist.proofs.reader.grown.Goals as goal

pub returns-then-value-eq0 : goal.returns-then-value-eq0
unfolding grown
returns-then-value-eq0 c = rw (eq-eqb _ 0 c.if-value-eq0.true)

pub returns : goal.returns
unfolding grown
returns c = rw (ne_eqb _ 0 c.if-value-eq0.false)
