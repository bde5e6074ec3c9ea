-- `Progress::step` meets its contract, by its test.
-- Assumes nothing.
use borrow.Author.Tests.{eq-eqb, ne_eqb}
use Rattle.nodelist.specs.Reader.{stepped}
use Rattle.nodelist.proofs.reader.Progress.step.Goals as goal

pub returns-then-x-eq44 : goal.returns-then-x-eq44
unfolding stepped
returns-then-x-eq44 c = rw (c.close.ensures, eq-eqb _ 44 c.if-x-eq44.true)

pub returns : goal.returns
unfolding stepped
returns c = rw (c.byte.ensures, ne_eqb _ 44 c.if-x-eq44.false)
