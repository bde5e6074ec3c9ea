-- `Item::byte` meets its contract, by its tests.
-- Assumes nothing.
use borrow.Author.Tests.{eq-eqb, ne_eqb, le-leb, lt-leb}
use Rattle.nodelist.specs.Reader.{with_byte}
use Rattle.nodelist.proofs.reader.Item.byte.Goals as goal

pub returns-then-x-eq45 : goal.returns-then-x-eq45
unfolding with_byte
returns-then-x-eq45 c = rw (eq-eqb _ 45 c.if-x-eq45.true, c.dash.ensures)

pub returns-then-x-lt48 : goal.returns-then-x-lt48
unfolding with_byte
returns-then-x-lt48 c = rw (ne_eqb _ 45 c.if-x-eq45.false, lt-leb 48 _ c.if-x-lt48.true)

pub returns-then-x-gt57 : goal.returns-then-x-gt57
unfolding with_byte
returns-then-x-gt57 c = rw (ne_eqb _ 45 c.if-x-eq45.false, le-leb 48 _ c.if-x-lt48.false, lt-leb _ 57 c.if-x-gt57.true)

pub returns : goal.returns
unfolding with_byte
returns c = rw (ne_eqb _ 45 c.if-x-eq45.false, le-leb 48 _ c.if-x-lt48.false, le-leb _ 57 c.if-x-gt57.false, c.digit.ensures)
