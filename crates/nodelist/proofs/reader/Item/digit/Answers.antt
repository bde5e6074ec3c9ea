-- `Item::digit` meets its contract, case by case.
-- Assumes nothing.
use Rattle.nodelist.specs.Reader.{with_digit}
use Rattle.nodelist.proofs.reader.Item.digit.Goals as goal

pub returns-in-Empty : goal.returns-in-Empty
unfolding with_digit
returns-in-Empty c = rw (c.number.ensures, c.in-Empty.is)

pub returns-in-Number : goal.returns-in-Number
unfolding with_digit
returns-in-Number c = rw (c.number-in-Number.ensures, c.grown.ensures, c.in-Number.is)

pub returns-in-Dashed : goal.returns-in-Dashed
unfolding with_digit
returns-in-Dashed c = rw (c.range.ensures, c.in-Dashed.is)

pub returns-in-Range : goal.returns-in-Range
unfolding with_digit
returns-in-Range c = rw (c.range-in-Range.ensures, c.grown-in-Range.ensures, c.in-Range.is)

pub returns-in-Broken : goal.returns-in-Broken
unfolding with_digit
returns-in-Broken c = rw c.in-Broken.is
