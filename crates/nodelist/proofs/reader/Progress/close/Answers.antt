-- `Progress::close` meets its contract, case by case.
-- Assumes nothing.
use Rattle.std.specs.Prelude.{ℕ}
use Rattle.std.proofs.Common.{ap, inl, inr}
use Rattle.nodelist.specs.declared.reader.Item.TheVariants.{Empty}
use Rattle.nodelist.specs.Reader.{progress, closed}
use borrow.Author.Tests.{le-leb, lt-leb}
use Rattle.nodelist.proofs.reader.Progress.close.Goals as goal

pub returns-in-Number : goal.returns-in-Number
unfolding closed
returns-in-Number c = rw c.in-Number.is (ap (λ (x : ℕ). progress (record { 0 = x }) Empty) c.with_span.ensures)

pub returns-then-low-high : goal.returns-then-low-high
unfolding closed
returns-then-low-high c = rw (c.in-Range.is, le-leb _ _ c.if-low-high.true)
    (ap (λ (x : ℕ). progress (record { 0 = x }) Empty) c.with_span-then-low-high.ensures)

pub returns-else-low-high : goal.returns-else-low-high
unfolding closed
returns-else-low-high c = rw (c.in-Range.is, lt-leb _ _ c.if-low-high.false)

pub returns-in-Empty : goal.returns-in-Empty
unfolding closed
returns-in-Empty c = elim c.in-Empty.is [ inl e ↦ rw e | inr (inl (_, e)) ↦ rw e | inr (inr e) ↦ rw e ]
