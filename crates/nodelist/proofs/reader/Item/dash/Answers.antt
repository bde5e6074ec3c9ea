-- `Item::dash` meets its contract, case by case.
-- Assumes nothing.
use Rattle.std.proofs.Common.{inl, inr}
use Rattle.nodelist.specs.Reader.{with_dash}
use Rattle.nodelist.proofs.reader.Item.dash.Goals as goal

pub returns-in-Number : goal.returns-in-Number
unfolding with_dash
returns-in-Number c = rw c.in-Number.is

pub returns-in-Empty : goal.returns-in-Empty
unfolding with_dash
returns-in-Empty c = elim c.in-Empty.is [ inl e ↦ rw e | inr (inl (_, e)) ↦ rw e | inr (inr (inl (_, _, e))) ↦ rw e | inr (inr (inr e)) ↦ rw e ]
