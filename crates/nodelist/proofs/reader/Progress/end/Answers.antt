-- `Progress::end` meets its contract, by what closing leaves.
-- Assumes nothing.
use Rattle.std.proofs.Common.{inl, inr}
use Rattle.nodelist.specs.Reader.{ended}
use Rattle.nodelist.proofs.reader.Progress.end.Goals as goal

pub returns-in-Empty : goal.returns-in-Empty
unfolding ended
returns-in-Empty c = rw (← c.close-item.ensures, c.in-Empty.is)

pub returns-in-Number : goal.returns-in-Number
unfolding ended
returns-in-Number c = rw (← c.close-item.ensures)
    (elim c.in-Number.is [ inl (_, e) ↦ rw e | inr (inl (_, e)) ↦ rw e | inr (inr (inl (_, _, e))) ↦ rw e | inr (inr (inr e)) ↦ rw e ])
