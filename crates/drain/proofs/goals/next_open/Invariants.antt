-- `goals::next_open` meets its contract.
-- Assumes nothing.
use Rattle.drain.specs.Goals.{AllShut}
use Rattle.drain.proofs.goals.next_open.Given as goal

abbrev pub invariant-loop-i : goal.invariant-loop-i
invariant-loop-i l = AllShut l.order l.free l.limit.0 l.from l.i
