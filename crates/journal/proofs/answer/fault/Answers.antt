-- `fault` is the answer of a refusal, with kind FF.
-- Assumes nothing.
use Rattle.rules.specs.Journal.{faulty}
use Rattle.journal.proofs.answer.fault.Goals as goal

pub returns : goal.returns
unfolding faulty
returns c = c.line.ensures
