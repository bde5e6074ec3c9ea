-- `answer_word` meets its contract.
-- Assumes nothing.
use mathlib.Core.Path.{ap}
use Rattle.replay.specs.Encoding.{packed, answer_word}
use Rattle.replay.proofs.encoding.answer_word.Goals as goal

pub returns : goal.returns
unfolding answer_word
returns c = ap packed c.from-told.ensures
