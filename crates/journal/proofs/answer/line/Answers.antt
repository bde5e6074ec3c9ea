-- `line` writes the three numbers of an answer, the page in four bytes.
-- Assumes nothing.
use mathlib.Core.Path.{sym}
use Rattle.rules.specs.Records.{bytes_of}
use Rattle.rules.specs.Journal.{answer_bytes}
use Rattle.journal.proofs.Numbers.{bytes_le}
use Rattle.journal.proofs.answer.line.Goals as goal

pub returns : goal.returns
unfolding answer_bytes bytes_of
returns c = rw (sym c.from-n.ensures, c.to_le_bytes.ensures, bytes_le c.from-n.result.page)
