-- `put_number` meets its contract: the first four bytes of the number.
-- Assumes nothing.
use Rattle.std.proofs.Common.{ap, take, ◌∙◌}
use Rattle.std.proofs.lemmas.List.Edits.{sets}
use Rattle.notes.proofs.Placing.{first_four}
use Rattle.notes.proofs.writer.put_number.Goals as goal

pub returns : goal.returns
returns c = c.put_bytes.ensures ∙ ap (λ bytes. sets c.args.out.now c.args.at bytes) (ap (take 4) c.to_le_bytes.ensures ∙ first_four c.args.n)
