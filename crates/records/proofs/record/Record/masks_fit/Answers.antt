-- `Record::masks_fit` tests user and effective mask.
-- Assumes nothing.
use mathlib.Core.Path.{sym, ◌∙◌}
use Rattle.rules.specs.Records.{masks_fit}
use Rattle.records.specs.Jobs.{record_of}
use Rattle.records.proofs.record.Record.masks_fit.Goals as goal

pub returns-then-is_empty : goal.returns-then-is_empty
unfolding masks_fit record_of
returns-then-is_empty c = rw (sym c.is_empty.ensures ∙ c.if-is_empty.true, c.no_masks.ensures)

pub returns : goal.returns
unfolding masks_fit record_of
returns c = rw (sym c.is_empty.ensures ∙ c.if-is_empty.false, c.effective_fits.ensures)
