-- `Record::data_fits` tests what the mode carries.
-- Assumes nothing.
use mathlib.Core.Path.{sym, ap, ◌∙◌}
use mathlib.Core.Logic.{⊎_elim}
use Rattle.rules.specs.Records.{Row, row_of, data_fits}
use Rattle.records.specs.Jobs.{holds_in, record_of}
use Rattle.rules.proofs.WellFormed.{mask_mode}
use Rattle.records.proofs.record.Record.data_fits.Goals as goal

pub masks_fit-requires : goal.masks_fit-requires
masks_fit-requires c = let masked = ap (λ (r : Row). r.holds) (sym c.of.ensures) ∙ ap holds_in c.in-AMask.is in
    ⊎_elim (λ z. absurd (mask_mode c.args.self.mode masked z)) (λ p. p) c.requires

pub returns-in-Nothing : goal.returns-in-Nothing
unfolding row_of data_fits record_of
returns-in-Nothing c = rw (sym c.of.ensures, c.in-Nothing.is, c.no_masks.ensures)

pub returns-in-AMask : goal.returns-in-AMask
unfolding row_of data_fits record_of
returns-in-AMask c = rw (sym c.of.ensures, c.in-AMask.is, c.masks_fit.ensures)

pub returns-in-AList : goal.returns-in-AList
unfolding row_of data_fits record_of
returns-in-AList c = rw (sym c.of.ensures, c.in-AList.is, c.no_masks-in-AList.ensures)

pub returns-in-Unknown : goal.returns-in-Unknown
unfolding row_of data_fits record_of
returns-in-Unknown c = rw (sym c.of.ensures, c.in-Unknown.is)
