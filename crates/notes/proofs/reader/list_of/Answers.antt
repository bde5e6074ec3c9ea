-- `list_of` is the part of the note that the sizes say.
-- Assumes nothing.
use native.Mathlib.Omega.{arith}
use mathlib.Core.Path.{ap}
use Rattle.notes.specs.Lists.{number_of}
use Rattle.notes.proofs.Notes.{good_note, text_list, data_list}
use Rattle.notes.proofs.reader.list_of.Goals as goal

pub number-middle-requires : goal.number-middle-requires
number-middle-requires c = omega (arith, (good_note _ c.requires).long)

pub slice_bounds-result-end : goal.slice_bounds-result-end
slice_bounds-result-end c = omega (arith, c.number-middle.ensures.number, (good_note _ c.requires).exact)

pub returns-in-Text : goal.returns-in-Text
returns-in-Text c = text_list _ _ _ c.number-middle.ensures.number (ap number_of c.in-Text.is)

pub slice_bounds-result-count-in-Data : goal.slice_bounds-result-count-in-Data
slice_bounds-result-count-in-Data c = omega (arith, c.number-middle.ensures.number, (good_note _ c.requires).exact)

pub slice_bounds-result-start-in-Data : goal.slice_bounds-result-start-in-Data
slice_bounds-result-start-in-Data c = omega (arith, c.number-middle.ensures.number, (good_note _ c.requires).exact)

pub returns-in-Data : goal.returns-in-Data
returns-in-Data c = data_list _ _ _ c.number-middle.ensures.number c.requires (λ z. omega (arith, z, ap number_of c.in-Data.is))
