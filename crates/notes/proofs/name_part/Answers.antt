-- `name_part` meets its contract: the k-th string behind the four numbers is the k-th name, and ends at the first zero from its start on.
-- Assumes nothing.
use Rattle.std.proofs.Common.{arith, sym}
use Rattle.notes.proofs.Notes.{good_note, no_name, name_there, name_found}
use Rattle.notes.proofs.Words.{rest_is}
use Rattle.notes.proofs.name_part.Goals as goal

pub returns-then-not-has_name-clause-part : goal.returns-then-not-has_name-clause-part
returns-then-not-has_name-clause-part c = no_name _ _ (sym c.if-not-has_name.ensures)

pub slice_bounds-strings_from-count : goal.slice_bounds-strings_from-count
slice_bounds-strings_from-count c = omega (arith, (good_note _ (name_there _ _ (sym c.if-not-has_name.ensures)).0).long)

pub slice_bounds-strings_from-start : goal.slice_bounds-strings_from-start
slice_bounds-strings_from-start c = omega (arith, (good_note _ (name_there _ _ (sym c.if-not-has_name.ensures)).0).long)

pub returns-clause-part : goal.returns-clause-part
returns-clause-part c = let names = c.strings_from-names.ensures in
    name_found _ _ (sym c.if-not-has_name.ensures) _ _ _ (rest_is c.args.note.now 16) names.rest names.within c.end_of-len.ensures.end
