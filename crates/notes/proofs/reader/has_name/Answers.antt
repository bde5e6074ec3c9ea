-- `has_name` meets its contract: a good note has as many names as its two counts say.
-- Assumes nothing.
use mathlib.Core.Path.{sym}
use native.Mathlib.Omega.{arith}
use Rattle.notes.proofs.Notes.{good_note, no_note, name_below}
use Rattle.notes.proofs.reader.has_name.Goals as goal

pub returns-then-not-note_ok : goal.returns-then-not-note_ok
returns-then-not-note_ok c = sym (no_note _ _ (sym c.if-not-note_ok.ensures))

pub number-requires : goal.number-requires
number-requires c = omega (arith, (good_note _ (sym c.if-not-note_ok.ensures)).long)

pub number-requires-2 : goal.number-requires-2
number-requires-2 c = omega (arith, (good_note _ (sym c.if-not-note_ok.ensures)).long)

pub returns : goal.returns
returns c = name_below _ _ _ _ (sym c.if-not-note_ok.ensures) c.number.ensures.number c.number-2.ensures.number
