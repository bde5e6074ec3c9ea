-- `note_ok` meets its contract: the tests are the definition's, the two lists by their counts.
-- Assumes nothing.
use mathlib.Core.Path.{sym, ap₂, ◌∙◌}
use mathlib.Core.Bool.{◌&&◌}
use native.Mathlib.Omega.{arith}
use Rattle.notes.proofs.Notes.{note_short, note_off, note_tested}
use Rattle.notes.proofs.reader.note_ok.Goals as goal

pub returns-then-note-lt-HEAD_BYTES : goal.returns-then-note-lt-HEAD_BYTES
returns-then-note-lt-HEAD_BYTES c = sym (note_short _ c.if-note-lt-HEAD_BYTES.true)

pub returns-then-note-end : goal.returns-then-note-end
returns-then-note-end c = sym
    (note_off _ c.number-middle.result c.number.result c.if-note-lt-HEAD_BYTES.false c.number-middle.ensures.number c.number.ensures.number
    (λ z. omega (arith, c.if-note-end.true, z)))

pub returns : goal.returns
returns c = ap₂ (λ x y. x && y) c.eq.ensures c.eq-2.ensures
    ∙ note_tested _ c.number-middle.result c.number.result c.number-text_count.result c.number-data_count.result c.count-texts.result c.count-datas.result
    c.if-note-lt-HEAD_BYTES.false c.number-middle.ensures.number c.number.ensures.number c.if-note-end.false
    c.number-text_count.ensures.number c.number-data_count.ensures.number c.count-texts.ensures c.count-datas.ensures
