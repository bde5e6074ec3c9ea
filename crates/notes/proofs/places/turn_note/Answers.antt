-- `turn_note` meets its contract: test 16, then the places of the list.
-- Assumes nothing.
use mathlib.Core.Path.{sym, ap, ◌∙◌}
use mathlib.Core.List.{List}
use Prim.Native.Nat.{ℕ}
use Rattle.rules.specs.Decisions.{written}
use Rattle.rules.specs.Maps.{nodes_in}
use Rattle.rules.specs.Notes.{strings, places_in}
use Rattle.notes.specs.Lists.{number_of}
use Rattle.notes.proofs.GoodLists.{good_list}
use Rattle.notes.proofs.Tests.{note_list, bad_note, note_turned}
use Rattle.notes.proofs.places.turn_note.Goals as goal

pub returns-then-not-note_ok : goal.returns-then-not-note_ok
returns-then-not-note_ok c = bad_note _ _ _ _ _ (sym c.if-not-note_ok.ensures)

pub turn_list-requires : goal.turn_list-requires
turn_list-requires c = (c.requires, rw c.list_of-list.ensures (good_list _ (note_list _ (number_of c.args.which) (sym c.if-not-note_ok.ensures))).most)

pub returns : goal.returns
returns c =
    c.turn_list.ensures
    ∙ ap (λ (list : List ℕ). written c.args.out.now (places_in (strings c.args.table.now) (nodes_in c.args.map.now) (strings list))) c.list_of-list.ensures
    ∙ note_turned _ _ _ _ _ (sym c.if-not-note_ok.ensures)
