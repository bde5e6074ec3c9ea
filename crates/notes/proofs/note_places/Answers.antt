-- `note_places` meets its contract: the tests 1, 2 and 15, then those of the note.
-- Assumes nothing.
use Prim.Native.Nat.{ℕ}
use mathlib.Core.Path.{sym, ap, ◌∙◌}
use mathlib.Core.List.{List}
use Rattle.rules.specs.Maps.{nodes_in}
use Rattle.rules.specs.Notes.{strings}
use Rattle.rules.proofs.InOrder.{mapped_map}
use Rattle.rules.proofs.Kept.{mapped_nodes}
use Rattle.rules.proofs.Maps.{map_long}
use Rattle.notes.specs.Steps.{note_tests}
use Rattle.notes.specs.Lists.{number_of}
use Rattle.notes.proofs.Tests.{same_list, bad_tables_lem, bad_names, no_job_lem, bad_map_lem, good_map_lem}
use Rattle.notes.proofs.note_places.Goals as goal

pub table_ok-requires : goal.table_ok-requires
table_ok-requires c = (mapped_nodes _ _ _ (sym c.if-not-mapped_ok.ensures)).1

pub returns-then-not-mapped_ok : goal.returns-then-not-mapped_ok
returns-then-not-mapped_ok c = bad_tables_lem _ _ _ _ _ _ _ _ (sym c.if-not-mapped_ok.ensures)

pub returns-then-not-table_ok : goal.returns-then-not-table_ok
returns-then-not-table_ok c = bad_names _ _ _ _ _ _ _ _ (sym c.if-not-mapped_ok.ensures) (sym c.if-not-table_ok.ensures)

pub returns-then-not-has_job : goal.returns-then-not-has_job
returns-then-not-has_job c =
    no_job_lem _ _ _ _ _ _ _ _ (sym c.if-not-mapped_ok.ensures) (sym c.if-not-table_ok.ensures) (sym c.if-not-has_job.ensures)

pub of_job-map-requires : goal.of_job-map-requires
of_job-map-requires c = mapped_map c.args.nodes _ _ c.args.job (sym c.if-not-mapped_ok.ensures) (sym c.if-not-has_job.ensures)

pub judge-requires : goal.judge-requires
judge-requires c =
    let few = mapped_nodes _ _ _ (sym c.if-not-mapped_ok.ensures) in
    let there = mapped_map c.args.nodes _ _ c.args.job (sym c.if-not-mapped_ok.ensures) (sym c.if-not-has_job.ensures) in
    (few.0, few.1, rw c.of_job-map.ensures (map_long c.args.maps.now c.args.job there))

pub turn_note-requires : goal.turn_note-requires
turn_note-requires c =
    let few = mapped_nodes _ _ _ (sym c.if-not-mapped_ok.ensures) in
    let there = mapped_map c.args.nodes _ _ c.args.job (sym c.if-not-mapped_ok.ensures) (sym c.if-not-has_job.ensures) in
    (c.args.nodes, (few.1, rw c.of_job-map.ensures (map_long c.args.maps.now c.args.job there), c.in-Some.ensures.0, sym c.if-not-table_ok.ensures))

pub returns : goal.returns
returns c =
    c.turn_note.ensures
    ∙ ap (λ (bytes : List ℕ). note_tests (strings c.args.names.now) (nodes_in bytes) c.args.note.now (number_of c.from.result) c.args.out.now)
    c.of_job-map.ensures
    ∙ same_list _ _ _ _ _ _ c.from.ensures
    ∙ good_map_lem _ _ _ _ _ _ _ _ (sym c.if-not-mapped_ok.ensures) (sym c.if-not-table_ok.ensures) (sym c.if-not-has_job.ensures)
    (rw c.of_job-map.ensures at c.in-Some.ensures.0)

pub returns-in_default : goal.returns-in_default
returns-in_default c =
    bad_map_lem _ _ _ _ _ _ _ _ (sym c.if-not-mapped_ok.ensures) (sym c.if-not-table_ok.ensures) (sym c.if-not-has_job.ensures)
    (rw c.of_job-map.ensures at c.in_default.ensures)
