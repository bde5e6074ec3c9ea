-- `count_names` meets its contract: the strings passed are names, and the list is good if the rest of it is.
-- Assumes nothing.
use Rattle.std.proofs.Common.{arith, sym}
use borrow.Author.Tests.{eqb-true, eqb-false}
use Rattle.notes.proofs.Counts.{counted_start, counted_open, counted_end, counted_full, counted_bad, counted_next}
use Rattle.notes.proofs.list.count_names.Goals as goal

pub loop-word-init : goal.loop-word-init
loop-word-init c = counted_start _

pub returns-then-full : goal.returns-then-full
returns-then-full c = counted_full _ _ _ _ _ c.loop-word.invariant c.in-Some.ensures (omega (arith, c.if-full.true))

pub returns-then-not-name_ok : goal.returns-then-not-name_ok
returns-then-not-name_ok c = counted_bad _ _ _ _ _ c.loop-word.invariant c.in-Some.ensures _ (sym c.is_empty-last.ensures) (sym c.if-not-name_ok.ensures)

pub loop-word-preserved : goal.loop-word-preserved
loop-word-preserved c =
    counted_next _ _ _ _ _ c.loop-word.invariant c.in-Some.ensures (omega (arith, c.if-full.false)) _
    (sym c.is_empty-last.ensures) (sym c.if-not-name_ok.ensures)

pub returns-then-not-is_empty : goal.returns-then-not-is_empty
returns-then-not-is_empty c = counted_open _ _ _ c.loop-word.invariant c.in_default.ensures (eqb-false _ _ (sym c.if-not-is_empty.ensures))

pub returns : goal.returns
returns c = counted_end _ _ _ c.loop-word.invariant c.in_default.ensures (eqb-true _ _ (sym c.if-not-is_empty.ensures))
