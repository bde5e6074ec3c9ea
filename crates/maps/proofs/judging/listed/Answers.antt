-- `listed` meets its contract: a list is good if it is filled up to a good map with as many nodes.
-- Assumes nothing.
use mathlib.Core.Path.{sym, ◌∙◌}
use borrow.Author.Tests.{eq-eqb, ne_eqb}
use Rattle.maps.proofs.FilledUp.{filled_good, list_good, list_bad}
use Rattle.maps.proofs.judging.listed.Goals as goal

pub returns-in_err-judged : goal.returns-in_err-judged
returns-in_err-judged c = let bad = rw c.filled-bytes.ensures at c.in_err-judged.ensures in
    rw c.from_residual.ensures (sym (list_bad c.args.nodes c.args.list.now c.requires.1 bad))

pub returns-then-judged-list : goal.returns-then-judged-list
returns-then-judged-list c = let good = rw c.filled-bytes.ensures at c.in_ok-judged.ensures in
    sym (list_good c.args.nodes c.args.list.now c.requires.1 c.in_ok-judged.judged.len good.0 good.2) ∙ ne_eqb _ _ c.if-judged-list.true

pub returns : goal.returns
returns c = let good = rw c.filled-bytes.ensures at c.in_ok-judged.ensures in
    let all = sym (list_good c.args.nodes c.args.list.now c.requires.1 c.in_ok-judged.judged.len good.0 good.2) ∙ eq-eqb _ _ c.if-judged-list.false in
    (all, c.filled-bytes.ensures ∙ filled_good c.args.nodes c.args.list.now c.requires.1 all)
