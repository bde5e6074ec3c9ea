-- `journal` goes by the verdict on the machine record, and by the room that the answers need.
-- Assumes nothing.
use Prim.Native.Nat.{◌≤◌}
use mathlib.Core.Path.{◌≡◌, sym, ap, ◌∙◌}
use native.Mathlib.Omega.{arith}
use borrow.Author.Rules.{rules}
use lib.ListN.{length}
use Rattle.rules.specs.Answers.{number_of, decision_of}
use Rattle.rules.specs.Decisions.{refuse, accept}
use Rattle.rules.specs.Journal.{opening}
use Rattle.journal.proofs.MachineRecord.{good_opening}
use Rattle.journal.proofs.Whole.{counted_whole, too_short, answered, no_answer, one_answer}
use Rattle.journal.proofs.journal.Goals as goal

pub returns-then-output-answers_size : goal.returns-then-output-answers_size
returns-then-output-answers_size c =
    let good : opening c.args.input.now ≡ accept c.in-Ok.size = sym c.verdict-opened.ensures ∙ ap decision_of c.in-Ok.is in
    let needed = counted_whole c.args.input.now good c.answers_size.ensures in
    too_short _ _ (omega (arith, needed))

pub run_all-requires : goal.run_all-requires
run_all-requires c =
    let good : opening c.args.input.now ≡ accept c.in-Ok.size = sym c.verdict-opened.ensures ∙ ap decision_of c.in-Ok.is in
    let needed = counted_whole c.args.input.now good c.answers_size.ensures in
    (good, omega (arith, needed))

pub returns-else-output-answers_size : goal.returns-else-output-answers_size
returns-else-output-answers_size c =
    let good : opening c.args.input.now ≡ accept c.in-Ok.size = sym c.verdict-opened.ensures ∙ ap decision_of c.in-Ok.is in
    let needed = counted_whole c.args.input.now good c.answers_size.ensures in
    answered _ _ (omega (arith, needed)) c.run_all.ensures.0 c.run_all.ensures.1

pub returns-then-output-lt-ANSWER_SIZE : goal.returns-then-output-lt-ANSWER_SIZE
returns-then-output-lt-ANSWER_SIZE c =
    let bad : opening c.args.input.now ≡ refuse (number_of c.in-Err.why) = sym c.verdict-opened.ensures ∙ ap decision_of c.in-Err.is in
    no_answer _ _ bad c.if-output-lt-ANSWER_SIZE.true

pub returns-else-output-lt-ANSWER_SIZE : goal.returns-else-output-lt-ANSWER_SIZE
returns-else-output-lt-ANSWER_SIZE c =
    let bad : opening c.args.input.now ≡ refuse (number_of c.in-Err.why) = sym c.verdict-opened.ensures ∙ ap decision_of c.in-Err.is in
    one_answer _ _ bad c.if-output-lt-ANSWER_SIZE.false c.fault-fault.ensures c.copy.ensures.count c.copy.ensures.bytes

pub slice_bounds-answers_size-start : goal.slice_bounds-answers_size-start
slice_bounds-answers_size-start c =
    let good : opening c.args.input.now ≡ accept c.in-Ok.size = sym c.verdict-opened.ensures ∙ ap decision_of c.in-Ok.is in
    let g = good_opening c.args.input.now good in
    let inside : c.in-Ok.size ≤ length c.args.input.now = omega (arith, g.size, g.whole) in
    search rules

pub slice_bounds-answers_size-count : goal.slice_bounds-answers_size-count
slice_bounds-answers_size-count c =
    let good : opening c.args.input.now ≡ accept c.in-Ok.size = sym c.verdict-opened.ensures ∙ ap decision_of c.in-Ok.is in
    let g = good_opening c.args.input.now good in
    let inside : c.in-Ok.size ≤ length c.args.input.now = omega (arith, g.size, g.whole) in
    inside
