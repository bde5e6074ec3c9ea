-- `hints::drain_node` meets its contract: the drain with no table for the pairs.
-- Assumes nothing.
use mathlib.Core.Path.{sym, ap, ◌∙◌}
use mathlib.Core.List.{List}
use native.Mathlib.Omega.{arith}
use lib.ListN.{length}
use Rattle.rules.specs.Answers.{decision_of}
use Rattle.rules.specs.Decisions.{Decision, decided}
use Rattle.rules.specs.Calls.{Answer, drained, refused, Tables, tables_of}
use Rattle.rules.specs.Drain.{Move, drain_moves}
use Rattle.drain.proofs.Lent.{drained_few, drain_step}
use Rattle.book.proofs.Steps.{counted_moves, refused_moves}
use Rattle.book.proofs.hints.drain_node.Goals as goal
use Rattle.book.proofs.hints.drain_node.Goals.{After-drain_at}
use Rattle.std.proofs.lemmas.Result.{err_from_is_err_and}

-- and the answer to them
abbrev told : Decision (List Move) → Answer
told d = decided refused (λ vs. drained (length vs)) d

-- the tables of the call
abbrev tables : (c : After-drain_at) → Tables
tables c = tables_of c.args.pages.now c.args.jobs.now c.args.free.now c.args.maps.now

-- what the drain comes to
abbrev moves_by : (c : After-drain_at) → Decision (List Move)
moves_by c = drain_moves c.args.layout.counts.now c.args.distances.now c.args.node (tables c) c.args.room

pub overflow_cast-result : goal.overflow_cast-result
overflow_cast-result c = let at = (goal.at.overflow_cast-result c).After-drain_at in
    let m = counted_moves (moves_by at) (ap decision_of (sym c.in_ok-moves.was) ∙ c.drain_at.ensures.answer) in
    omega (arith, m.2, drained_few c.args.layout.counts.now c.args.distances.now c.args.node (tables at) c.args.room m.1)

pub returns : goal.returns
returns c = let at = (goal.at.returns c).After-drain_at in
    let w = c.drain_at.ensures in
    let m = counted_moves (moves_by at) (ap decision_of (sym c.in_ok-moves.was) ∙ w.answer) in record {
      did = drain_step c.args.layout.counts.now c.args.distances.now c.args.node (tables at) c.args.room (ap drained m.2 ∙ sym (ap told m.1))
          w.tables;
      kept = w.kept;
    }

pub returns-in_err-moves : goal.returns-in_err-moves
returns-in_err-moves c = let at = (goal.at.returns-in_err-moves c).After-drain_at in
    let w = c.drain_at.ensures in
    let m = refused_moves (moves_by at) (ap decision_of (sym c.in_err-moves.was) ∙ w.answer) in
    let exit = err_from_is_err_and c.from_residual.result c.from_residual.ensures.1 in
    rw (exit.1, exit.2) (record {
      did = drain_step c.args.layout.counts.now c.args.distances.now c.args.node (tables at) c.args.room (sym (ap told m)) w.tables;
      kept = w.kept;
    })
