-- `replay` meets its contract: the tests in their order, then the calls.
-- Assumes nothing.
use mathlib.Core.Path.{◌≡◌, sym, ◌∙◌}
use mathlib.Core.Bool.{true}
use native.Mathlib.Omega.{arith}
use Rattle.rules.specs.Machine.{Machine, machine_ok}
use Rattle.rules.specs.Calls.{Tables, tables_of, request_tables_ok}
use Rattle.machine.specs.Tables.{machine_of}
use Rattle.rules.proofs.Machine.{in_order}
use Rattle.placement.proofs.InOrder.{request_tested, request_untested}
use Rattle.replay.specs.Encoding.{calls_ok}
use Rattle.replay.proofs.Run.{tables_refused, calls_refused, room_refused, stopped, fair_and_owned}
use Rattle.replay.proofs.replay.Goals as goal
use Rattle.replay.proofs.replay.Goals.{After-machine_ok, Else-not-machine_ok, After-lent_ok, Else-not-lent_ok}

-- the machine and the tables of the call
abbrev machine : (c : After-machine_ok) → Machine
machine c = machine_of c.args.counts.now c.args.cpus.now c.args.distances.now

abbrev tables : (c : After-machine_ok) → Tables
tables c = tables_of c.args.pages.now c.args.jobs.now c.args.free.now c.args.maps.now

-- the machine is in order
good_machine : (c : Else-not-machine_ok) → machine_ok (machine (goal.at.Else-not-machine_ok c).After-machine_ok) ≡ true
good_machine c = sym c.machine_ok.ensures ∙ c.if-not-machine_ok.false

-- the tables are tested
tested : (c : After-lent_ok) → let at = (goal.at.After-lent_ok c).After-machine_ok in c.lent_ok.result ≡ request_tables_ok (machine at) (tables at)
tested c = let at = (goal.at.After-lent_ok c).After-machine_ok in
    c.lent_ok.ensures ∙ request_tested (machine at) (tables at) c.pages_end-total.ensures (good_machine (goal.at.After-lent_ok c).Else-not-machine_ok)

-- and in order
good_tables : (c : Else-not-lent_ok) → let at = (goal.at.Else-not-lent_ok c).After-machine_ok in request_tables_ok (machine at) (tables at) ≡ true
good_tables c = sym (tested (goal.at.Else-not-lent_ok c).After-lent_ok) ∙ c.if-not-lent_ok.false

-- the machine breaks the rules
pub returns-then-not-machine_ok : goal.returns-then-not-machine_ok
returns-then-not-machine_ok c = let at = (goal.at.returns-then-not-machine_ok c).After-machine_ok in
    let bad = request_untested (machine at) (tables at) (sym c.machine_ok.ensures ∙ c.if-not-machine_ok.true) in
    let both = fair_and_owned (machine at) (tables at) c.args.calls.now c.args.answers.now _ _ _
    (stopped (machine at) (tables at) c.args.calls.now c.args.answers.now 1 (tables_refused (machine at) (tables at) c.args.calls.now _ bad)) in
    record { ran = both.0; fair = both.1.0; ledger = both.1.1 }

pub starts_of-starts-requires : goal.starts_of-starts-requires
starts_of-starts-requires c = let i = (in_order _ (good_machine (goal.at.starts_of-starts-requires c).Else-not-machine_ok)).counts in
    (i.nodes_most, i.pages_most)

pub pages_end-total-requires : goal.pages_end-total-requires
pages_end-total-requires c = let i = (in_order _ (good_machine (goal.at.pages_end-total-requires c).Else-not-machine_ok)).counts in
    (i.nodes_most, i.pages_most, c.starts_of-starts.ensures)

-- the page table, the free counts, the job table or the maps do
pub returns-then-not-lent_ok : goal.returns-then-not-lent_ok
returns-then-not-lent_ok c = let at = (goal.at.returns-then-not-lent_ok c).After-machine_ok in
    let bad = sym (tested (goal.at.returns-then-not-lent_ok c).After-lent_ok) ∙ c.if-not-lent_ok.true in
    let both = fair_and_owned (machine at) (tables at) c.args.calls.now c.args.answers.now _ _ _
    (stopped (machine at) (tables at) c.args.calls.now c.args.answers.now 1 (tables_refused (machine at) (tables at) c.args.calls.now _ bad)) in
    record { ran = both.0; fair = both.1.0; ledger = both.1.1 }

-- the list of calls is damaged
pub returns-then-not-calls_ok : goal.returns-then-not-calls_ok
returns-then-not-calls_ok c = let at = (goal.at.returns-then-not-calls_ok c).After-machine_ok in
    let bad = sym c.calls_ok.ensures ∙ c.if-not-calls_ok.true in
    let both = fair_and_owned (machine at) (tables at) c.args.calls.now c.args.answers.now _ _ _
    (stopped (machine at) (tables at) c.args.calls.now c.args.answers.now 13
    (calls_refused (machine at) (tables at) c.args.calls.now _ (good_tables (goal.at.returns-then-not-calls_ok c).Else-not-lent_ok) bad)) in
    record { ran = both.0; fair = both.1.0; ledger = both.1.1 }

-- there is no room for the answers
pub returns-then-answers-calls : goal.returns-then-answers-calls
returns-then-answers-calls c = let at = (goal.at.returns-then-answers-calls c).After-machine_ok in
    let calls-ok : calls_ok c.args.calls.now ≡ true = sym c.calls_ok.ensures ∙ c.if-not-calls_ok.false in
    let both = fair_and_owned (machine at) (tables at) c.args.calls.now c.args.answers.now _ _ _
    (stopped (machine at) (tables at) c.args.calls.now c.args.answers.now 11
    (room_refused (machine at) (tables at) c.args.calls.now _ (good_tables (goal.at.returns-then-answers-calls c).Else-not-lent_ok)
    calls-ok c.if-answers-calls.true)) in
    record { ran = both.0; fair = both.1.0; ledger = both.1.1 }

pub run_calls-requires : goal.run_calls-requires
run_calls-requires c = (
  good_tables (goal.at.run_calls-requires c).Else-not-lent_ok,
  sym c.calls_ok.ensures ∙ c.if-not-calls_ok.false,
  omega (arith, c.if-answers-calls.false),
)

-- all calls ran
pub returns : goal.returns
returns c = let at = (goal.at.returns c).After-machine_ok in
    let both = fair_and_owned (machine at) (tables at) c.args.calls.now c.args.answers.now _ _ _ c.run_calls.ensures in
    record { ran = both.0; fair = both.1.0; ledger = both.1.1 }
