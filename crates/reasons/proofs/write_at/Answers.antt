-- `write_at` meets its contract: the request's tests, 11, then the reasons.
-- Assumes nothing.
use mathlib.Core.Path.{◌≡◌}
use borrow.Author.Tests.{ltb-true}
use Rattle.rules.specs.Machine.{Machine}
use Rattle.rules.specs.Decisions.{accept}
use Rattle.rules.specs.Calls.{Tables, tables_of, admitted, limit_of}
use Rattle.records.specs.Jobs.{record_of}
use Rattle.machine.specs.Tables.{machine_of}
use Rattle.placement.proofs.Requests.{let_through}
use Rattle.reasons.proofs.Explains.{explainable, not_admitted, too_short, long_enough}
use Rattle.std.proofs.lemmas.Result.{err_from_is_err_and}
use Rattle.reasons.proofs.write_at.Goals as goal
use Rattle.reasons.proofs.write_at.Goals.{After-admit, In_ok-admitted}

-- the machine and the tables of the call
abbrev machine : (c : After-admit) → Machine
machine c = machine_of c.args.layout.counts.now c.args.cpus.now c.args.distances.now

abbrev tables : (c : After-admit) → Tables
tables c = tables_of c.args.pages.now c.args.jobs.now c.args.free.now c.args.maps.now

-- a test refuses
pub returns-in_err-admitted : goal.returns-in_err-admitted
returns-in_err-admitted c = let at = (goal.at.returns-in_err-admitted c).After-admit in
    let exit = err_from_is_err_and c.from_residual.result c.from_residual.ensures.1 in
    rw (exit.1, exit.2) (not_admitted (machine at) (tables at) c.args.job c.args.cpu c.args.out.now (rw c.in_err-admitted.was at c.admit.ensures.tested))

-- the tests pass, with the record and the limit of the job
passed : (c : In_ok-admitted) → accept (record_of c.in_ok-admitted.admitted.record)
    ≡ admitted (machine (goal.at.In_ok-admitted c).After-admit) (tables (goal.at.In_ok-admitted c).After-admit) c.args.job c.args.cpu
passed c = rw c.in_ok-admitted.was at c.admit.ensures.tested

limited : (c : In_ok-admitted) → c.in_ok-admitted.admitted.limit.0 ≡ limit_of (tables (goal.at.In_ok-admitted c).After-admit) c.args.job
limited c = rw c.in_ok-admitted.was at c.admit.ensures.limit

-- there is too little room
pub returns-then-out-counts : goal.returns-then-out-counts
unfolding record_of
returns-then-out-counts c = let at = (goal.at.returns-then-out-counts c).After-admit in
    too_short (machine at) (tables at) c.args.job c.args.cpu c.args.out.now (passed (goal.at.returns-then-out-counts c).In_ok-admitted) c.if-out-counts.true

pub bounds-cpus-cpu : goal.bounds-cpus-cpu
bounds-cpus-cpu c = ltb-true _ _ (let_through _ _ _ _ (passed (goal.at.bounds-cpus-cpu c).In_ok-admitted)).0.cpu

pub explain-requires : goal.explain-requires
unfolding record_of
explain-requires c = let at = (goal.at.explain-requires c).After-admit in
    let ok = (goal.at.explain-requires c).In_ok-admitted in
    (explainable (machine at) (tables at) c.args.job c.args.cpu (limited ok) (passed ok) c.args.layout.begin, c.if-out-counts.false)

-- the reasons
pub returns : goal.returns
unfolding record_of
returns c = let at = (goal.at.returns c).After-admit in
    let ok = (goal.at.returns c).In_ok-admitted in
    long_enough (machine at) (tables at) c.args.job c.args.cpu c.args.out.now (passed ok) (limited ok) c.if-out-counts.false c.explain.ensures
