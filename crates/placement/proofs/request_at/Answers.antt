-- `request_at` meets its contract: the tests, then the search.
-- Assumes nothing.
use mathlib.Core.Path.{◌≡◌}
use borrow.Author.Tests.{ltb-true}
use Rattle.std.proofs.lemmas.Result.{err_from_is_err_and}
use Rattle.rules.specs.Machine.{Machine}
use Rattle.rules.specs.Decisions.{accept}
use Rattle.rules.specs.Calls.{Tables, tables_of, admitted, limit_of}
use Rattle.records.specs.Jobs.{record_of}
use Rattle.machine.specs.Tables.{machine_of}
use Rattle.placement.proofs.Requests.{let_through, searchable, request_refused, request_served}
use Rattle.placement.proofs.request_at.Goals as goal
use Rattle.placement.proofs.request_at.Goals.{After-admit, In_ok-admitted}

-- the machine and the tables of the call
abbrev machine : (c : After-admit) → Machine
machine c = machine_of c.args.layout.counts.now c.args.cpus.now c.args.distances.now

abbrev tables : (c : After-admit) → Tables
tables c = tables_of c.args.pages.now c.args.jobs.now c.args.free.now c.args.maps.now

-- the tests pass, with the record and the limit of the job
passed : (c : In_ok-admitted) → let at = (goal.at.In_ok-admitted c).After-admit in
    accept (record_of c.in_ok-admitted.admitted.record) ≡ admitted (machine at) (tables at) c.args.job c.args.cpu
passed c = c.in_ok-admitted.ensures.tested

limited : (c : In_ok-admitted) → c.in_ok-admitted.admitted.limit.0 ≡ limit_of (tables (goal.at.In_ok-admitted c).After-admit) c.args.job
limited c = c.in_ok-admitted.ensures.limit

pub serve-requires : goal.serve-requires
unfolding record_of
serve-requires c = let at = (goal.at.serve-requires c).After-admit in
    let ok = (goal.at.serve-requires c).In_ok-admitted in
    searchable (machine at) (tables at) c.args.job c.args.cpu (limited ok) (let_through _ _ _ _ (passed ok)) c.args.layout.begin c.requires.1

-- the search serves
pub returns : goal.returns
unfolding record_of
returns c = let at = (goal.at.returns c).After-admit in
    let ok = (goal.at.returns c).In_ok-admitted in
    record {
      did = request_served (machine at) (tables at) c.args.job c.args.cpu (passed ok) (limited ok) (c.serve.ensures.did c.args.maps.now);
      found = c.serve.ensures.found;
    }

-- a test refuses
pub returns-in_err-admitted : goal.returns-in_err-admitted
returns-in_err-admitted c = let at = (goal.at.returns-in_err-admitted c).After-admit in
    let exit = err_from_is_err_and c.from_residual.result c.from_residual.ensures.1 in
    rw (exit.1, exit.2) (record {
      did = request_refused (machine at) (tables at) c.args.job c.args.cpu c.in_err-admitted.ensures.tested;
      found = tt;
    })

pub bounds-cpus-cpu : goal.bounds-cpus-cpu
bounds-cpus-cpu c = ltb-true _ _ (let_through _ _ _ _ (passed (goal.at.bounds-cpus-cpu c).In_ok-admitted)).0.cpu
