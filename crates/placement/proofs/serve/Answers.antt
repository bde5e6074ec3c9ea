-- `serve` meets its contract: the search of the job's order, then the grant by the node that it chooses.
-- Assumes nothing.
use Prim.Native.Nat.{ℕ}
use mathlib.Core.Path.{◌≡◌, sym, ap}
use mathlib.Core.List.{List}
use mathlib.Core.Option.{Option}
use lib.ListN.{length}
use Rattle.std.proofs.lemmas.Result.{err_from_is_err_and}
use Rattle.rules.specs.SearchOrder.{Try, order, plan, chosen}
use Rattle.rules.specs.Calls.{Tables, tables_of, Outcome, applied, serve}
use Rattle.rules.specs.declared.Refusal.TheVariants.{NoRoom}
use Rattle.records.specs.Jobs.{job_of, record_of}
use Rattle.placement.specs.Searches.{chosen_by}
use Rattle.placement.proofs.Grants.{chose}
use Rattle.placement.proofs.serve.Goals as goal
use Rattle.placement.proofs.serve.Goals.{After-search-found}

-- the order of the job's search
abbrev tries : (c : After-search-found) → List Try
tries c = order (length c.args.layout.counts.now) c.args.distances.now c.args.limit.0
    (plan c.args.limit.0 (record_of c.args.loaded) c.args.x.0)

-- what it finds there
found : (c : After-search-found) → chosen_by c.search-found.result ≡ chosen c.args.free.now (tries c)
found c = let decoded : job_of c.job-decoded.result ≡ record_of c.args.loaded = c.job-decoded.ensures _ c.requires.3.plannable.formed in
    rw (sym c.requires.2, ← decoded) c.search-found.ensures

pub grant_node-requires : goal.grant_node-requires
grant_node-requires c = let at = (goal.at.grant_node-requires c).After-search-found in
    (c.requires.0, c.requires.1, chose _ _ (tries at) _ c.requires.2 (rw c.in_ok-chosen.ensures.ok_part at (found at)), c.requires.4)

-- none is
pub returns-in_err-chosen : goal.returns-in_err-chosen
unfolding applied serve
returns-in_err-chosen c = let place = (goal.at.returns-in_err-chosen c).After-search-found in
    let tables : List ℕ → Tables = λ maps. tables_of c.args.pages.now c.args.jobs.now c.args.free.now maps in
    let by : List ℕ → Option Try → Outcome = λ maps o. applied (tables maps) (serve c.args.layout.counts.now (tables maps) c.args.job o) in
    let none = c.in_err-chosen.ensures.ok_part in
    let told = rw none at c.in_err-chosen.ensures.value in
    let why : c.in_err-chosen.field-0.0 ≡ NoRoom = cc in
    let exit = err_from_is_err_and c.from_residual.result c.from_residual.ensures.1 in
    rw (exit.1, exit.2, why) (record {
      did = λ maps. ap (by maps) (rw none at (found place));
      found = tt;
    })
