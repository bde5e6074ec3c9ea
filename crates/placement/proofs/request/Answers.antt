-- `request` meets its contract: the machine first, then the other tables.
-- Assumes nothing.
use mathlib.Core.Path.{◌≡◌, sym, ◌∙◌}
use mathlib.Core.Bool.{true}
use Rattle.rules.specs.Machine.{Machine, machine_ok}
use Rattle.rules.specs.Calls.{Tables, tables_of, map_of, request_tables_ok, applied, admitted, request_decision, on_request}
use Rattle.rules.proofs.Machine.{in_order}
use Rattle.machine.specs.Tables.{machine_of}
use Rattle.placement.proofs.InOrder.{request_tested}
use Rattle.placement.proofs.Hints.{no_hints}
use Rattle.placement.proofs.Requests.{request_map}
use Rattle.placement.proofs.request.Goals as goal
use Rattle.placement.proofs.request.Goals.{Else-not-machine_ok, After-lent_ok, Else-not-lent_ok}

-- the machine and the tables of the call
abbrev machine : (c : Else-not-machine_ok) → Machine
machine c = machine_of c.args.counts.now c.args.cpus.now c.args.distances.now

abbrev tables : (c : Else-not-machine_ok) → Tables
tables c = tables_of c.args.pages.now c.args.jobs.now c.args.free.now c.args.maps.now

-- the machine is in order
good_machine : (c : Else-not-machine_ok) → machine_ok (machine c) ≡ true
good_machine c = sym c.machine_ok.ensures ∙ c.if-not-machine_ok.false

-- the tables are tested
tested : (c : After-lent_ok) → let at = (goal.at.After-lent_ok c).Else-not-machine_ok in c.lent_ok.result ≡ request_tables_ok (machine at) (tables at)
tested c = let at = (goal.at.After-lent_ok c).Else-not-machine_ok in
    c.lent_ok.ensures ∙ request_tested (machine at) (tables at) c.pages_end-total.ensures (good_machine at)

-- and in order
good_tables : (c : Else-not-lent_ok) → let at = (goal.at.Else-not-lent_ok c).Else-not-machine_ok in request_tables_ok (machine at) (tables at) ≡ true
good_tables c = sym (tested (goal.at.Else-not-lent_ok c).After-lent_ok) ∙ c.if-not-lent_ok.false

-- the machine breaks the rules
pub returns-then-not-machine_ok : goal.returns-then-not-machine_ok
unfolding on_request request_decision admitted applied request_tables_ok
returns-then-not-machine_ok c = rw (sym c.machine_ok.ensures ∙ c.if-not-machine_ok.true)

pub starts_of-starts-requires : goal.starts_of-starts-requires
starts_of-starts-requires c = let i = (in_order _ (good_machine (goal.at.starts_of-starts-requires c).Else-not-machine_ok)).counts in
    (i.nodes_most, i.pages_most)

pub pages_end-total-requires : goal.pages_end-total-requires
pages_end-total-requires c = let i = (in_order _ (good_machine (goal.at.pages_end-total-requires c).Else-not-machine_ok)).counts in
    (i.nodes_most, i.pages_most, c.starts_of-starts.ensures)

-- the page table, the free counts or the job table do
pub returns-then-not-lent_ok : goal.returns-then-not-lent_ok
unfolding on_request request_decision admitted applied
returns-then-not-lent_ok c = rw (sym (tested (goal.at.returns-then-not-lent_ok c).After-lent_ok) ∙ c.if-not-lent_ok.true)

pub request_at-placed-requires : goal.request_at-placed-requires
request_at-placed-requires c = (good_tables (goal.at.request_at-placed-requires c).Else-not-lent_ok, no_hints _ _)

pub tell-requires : goal.tell-requires
tell-requires c = let at = (goal.at.tell-requires c).Else-not-machine_ok in
    request_map (machine at) (tables at) c.args.job c.args.cpu (map_of (tables at) c.args.job) c.request_at-placed.result
    (good_tables (goal.at.tell-requires c).Else-not-lent_ok)
    c.request_at-placed.ensures.did

pub returns : goal.returns
unfolding map_of
returns c = rw c.tell.ensures c.request_at-placed.ensures.did
