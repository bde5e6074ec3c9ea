-- `write_reasons` meets its contract: the machine first, then the other tables.
-- Assumes nothing.
use mathlib.Core.Path.{◌≡◌, sym, ◌∙◌}
use mathlib.Core.Bool.{true}
use Rattle.rules.specs.Machine.{Machine, machine_ok}
use Rattle.rules.specs.Calls.{Tables, tables_of, request_tables_ok}
use Rattle.rules.proofs.Machine.{in_order}
use Rattle.machine.specs.Tables.{machine_of}
use Rattle.placement.proofs.InOrder.{request_tested, request_untested}
use Rattle.reasons.proofs.Explains.{bad_tables_lem}
use Rattle.reasons.proofs.write_reasons.Goals as goal
use Rattle.reasons.proofs.write_reasons.Goals.{After-machine_ok, Else-not-machine_ok, After-lent_ok}

-- the machine and the tables of the call
abbrev machine : (c : After-machine_ok) → Machine
machine c = machine_of c.args.counts.now c.args.cpus.now c.args.distances.now

abbrev tables : (c : After-machine_ok) → Tables
tables c = tables_of c.args.pages.now c.args.jobs.now c.args.free.now c.args.maps.now

-- the machine is in order
good_machine : (c : Else-not-machine_ok) → machine_ok (machine (goal.at.Else-not-machine_ok c).After-machine_ok) ≡ true
good_machine c = sym c.machine_ok.ensures ∙ c.if-not-machine_ok.false

-- the tables are tested
tested : (c : After-lent_ok) → let at = (goal.at.After-lent_ok c).After-machine_ok in c.lent_ok.result ≡ request_tables_ok (machine at) (tables at)
tested c = let at = (goal.at.After-lent_ok c).After-machine_ok in
    c.lent_ok.ensures ∙ request_tested (machine at) (tables at) c.pages_end-total.ensures (good_machine (goal.at.After-lent_ok c).Else-not-machine_ok)

-- the machine breaks the rules
pub returns-then-not-machine_ok : goal.returns-then-not-machine_ok
returns-then-not-machine_ok c = let at = (goal.at.returns-then-not-machine_ok c).After-machine_ok in
    bad_tables_lem (machine at) (tables at) _ _ _
    (request_untested (machine at) (tables at) (sym c.machine_ok.ensures ∙ c.if-not-machine_ok.true))

pub starts_of-starts-requires : goal.starts_of-starts-requires
starts_of-starts-requires c = let i = (in_order _ (good_machine (goal.at.starts_of-starts-requires c).Else-not-machine_ok)).counts in
    (i.nodes_most, i.pages_most)

pub pages_end-total-requires : goal.pages_end-total-requires
pages_end-total-requires c = let i = (in_order _ (good_machine (goal.at.pages_end-total-requires c).Else-not-machine_ok)).counts in
    (i.nodes_most, i.pages_most, c.starts_of-starts.ensures)

-- the page table, the free counts, the job table or the maps do
pub returns-then-not-lent_ok : goal.returns-then-not-lent_ok
returns-then-not-lent_ok c =
    bad_tables_lem _ _ _ _ _ (sym (tested (goal.at.returns-then-not-lent_ok c).After-lent_ok) ∙ c.if-not-lent_ok.true)

pub write_at-requires : goal.write_at-requires
write_at-requires c = sym (tested (goal.at.write_at-requires c).After-lent_ok) ∙ c.if-not-lent_ok.false
