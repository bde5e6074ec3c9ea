-- `hints::request` meets its contract: the request, its page told to the hints, and the answer in the job's numbers.
-- Assumes nothing.
use Rattle.rules.specs.Machine.{Machine}
use Rattle.rules.specs.Calls.{Tables, tables_of, map_of}
use Rattle.rules.proofs.InOrder.{release_ok, fresh_ok, pages_in_order_lem}
use Rattle.machine.specs.Tables.{machine_of}
use Rattle.placement.specs.Hints.{Hints, hinted, Named}
use Rattle.placement.proofs.Hints.{request_hints}
use Rattle.placement.proofs.Requests.{request_map}
use Rattle.book.proofs.hints.request.Goals as goal
use Rattle.book.proofs.hints.request.Goals.{After-request_at-placed}

-- the machine and the tables of the call
abbrev machine : (c : After-request_at-placed) → Machine
machine c = machine_of c.args.layout.counts.now c.args.cpus.now c.args.distances.now

abbrev tables : (c : After-request_at-placed) → Tables
tables c = tables_of c.args.pages.now c.args.jobs.now c.args.free.now c.args.maps.now

-- the hints that are told of the page hold, and it is one of its node's
told : (c : After-request_at-placed)
    → Hints c.args.layout.counts.now c.request_at-placed.new.pages
    (hinted c.args.layout.starts.now c.args.job c.args.hints.now c.request_at-placed.result)
    × Named c.args.layout.starts.now c.request_at-placed.result
told c = let i = (pages_in_order_lem _ _ _ (fresh_ok _ (tables c) (release_ok (machine c) (tables c) c.requires.0))).counts_ok_lem in
    request_hints (machine c) c.args.layout.starts.now (tables c) c.args.hints.now i c.args.layout.begin c.requires.1 c.args.job c.args.cpu
    c.request_at-placed.result (map_of (tables c) c.args.job) c.request_at-placed.ensures.found c.request_at-placed.ensures.did

pub keep-requires : goal.keep-requires
keep-requires c = (told (goal.at.keep-requires c).After-request_at-placed).1

pub tell-requires : goal.tell-requires
tell-requires c = let at = (goal.at.tell-requires c).After-request_at-placed in
    request_map (machine at) (tables at) c.args.job c.args.cpu (map_of (tables at) c.args.job) c.request_at-placed.result c.requires.0
    c.request_at-placed.ensures.did

pub returns : goal.returns
unfolding map_of
returns c = record {
  did = rw c.tell.ensures c.request_at-placed.ensures.did;
  kept = rw c.keep.ensures (told (goal.at.returns c).After-request_at-placed).0;
}
