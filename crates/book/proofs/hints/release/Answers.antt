-- `hints::release` meets its contract: the release, its page told to the hints, and the answer in the job's numbers.
-- Assumes nothing.
use Rattle.rules.specs.Calls.{Tables, tables_of, map_of}
use Rattle.rules.proofs.InOrder.{fresh_ok, pages_in_order_lem}
use Rattle.placement.specs.Hints.{Hints, hinted, Named}
use Rattle.placement.proofs.Hints.{release_hints}
use Rattle.placement.proofs.Requests.{release_map}
use Rattle.book.proofs.hints.release.Goals as goal
use Rattle.book.proofs.hints.release.Goals.{After-release_at-placed}

-- the tables of the call
abbrev tables : (c : After-release_at-placed) → Tables
tables c = tables_of c.args.pages.now c.args.jobs.now c.args.free.now c.args.maps.now

-- the hints that are told of the page hold, and it is one of its node's
told : (c : After-release_at-placed)
    → Hints c.args.layout.counts.now c.release_at-placed.new.pages
    (hinted c.args.layout.starts.now c.args.job c.args.hints.now c.release_at-placed.result)
    × Named c.args.layout.starts.now c.release_at-placed.result
told c = let i = (pages_in_order_lem _ _ _ (fresh_ok _ (tables c) c.requires.0)).counts_ok_lem in
    release_hints c.args.layout.counts.now c.args.layout.starts.now (tables c) c.args.hints.now i c.args.layout.begin c.requires.1 c.args.job c.args.page
    c.release_at-placed.result (map_of (tables c) c.args.job) c.release_at-placed.ensures.found c.release_at-placed.ensures.did

pub keep-requires : goal.keep-requires
keep-requires c = (told (goal.at.keep-requires c).After-release_at-placed).1

pub tell-requires : goal.tell-requires
tell-requires c = let at = (goal.at.tell-requires c).After-release_at-placed in
    release_map _ (tables at) c.args.job c.args.page (map_of (tables at) c.args.job) c.release_at-placed.result c.requires.0
    c.release_at-placed.ensures.did

pub returns : goal.returns
unfolding map_of
returns c = record {
  did = rw c.tell.ensures c.release_at-placed.ensures.did;
  kept = rw c.keep.ensures (told (goal.at.returns c).After-release_at-placed).0;
}
