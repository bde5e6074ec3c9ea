-- `moving::move_all` meets its contract. The loop: the pages of x before `page` are gone through.
-- Assumes nothing.
use lib.ListN.{length}
use Rattle.rules.specs.Calls.{tables_of}
use Rattle.placement.specs.Hints.{Hints}
use Rattle.drain.specs.Goals.{Met}
use Rattle.drain.proofs.Going.{Gone}
use Rattle.drain.proofs.moving.move_all.Given as goal

abbrev pub invariant-loop-page : goal.invariant-loop-page
invariant-loop-page l = let b = l.board in
    Gone b.layout.counts.now b.targets.order.now b.x.0 (tables_of l.initial.pages b.targets.jobs.now l.initial.free b.targets.maps.now) l.initial.out l.page
    (tables_of l.pages b.targets.jobs.now l.free b.targets.maps.now) l.at l.out
    × Met (length b.layout.counts.now) b.targets.order.now b.targets.jobs.now b.targets.maps.now l.free l.met × Hints b.layout.counts.now l.pages l.hints
