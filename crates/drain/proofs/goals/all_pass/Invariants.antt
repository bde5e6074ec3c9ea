-- `goals::all_pass` meets its contract.
-- Assumes nothing.
use Prim.Native.Nat.{◌+◌, ◌≤◌}
use mathlib.Core.Path.{◌≡◌}
use lib.ListN.{length, get_or, drop}
use Rattle.drain.specs.Goals.{Met, Ordered, passes}
use Rattle.drain.proofs.goals.all_pass.Given as goal

abbrev pub invariant-loop-byte : goal.invariant-loop-byte
invariant-loop-byte l = let b = l.board in
    Ordered (length b.layout.counts.now) b.x.0 b.targets.order.now l.free
    × Met (length b.layout.counts.now) b.targets.order.now b.targets.jobs.now b.targets.maps.now l.free l.met
    × (get_or l.free b.x.0 0 ≤ get_or l.initial.free b.x.0 0 + l.byte-index)
    × (passes (length b.layout.counts.now) b.targets.order.now b.targets.jobs.now b.targets.maps.now b.x.0 l.free (drop l.byte-index l.part)
    ≡ passes (length b.layout.counts.now) b.targets.order.now b.targets.jobs.now b.targets.maps.now b.x.0 l.initial.free l.part)
