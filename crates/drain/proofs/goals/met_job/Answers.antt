-- `goals::met_job` meets its contract.
-- Assumes nothing.
use Prim.Native.Nat.{◌-◌}
use Rattle.drain.specs.Goals.{may_move}
use Rattle.drain.proofs.Open.{some_if, kept_first}
use Rattle.drain.proofs.goals.met_job.Goals as goal

-- it has been met before
pub returns-in-Some : goal.returns-in-Some
returns-in-Some c order free m = m.kept c.args.byte c.in-Some.job c.in-Some.is

-- it is met now, and may be moved
pub returns : goal.returns
returns c order free m = let b = c.args.targets in
    let s = some_if (may_move c.args.nodes b.jobs.now b.maps.now (c.args.byte - 1)) c.in_ok-limit.ensures in
    kept_first s.0 s.1
