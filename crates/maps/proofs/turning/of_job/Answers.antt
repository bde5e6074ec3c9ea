-- `of_job` is the job's part of the map table.
-- Assumes nothing.
use native.Mathlib.Nat.{add-sub_cancel_left}
use Rattle.rules.specs.Maps.{map_bytes}
use Rattle.maps.proofs.turning.of_job.Goals as goal

pub returns : goal.returns
unfolding map_bytes
returns c = rw add-sub_cancel_left
