-- The loop's invariant: the line holds all runs before node `from`.
-- Assumes nothing.
use Rattle.std.specs.Prelude.{◌-◌, ◌≤◌}
use Rattle.nodelist.proofs.LineLaws.{Lined}
use Rattle.nodelist.proofs.writer.put_runs.Given as goal

abbrev pub invariant-loop-run : goal.invariant-loop-run
invariant-loop-run l = (l.from ≤ 64) × Lined l.mask.0 l.line l.len l.from

abbrev pub decreases-loop-run : goal.decreases-loop-run
decreases-loop-run l = 64 - l.from
