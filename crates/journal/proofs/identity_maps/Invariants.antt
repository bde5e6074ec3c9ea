-- `identity_maps` makes the table entry by entry.
-- Assumes nothing.
use mathlib.Core.Path.{◌≡◌}
use lib.ListN.{length, take}
use Rattle.rules.specs.Records.{most_jobs}
use Rattle.rules.specs.Maps.{identity_maps}
use Rattle.journal.proofs.identity_maps.Given as goal

abbrev pub invariant-loop-i : goal.invariant-loop-i
invariant-loop-i l = (length l.entry-items ≡ 4096) × (take l.i l.entry-items ≡ take l.i (identity_maps l.nodes most_jobs))
