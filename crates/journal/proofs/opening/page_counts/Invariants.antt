-- `page_counts` reads the page counts one by one.
-- Assumes nothing.
use mathlib.Core.Path.{◌≡◌}
use mathlib.Core.List.{map}
use lib.ListN.{take}
use Rattle.rules.specs.Basics.{from}
use Rattle.journal.proofs.MachineRecord.{count_at}
use Rattle.journal.proofs.opening.page_counts.Given as goal

abbrev pub invariant-loop-i : goal.invariant-loop-i
invariant-loop-i l = take l.i l.count-items ≡ map (count_at l.bytes) (from 0 l.i)
