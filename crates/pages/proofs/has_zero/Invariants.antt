-- `has_zero` meets its contract.
-- Assumes nothing.
use mathlib.Core.Path.{◌≡◌}
use mathlib.Core.Bool.{◌||◌}
use lib.ListN.{drop}
use Rattle.pages.specs.FirstZero.{has_zero}
use Rattle.pages.proofs.has_zero.Given as goal

abbrev pub invariant-loop-byte : goal.invariant-loop-byte
invariant-loop-byte l = (l.any || has_zero (drop l.byte-index l.block)) ≡ has_zero l.block
