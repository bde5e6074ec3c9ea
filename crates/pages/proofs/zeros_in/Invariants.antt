-- `zeros_in` meets its contract.
-- Assumes nothing.
use Prim.Native.Nat.{◌+◌}
use mathlib.Core.Path.{◌≡◌}
use lib.ListN.{drop}
use Rattle.pages.specs.FirstZero.{zeros}
use Rattle.pages.proofs.zeros_in.Given as goal

abbrev pub invariant-loop-byte : goal.invariant-loop-byte
invariant-loop-byte l = l.count + zeros (drop l.byte-index l.block) ≡ zeros l.block
