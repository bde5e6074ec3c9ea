-- `used` meets its contract. The loop: of the bytes before this one some are FF, and the others are counted.
-- Assumes nothing.
use Prim.Native.Nat.{◌+◌}
use mathlib.Core.Path.{◌≡◌}
use lib.ListN.{length, take}
use Rattle.rules.specs.Basics.{keep}
use Rattle.maps.specs.Judging.{is_node}
use Rattle.maps.proofs.judging.used.Given as goal

abbrev pub invariant-loop-byte : goal.invariant-loop-byte
invariant-loop-byte l = l.ends + length (keep is_node (take l.byte-index (take 64 l.map))) ≡ l.byte-index
