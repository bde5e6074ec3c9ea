-- `reachable` meets its contract. The loop: the set is that of the nodes before this one.
-- Assumes nothing.
use Prim.Native.Nat.{ℕ, ◌+◌}
use mathlib.Core.Path.{◌≡◌}
use mathlib.Core.Bool.{Bool, not}
use mathlib.Core.List.{List}
use lib.Dec.{eqb}
use lib.ListN.{get_or}
use Rattle.rules.specs.Masks.{mask_of}
use Rattle.reasons.proofs.reach.reachable.Given as goal

-- node k is not at distance 255: by where row x starts
abbrev pub isNear : List ℕ → ℕ → ℕ → Bool
isNear distances start k = not (eqb (get_or distances (start + k) 255) 255)

abbrev pub invariant-loop-i : goal.invariant-loop-i
invariant-loop-i l = l.set.0 ≡ mask_of l.i (isNear l.distances l.start)
