-- `search::search_round` meets its contract. The loop's invariant: what the places from the position on choose is the choice.
-- Assumes nothing.
use Prim.Native.Nat.{ℕ, ◌-◌, ◌≤◌}
use mathlib.Core.Path.{◌≡◌}
use mathlib.Core.List.{List}
use lib.ListN.{length}
use Rattle.rules.specs.SearchOrder.{Try, tried, chosen}
use Rattle.records.specs.Jobs.{turn_of}
use Rattle.placement.specs.declared.plan.Walk.{Walk}
use Rattle.placement.specs.Plans.{round_tries}
use Rattle.placement.proofs.search.search_round.Given as goal

-- the tries from a position on
abbrev pub rest : ℕ → ℕ → Walk → List ℕ → ℕ → ℕ → List Try
rest n limit walk places position left = tried n limit (round_tries walk.moves places (turn_of walk.cursor) walk.len position left)

abbrev pub invariant-loop-step : goal.invariant-loop-step
invariant-loop-step l = (l.position ≤ l.walk.len)
    × (chosen l.free (rest (length l.free) l.limit.0 l.walk l.places l.position (l.walk.len - l._step))
    ≡ chosen l.free (rest (length l.free) l.limit.0 l.walk l.places l.walk.cursor l.walk.len))
