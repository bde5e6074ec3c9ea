-- `Ranks::wrapped` meets its contract. The loop's invariant: the set lies over itself, shifted by w, as often as the step counts.
-- Assumes nothing.
use Prim.Native.Nat.{ℕ, ◌-◌, ◌*◌, ◌<◌}
use mathlib.Core.Path.{◌≡◌}
use Rattle.nodemask.proofs.RankLaws.{Laid}
use Rattle.nodemask.proofs.Ranks.wrapped.Given as goal

abbrev pub invariant-loop-step : goal.invariant-loop-step
invariant-loop-step l = (turns : ℕ) × (l.step ≡ turns * l.w) × (0 < l.step) × Laid l.w l.initial.laid turns l.laid

abbrev pub decreases-loop-step : goal.decreases-loop-step
decreases-loop-step l = 64 - l.step
