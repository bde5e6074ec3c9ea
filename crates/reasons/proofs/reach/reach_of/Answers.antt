-- `reach_of` meets its contract, plan by plan.
-- Assumes nothing.
use Prim.Native.Nat.{ℕ, ◌<◌}
use mathlib.Core.Path.{◌≡◌, refl, ap, ◌∙◌}
use mathlib.Core.Bool.{Bool, not, ◌||◌}
use mathlib.Core.List.{List}
use Rattle.rules.specs.Masks.{has, mask_of}
use Rattle.rules.specs.Reasons.{is_far}
use Rattle.rules.proofs.Masks.{has_mask_of, either_has}
use Rattle.reasons.proofs.reach.reach_of.Goals as goal

-- a set of the nodes that can be reached from x has node k so
reached : (n : ℕ) (distances : List ℕ) (x : ℕ) {set : ℕ} → set ≡ mask_of n (λ k. not (is_far n distances x k))
    → (k : ℕ) → k < n → has set k ≡ not (is_far n distances x k)
reached n distances x e k l = ap (λ (m : ℕ). has m k) e ∙ has_mask_of n (λ k. not (is_far n distances x k)) k l

-- near(x)
pub returns-in-Near : goal.returns-in-Near
returns-in-Near c = rw c.in-Near.is
    (record { set = refl; found = reached c.args.n c.args.distances.now _ c.reachable.ensures; missed = refl })

-- places, and then near(x)
pub returns-in-Closed : goal.returns-in-Closed
returns-in-Closed c = rw c.in-Closed.is
    (record {
      set = refl;
      found = λ k l. ap (λ (m : ℕ). has m k) c.either.ensures ∙ either_has c.args.named.0 c.reachable-in-Closed.result.0 k
          ∙ ap (λ (b : Bool). has c.args.named.0 k || b) (reached c.args.n c.args.distances.now _ c.reachable-in-Closed.ensures k l);
      missed = refl;
    })
