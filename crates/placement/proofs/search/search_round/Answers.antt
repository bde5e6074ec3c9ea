-- `search::search_round` meets its contract. The loop's invariant: what the places from the position on choose is the choice.
-- Assumes nothing.
use Prim.Native.Nat.{ℕ, ◌+◌, ◌-◌, ◌%◌, ◌<◌}
use mathlib.Core.Path.{◌≡◌, refl, sym, ap, ◌∙◌}
use mathlib.Core.List.{List, [], ◌∷◌, ◌++◌}
use native.Mathlib.Nat.{mod-lt}
use native.Mathlib.Omega.{arith}
use lib.ListN.{get_or}
use Rattle.rules.specs.Records.{Turn}
use Rattle.rules.specs.SearchOrder.{try, tried, chosen}
use Rattle.records.specs.Jobs.{turn_of}
use Rattle.placement.specs.declared.plan.Walk.{Walk}
use Rattle.placement.specs.Plans.{leaves}
use Rattle.placement.proofs.Searches.{open_first, open_rest, none_tried, round_step, round_none}
use Rattle.placement.proofs.search.search_round.Invariants.{rest}
use Rattle.placement.proofs.search.search_round.Goals as goal

-- the place at the position is tested, and then the rest
next : (n limit : ℕ) (w : Walk) (places : List ℕ) (after : Turn) (position left p : ℕ) → 0 < left → p ≡ position % w.len
    → after ≡ leaves w.moves (turn_of w.cursor) p
    → rest n limit w places position left ≡ tried n limit (try after (get_or places p 0) ∷ []) ++ rest n limit w places (p + 1) (left - 1)
next n limit w places after position left p = round_step n limit w.moves places (turn_of w.cursor) after w.len position left p

-- the place is open
pub returns-then-is_open : goal.returns-then-is_open
returns-then-is_open c = let chosen-here = sym c.is_open.ensures ∙ c.if-is_open.true in
    let more : 0 < c.args.walk.len - c.loop-step._step = omega arith in
    sym (open_first _ _ _ _ _ chosen-here)
    ∙ ap (chosen _) (sym (next _ _ c.args.walk c.args.places _ _ _ _ more c.place_at-place.ensures c.cursor_after-cursor.ensures))
    ∙ c.loop-step.invariant.1

-- it is not
pub loop-step-preserved : goal.loop-step-preserved
loop-step-preserved c = let in_list : c.place_at-place.result.0 < c.args.walk.len = rw c.place_at-place.ensures (mod-lt _ (omega arith)) in
    let shut = sym c.is_open.ensures ∙ c.if-is_open.false in
    let more : 0 < c.args.walk.len - c.loop-step._step = omega arith in
    let left : c.args.walk.len - (c.loop-step._step + 1) ≡ c.args.walk.len - c.loop-step._step - 1 = omega arith in (
      omega (arith, in_list),
      rw left (sym (open_rest _ _ _ _ _ shut) ∙ ap (chosen _) (sym (next _ _ c.args.walk c.args.places _ _ _ _ more c.place_at-place.ensures refl))
          ∙ c.loop-step.invariant.1),
    )

pub returns : goal.returns
returns c = sym (none_tried _) ∙ ap (chosen _) (sym (round_none _ _ _ _ _ _ _ (c.args.walk.len - c.loop-step._step) (omega arith)))
    ∙ c.loop-step.invariant.1
