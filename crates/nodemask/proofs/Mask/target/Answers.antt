-- `Mask::target` meets its contract: the lowest node from the cursor field on, else the lowest, else none.
-- Assumes nothing.
use mathlib.Core.Path.{◌≡◌, ap, sym, ◌∙◌}
use Prim.Native.Nat.{ℕ, ◌/◌, ◌^◌, ◌<◌}
use native.Mathlib.Nat.{pos_of_ne-zero, div-eq_of_lt, lt_of_lt_of_le}
use native.Mathlib.Omega.{arith}
use borrow.Author.Tests.{eqb-true, eqb-false}
use lib.Pow.{pow_mono}
use Rattle.rules.specs.SearchOrder.{target}
use Rattle.rules.proofs.Turns.{turn_of, turn_above, turn_round, turn_none}
use Rattle.nodemask.proofs.Mask.target.Goals as goal
use Rattle.nodemask.proofs.Mask.target.Goals.{then-cursor-lt-MOST_NODES+else-above-ne0, else-cursor-lt-MOST_NODES}

pub returns-then-is_empty : goal.returns-then-is_empty
unfolding target
returns-then-is_empty c = let e : c.args.self.0 ≡ 0 = eqb-true c.args.self.0 0 (sym c.is_empty.ensures ∙ c.if-is_empty.true) in
    sym (ap (λ (x : ℕ). turn_of 64 x c.args.cursor) e ∙ turn_none 64 c.args.cursor)

pub returns-then-above-ne0 : goal.returns-then-above-ne0
unfolding target
returns-then-above-ne0 c = let found : 0 < c.args.self.0 / 2 ^ c.args.cursor = omega (arith, c.if-above-ne0.true) in
    sym (turn_above 64 c.args.self.0 c.args.cursor (omega arith) found)

pub returns : goal.returns
unfolding target
returns c = let some-node : 0 < c.args.self.0 = pos_of_ne-zero (eqb-false c.args.self.0 0 (sym c.is_empty.ensures ∙ c.if-is_empty.false)) in
    let none_above : c.args.self.0 / 2 ^ c.args.cursor ≡ 0 =
    elim c.if-cursor-lt-MOST_NODES.branch [
      | then-cursor-lt-MOST_NODES+else-above-ne0 w ↦ w.if-above-ne0.false
      | else-cursor-lt-MOST_NODES w ↦ div-eq_of_lt (lt_of_lt_of_le (omega arith) (pow_mono w.if-cursor-lt-MOST_NODES.false))
    ] in
    sym (turn_round 64 c.args.self.0 c.args.cursor c.requires none_above some-node)
