-- `keep` meets its contract. The loop: the entries of the numbers before `i` are written, FF follows, and the numbers from `i` on decide.
-- Assumes nothing.
use Prim.Native.Nat.{ℕ, ◌≤◌, ◌<◌}
use mathlib.Core.Path.{◌≡◌, refl, sym, ◌∙◌}
use mathlib.Core.Bool.{false, ◌||◌}
use mathlib.Core.Logic.{inl}
use mathlib.Core.List.{map}
use native.Mathlib.Omega.{arith}
use borrow.Author.Rules.{rules}
use borrow.Author.Tests.{eqb-true, eqb-false, ltb-false, leb-false}
use lib.Dec.{leb, ltb}
use lib.ListN.{length, get_or, length-map}
use Rattle.rules.specs.Maps.{nodes_in, bytes_for, system_node}
use Rattle.rules.proofs.Lists.{either_false}
use Rattle.rules.proofs.Filled.{fill_none, fill_end, fill_short}
use Rattle.maps.proofs.Keeping.{keeps_bad, keeps_next, keeps_end, keeps_none, keeps_some}
use Rattle.maps.proofs.MapNodes.{nodes_le, fill_node}
use Rattle.maps.proofs.node_map.NodeMap.keep.Goals as goal

-- a number that may come
may_come : (a least len : ℕ) → (ltb a least || leb len a) ≡ false → (least ≤ a) × (a < len)
may_come a least len e = let tests = either_false {a = ltb a least} e in (ltb-false a least tests.0, leb-false len a tests.1)

pub loop-i-init : goal.loop-i-init
loop-i-init c = (search rules, search rules, fill_none 64 255 _, refl)

pub returns-then-is_empty : goal.returns-then-is_empty
returns-then-is_empty c =
    keeps_none (nodes_in c.args.self.bytes.now) c.args.list.now (eqb-true (length c.args.list.now) 0 (sym c.if-is_empty.ensures))

pub returns-then-a-least : goal.returns-then-a-least
returns-then-a-least c =
    let bad = keeps_bad c.args.self.len c.loop-i.least c.args.list.now c.loop-i.i c.loop-i-test.true c.if-a-least.true in
    keeps_some (nodes_in c.args.self.bytes.now) c.args.list.now c.args.self.counted (eqb-false (length c.args.list.now) 0 (sym c.if-is_empty.ensures))
    ∙ c.loop-i.invariant.3 ∙ bad

pub bounds-out-i : goal.bounds-out-i
bounds-out-i c =
    omega (arith, may_come (get_or c.args.list.now c.loop-i.i 0) c.loop-i.least c.args.self.len c.if-a-least.false, nodes_le c.args.self.bytes.now)

pub loop-i-preserved : goal.loop-i-preserved
loop-i-preserved c =
    let may = may_come (get_or c.args.list.now c.loop-i.i 0) c.loop-i.least c.args.self.len c.if-a-least.false in
    let few = nodes_le c.args.self.bytes.now in (
      omega arith,
      omega arith,
      rw c.loop-i.invariant.2
          (fill_node 64 255 (system_node (nodes_in c.args.self.bytes.now)) c.args.list.now c.loop-i.i c.node_at.result.0
          c.loop-i-test.true (omega arith) c.node_at.ensures),
      c.loop-i.invariant.3 ∙ keeps_next c.args.self.len c.loop-i.least c.args.list.now c.loop-i.i c.loop-i-test.true may.0 may.1,
    )

pub returns : goal.returns
unfolding bytes_for
returns c =
    let kept = map (system_node (nodes_in c.args.self.bytes.now)) c.args.list.now in
    let long : length kept ≡ length c.args.list.now = length-map c.args.list.now (system_node (nodes_in c.args.self.bytes.now)) in
    let few : c.loop-i.i ≤ 64 = omega (arith, nodes_le c.args.self.bytes.now) in (
      keeps_some (nodes_in c.args.self.bytes.now) c.args.list.now c.args.self.counted (eqb-false (length c.args.list.now) 0 (sym c.if-is_empty.ensures))
          ∙ c.loop-i.invariant.3 ∙ keeps_end c.args.self.len c.loop-i.least c.args.list.now c.loop-i.i c.loop-i-test.false,
      c.loop-i.invariant.2 ∙ fill_end 64 255 kept c.loop-i.i (omega arith) few (inl (omega arith)) ∙ fill_short 64 255 kept (omega arith),
    )
