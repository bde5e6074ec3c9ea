-- `goals::pass` meets its contract.
-- Assumes nothing.
use Prim.Native.Nat.{ℕ, ◌-◌, ◌<◌}
use mathlib.Core.Path.{◌≡◌, refl, sym, ◌∙◌}
use native.Mathlib.Omega.{arith}
use lib.ListN.{length}
use Rattle.drain.proofs.Open.{goal_is_lem, met_moved}
use Rattle.drain.proofs.goals.pass.Goals as goal

pub count_move-requires : goal.count_move-requires
count_move-requires c = let o = c.requires.1 in
    let b = c.args.board in
    let t = b.targets in
    let g = goal_is_lem (length b.layout.counts.now) b.x.0 t.order.now t.jobs.now t.maps.now c.args.free.now (c.args.byte - 1) c.in-Some.node.0 o
    (sym c.in-Some.ensures.goes) in
    (omega (arith, o.one_each, o.node), omega (arith, o.one_each, g.node), g.other, g.above, c.requires.3)

-- its move is counted
pub returns-in-Some : goal.returns-in-Some
returns-in-Some c = let held : 0 < c.args.byte = omega (arith, c.if-byte-eq0.false) in
    let counted = c.count_move.ensures in
    let f = c.in-Some.ensures.goes in record {
      stays = λ e. absurd (omega (arith, e, held));
      stuck = λ h e. absurd (let z = f ∙ e in let y : ◌≡◌ {A = ℕ} 0 1 = cc in omega arith);
      goes = λ h k e. (refl, let z = f ∙ e in let same : c.in-Some.node.0 ≡ k = cc in rw (← same) counted);
      kept = rw counted (met_moved c.in-Some.node.0 c.requires.1 c.in-Some.ensures.kept);
    }
