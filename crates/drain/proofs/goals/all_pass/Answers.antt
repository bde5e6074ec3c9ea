-- `goals::all_pass` meets its contract.
-- Assumes nothing.
use mathlib.Core.Path.{refl, sym, ◌∙◌}
use native.Mathlib.Omega.{arith}
use lib.ListN.{length}
use Rattle.drain.proofs.Open.{none_met}
use Rattle.drain.proofs.Passes.{AfterPage, after_page, pass_end}
use Rattle.drain.proofs.goals.all_pass.Goals as goal
use Rattle.drain.proofs.goals.all_pass.Goals.{After-pass}

pub loop-byte-init : goal.loop-byte-init
loop-byte-init c = (c.requires.1, none_met _ _ _ _ _, omega arith, refl)

-- what is known after one page
after : (c : After-pass) → AfterPage (length c.args.board.layout.counts.now) c.args.board.targets.order.now c.args.board.targets.jobs.now
    c.args.board.targets.maps.now
    c.args.board.x.0 c.args.part.now c.loop-byte.byte-index c.loop-byte.free c.pass.new.free c.pass.result
after c = let b = c.args.board in
    let t = b.targets in
    let e = c.pass.ensures in
    after_page (length b.layout.counts.now) t.order.now t.jobs.now t.maps.now b.x.0 c.args.part.now c.loop-byte.byte-index c.loop-byte.free _ c.pass.result
    c.loop-byte-test.true c.loop-byte.invariant.0 e.stays e.stuck e.goes

pub returns-then-not-pass : goal.returns-then-not-pass
returns-then-not-pass c =
    sym (sym c.loop-byte.invariant.3 ∙ (after (goal.at.returns-then-not-pass c).After-pass).stopped c.if-not-pass.true)

pub loop-byte-preserved : goal.loop-byte-preserved
loop-byte-preserved c = let w = after (goal.at.loop-byte-preserved c).After-pass in
    let r = c.if-not-pass.false in
    (w.ordered r, c.pass.ensures.kept, omega (arith, w.counted r, c.loop-byte.invariant.2), sym (w.went r) ∙ c.loop-byte.invariant.3)

pub returns : goal.returns
returns c = let b = c.args.board in
    let t = b.targets in
    sym (pass_end (length b.layout.counts.now) t.order.now t.jobs.now t.maps.now b.x.0 c.args.part.now c.loop-byte.byte-index c.loop-byte.free
    c.loop-byte-test.false) ∙ c.loop-byte.invariant.3
