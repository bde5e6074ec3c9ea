-- `calls_ok` meets its contract. The loop: the tests made so far and those to come are the tests of all calls.
-- Assumes nothing.
use Prim.Native.Nat.{ℕ, ◌+◌, ◌*◌, ◌/◌, ◌<◌}
use mathlib.Core.Path.{◌≡◌, sym, ap, ◌∙◌}
use mathlib.Core.List.{List}
use native.Mathlib.Omega.{arith}
use lib.ListN.{length, length-drop}
use Rattle.rules.specs.Decisions.{is_accepted}
use Rattle.replay.specs.Encoding.{call_in}
use Rattle.replay.proofs.Words.{cut_short, none_tested, one_tested, all_tested, kind_known, call_cut}
use Rattle.replay.proofs.encoding.calls_ok.Goals as goal

pub returns-then-calls-ne0 : goal.returns-then-calls-ne0
returns-then-calls-ne0 c = sym (cut_short _ c.if-calls-ne0.true)

pub loop-call-init : goal.loop-call-init
loop-call-init c = (cc, (0, cc, none_tested _ c.if-calls-ne0.false))

pub loop-call-preserved : goal.loop-call-preserved
loop-call-preserved c =
    let words : List ℕ = c.args.calls.now in
    let i : ℕ = c.loop-call.invariant.1.0 in
    let v = c.loop-call.invariant in
    let s = c.in-Some.ensures.steps in
    let left = ap length v.1.1 in
    let long : length c.in-Some.call.now ≡ 16 = omega (arith, s.1.1, s.1.2, v.0, left, length-drop (16 * i) words, c.if-calls-ne0.false) in
    let more : i < length words / 16 = omega (arith, s.1.2, left, length-drop (16 * i) words, c.if-calls-ne0.false) in
    let cut = call_cut words c.in-Some.call.now _ i (sym v.1.1 ∙ s.1.0) long in (
      s.0 ∙ v.0,
      (
        i + 1,
        cut.1,
        one_tested words i c.loop-call.ok _ more
            (c.is_some-ok.ensures ∙ kind_known _ _ c.kind_of.ensures ∙ ap (λ (ws : List ℕ). is_accepted (call_in ws)) (sym cut.0)) v.1.2,
      ),
    )

pub returns : goal.returns
returns c =
    let words : List ℕ = c.args.calls.now in
    let v = c.loop-call.invariant in
    all_tested words v.1.0 _ (omega (arith, ap length v.1.1, length-drop (16 * v.1.0) words, c.in-None.ensures.steps.1.0)) v.1.2
