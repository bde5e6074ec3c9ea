-- `put_reasons` meets its contract. The loop: the reasons of the nodes before this one stand at the start of the output.
-- Assumes nothing.
use Prim.Native.Nat.{◌<◌}
use mathlib.Core.Path.{◌≡◌, refl, ap, ◌∙◌}
use mathlib.Core.Bool.{Bool}
use native.Mathlib.Omega.{arith}
use lib.Dec.{ltb}
use lib.ListN.{length, get_or, length-set}
use Rattle.rules.specs.Basics.{from}
use Rattle.rules.specs.SearchOrder.{counted}
use Rattle.placement.specs.Searches.{chosen_by}
use Rattle.reasons.specs.Reasons.{reason_by, reason_at}
use Rattle.reasons.proofs.Put.{put_next}
use Rattle.reasons.proofs.reason.put_reasons.Goals as goal

pub loop-i-init : goal.loop-i-init
unfolding from
loop-i-init c = (refl, refl)

pub loop-i-preserved : goal.loop-i-preserved
unfolding counted
loop-i-preserved c = let reason : c.from.result ≡ reason_at c.args.free.now c.args.limit.0 c.args.reach (chosen_by c.args.chosen) c.loop-i.i =
    c.from.ensures ∙ c.reason_of-reason.ensures ∙ ap (λ (t : Bool). reason_by c.args.limit.0 c.args.reach
    (ltb 0 (get_or c.args.free.now c.loop-i.i 0)) t c.loop-i.i) c.is_chosen.ensures in
    let room : c.loop-i.i < length c.args.out.now = omega (arith, c.requires.1, c.loop-i-test.true) in
    (length-set c.loop-i.out c.loop-i.i _ ∙ c.loop-i.invariant.0, rw c.loop-i.invariant.1 (put_next _ c.args.out.now c.loop-i.i room reason))
