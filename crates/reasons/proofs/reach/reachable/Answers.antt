-- `reachable` meets its contract. The loop: the set is that of the nodes before this one.
-- Assumes nothing.
use Prim.Native.Nat.{ℕ, ◌+◌, ◌*◌, ◌-◌, ◌<◌}
use mathlib.Core.Path.{◌≡◌, refl, sym, ap, ◌∙◌}
use mathlib.Core.Bool.{not}
use mathlib.Core.List.{List}
use native.Mathlib.Numerals.{add-one}
use native.Mathlib.Omega.{arith}
use borrow.Author.Tests.{eq-eqb, ne_eqb}
use lib.ListN.{length, get_or, take, drop}
use Rattle.std.proofs.lemmas.List.{get_or-drop, get_or-take, length-take, length-drop}
use Rattle.rules.specs.Machine.{distance}
use Rattle.rules.specs.Masks.{insert, mask_of}
use Rattle.rules.specs.Reasons.{is_far}
use Rattle.rules.proofs.Lists.{entry_same}
use Rattle.rules.proofs.Machine.{square_in}
use Rattle.rules.proofs.Masks.{mask_of_with, mask_of_without, mask_of_same}
use Rattle.nodemask.specs.declared.Mask.{Mask}
use Rattle.reasons.proofs.reach.reachable.Invariants.{isNear}
use Rattle.reasons.proofs.reach.reachable.Goals as goal
use Rattle.reasons.proofs.reach.reachable.Goals.{Joined-distance, else-distance, then-distance}

-- the test that the code makes is the rules'
isNear-is : (n : ℕ) (distances : List ℕ) (x k : ℕ) → isNear distances (x * n) k ≡ not (is_far n distances x k)
unfolding is_far distance
isNear-is n distances x k = refl

pub loop-i-init : goal.loop-i-init
unfolding mask_of
loop-i-init c = refl

-- the entry that is read, and that there is one
abbrev entry : (c : Joined-distance) → (c.loop-i.i < c.args.n)
    × (get_or (take (c.args.x.0 * c.args.n + c.args.n - c.args.x.0 * c.args.n) (drop (c.args.x.0 * c.args.n) c.args.distances.now)) c.loop-i.i 0
    ≡ get_or c.args.distances.now (c.args.x.0 * c.args.n + c.loop-i.i) 255)
entry c = let start = c.args.x.0 * c.args.n in
    let l : c.loop-i.i < c.args.n = omega (arith, c.loop-i-test.true, length-take (start + c.args.n - start) (drop start c.args.distances.now)) in
    let inside : start + c.loop-i.i < length c.args.distances.now = omega (arith, c.requires.1, square_in c.args.x.0 c.args.n c.loop-i.i c.requires.2 l) in (
      l,
      get_or-take _ _ c.loop-i.i 0 (omega (arith, l)) ∙ get_or-drop start c.args.distances.now c.loop-i.i 0
          ∙ sym (entry_same c.args.distances.now (start + c.loop-i.i) 255 0 inside),
    )

pub loop-i-preserved : goal.loop-i-preserved
loop-i-preserved c = let start = c.args.x.0 * c.args.n in
    let read = (entry (goal.at.loop-i-preserved c).Joined-distance).1 in
    rw (add-one c.loop-i.i)
    (elim c.if-distance.branch [
      | then-distance w ↦ ap (λ (m : Mask). m.0) w.set-is ∙ w.insert-set.ensures ∙ ap
          (λ (m : ℕ). insert m c.loop-i.i) c.loop-i.invariant
          ∙ mask_of_with (isNear c.args.distances.now start) c.loop-i.i (ap not (ne_eqb _ 255 (λ e. w.if-distance.true (read ∙ e))))
      | else-distance w ↦ ap (λ (m : Mask). m.0) w.set-is ∙ c.loop-i.invariant
          ∙ mask_of_without (isNear c.args.distances.now start) c.loop-i.i (ap not (eq-eqb _ 255 (sym read ∙ w.if-distance.false)))
    ])

pub returns : goal.returns
returns c = let start = c.args.x.0 * c.args.n in
    let all : c.loop-i.i ≡ c.args.n = omega (
      arith,
      c.loop-i-test.false,
      c.loop-i.auto.i-end,
      c.requires.1,
      length-take (start + c.args.n - start) (drop start c.args.distances.now),
      length-drop start c.args.distances.now,
      square_in c.args.x.0 c.args.n (c.args.n - 1) c.requires.2 (omega (arith, c.requires.2)),
    ) in
    c.loop-i.invariant ∙ ap (λ (k : ℕ). mask_of k (isNear c.args.distances.now (c.args.x.0 * c.args.n))) all
    ∙ mask_of_same c.args.n _ _ (λ k h. isNear-is c.args.n c.args.distances.now c.args.x.0 k)
