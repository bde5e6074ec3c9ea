-- `judge` meets its contract: the map is good if as many of its first bytes as are not FF are different nodes of the machine, one or more.
-- Assumes nothing.
use Prim.Native.Nat.{ℕ, ◌≤◌}
use mathlib.Core.Path.{◌≡◌, sym, ap, ◌∙◌}
use mathlib.Core.Bool.{Bool, true, false, not, ◌||◌}
use mathlib.Core.List.{List}
use native.Mathlib.Omega.{arith}
use borrow.Author.Tests.{eq-eqb, ne_eqb, ltb-true, lt-ltb, not-false}
use lib.Dec.{eqb, ltb}
use lib.ListN.{length, take}
use lib.Seq.{length-take-le}
use Rattle.rules.specs.Basics.{all}
use Rattle.rules.specs.Maps.{nodes_in, different, set_of}
use Rattle.rules.specs.Masks.{rank}
use Rattle.rules.proofs.Lists.{either_false, all_true, true_all}
use Rattle.maps.proofs.NodeSets.{sized}
use Rattle.maps.proofs.GoodMaps.{used, used_le, first_nodes, unknown_bad, repeated_bad, others_good}
use Rattle.maps.proofs.judging.judge.Goals as goal

module _ (n : ℕ) (map : List ℕ) {len : ℕ} {known : Bool} (few : n ≤ 64) (l : len ≡ used map) (k : known ≡ all (λ k. ltb k n) (take len map)) where
  -- the list has as many bytes as are not FF
  inside : length (take len map) ≡ len
  inside = length-take-le len map (omega (arith, used_le map))

  -- no node, or an unknown one
  test : (eqb len 0 || not known) ≡ (eqb (used map) 0 || not (all (λ k. ltb k n) (take (used map) map)))
  test = rw k (ap (λ (m : ℕ). eqb m 0 || not (all (λ k. ltb k n) (take m map))) l)

  -- else all are below 64
  below : (eqb len 0 || not known) ≡ false → all (λ k. ltb k 64) (take len map) ≡ true
  below h =
      let all_known = sym k ∙ not-false _ (either_false {a = eqb len 0} h).1 in
      true_all (λ k. ltb k 64) (take len map) (λ k m. lt-ltb k 64 (omega (arith, ltb-true k n (all_true (λ k. ltb k n) all_known m))))

  -- and the set has as many where they are different
  apart : (eqb len 0 || not known) ≡ false → {size : ℕ} → size ≡ rank (set_of (take len map)) 64 → eqb size len ≡ different (take (used map) map)
  apart h s = rw s (ap (eqb _) (sym inside) ∙ (sized (take len map) (below h)).all_of ∙ ap (λ (m : ℕ). different (take m map)) l)

  -- the list is that of the map's nodes
  nodes : (eqb len 0 || not known) ≡ false → nodes_in map ≡ take len map
  nodes h =
      (first_nodes n map few (not-false _ (either_false {a = eqb (used map) 0} (sym test ∙ h)).1)).0 ∙ ap (λ (m : ℕ). take m map) (sym l)

pub returns-then-len-all_below : goal.returns-then-len-all_below
returns-then-len-all_below c =
    unknown_bad c.args.nodes c.args.map.now c.requires.1
    (sym (test c.args.nodes c.args.map.now c.requires.1 c.used-len.ensures c.all_below.ensures) ∙ c.if-len-all_below.true)

pub returns-then-not-different : goal.returns-then-not-different
returns-then-not-different c =
    let apart = apart c.args.nodes c.args.map.now c.requires.1 c.used-len.ensures c.all_below.ensures c.if-len-all_below.false
    (c.size.ensures ∙ ap (λ (m : ℕ). rank m 64) c.set_of-set.ensures) in
    repeated_bad c.args.nodes c.args.map.now c.requires.1 (sym apart ∙ ne_eqb _ _ c.if-not-different.true)

pub returns : goal.returns
returns c =
    let apart = apart c.args.nodes c.args.map.now c.requires.1 c.used-len.ensures c.all_below.ensures c.if-len-all_below.false
    (c.size.ensures ∙ ap (λ (m : ℕ). rank m 64) c.set_of-set.ensures) in
    let left = sym (test c.args.nodes c.args.map.now c.requires.1 c.used-len.ensures c.all_below.ensures) ∙ c.if-len-all_below.false in
    let same = nodes c.args.nodes c.args.map.now c.requires.1 c.used-len.ensures c.all_below.ensures c.if-len-all_below.false in (
      others_good c.args.nodes c.args.map.now c.requires.1 c.requires.2 left (sym apart ∙ eq-eqb _ _ c.if-not-different.false),
      c.set_of-set.ensures ∙ ap set_of (sym same),
      sym (ap length same ∙ inside c.args.nodes c.args.map.now c.requires.1 c.used-len.ensures c.all_below.ensures),
    )

pub slice_bounds-list-end : goal.slice_bounds-list-end
slice_bounds-list-end c = sym (length-take-le c.used-len.result c.args.map.now (omega (arith, c.used-len.ensures, used_le c.args.map.now)))

pub set_of-set-requires : goal.set_of-set-requires
set_of-set-requires c = below c.args.nodes c.args.map.now c.requires.1 c.used-len.ensures c.all_below.ensures c.if-len-all_below.false

pub overflow_cast-result : goal.overflow_cast-result
overflow_cast-result c = omega (arith, c.used-len.ensures, used_le c.args.map.now, c.requires.2)
