-- `used` meets its contract. The loop: of the bytes before this one some are FF, and the others are counted.
-- Assumes nothing.
use Prim.Native.Nat.{ℕ}
use mathlib.Core.Path.{◌≡◌, sym, ap, ◌∙◌}
use mathlib.Core.List.{List}
use native.Mathlib.Omega.{arith}
use borrow.Author.Rules.{rules}
use lib.ListN.{length, take}
use lib.Seq.{take_all}
use Rattle.rules.specs.Basics.{keep}
use Rattle.maps.specs.Judging.{is_node}
use Rattle.maps.proofs.GoodMaps.{used_ff, used_node}
use Rattle.maps.proofs.judging.used.Goals as goal
use Rattle.maps.proofs.judging.used.Goals.{then-end, else-end}

-- all sixty-four bytes are looked at
whole : (map : List ℕ) → length map ≡ 64 → take 64 map ≡ map
whole map h = take_all 64 map (omega arith)

long : (map : List ℕ) → length map ≡ 64 → length (take 64 map) ≡ 64
long map h = ap length (whole map h) ∙ h

pub slice_bounds-byte-items-end : goal.slice_bounds-byte-items-end
slice_bounds-byte-items-end c = sym (long c.args.map.now c.requires)

pub loop-byte-init : goal.loop-byte-init
unfolding keep
loop-byte-init c = search rules

pub overflow_add-ends : goal.overflow_add-ends
overflow_add-ends c = omega (arith, long c.args.map.now c.requires)

pub loop-byte-preserved : goal.loop-byte-preserved
loop-byte-preserved c = elim c.if-end.branch [
  | then-end w ↦ omega (arith, used_ff (take 64 c.args.map.now) c.loop-byte.byte-index c.loop-byte-test.true w.if-end.true)
  | else-end w ↦ omega (arith, used_node (take 64 c.args.map.now) c.loop-byte.byte-index c.loop-byte-test.true w.if-end.false)
]

pub overflow_sub-result : goal.overflow_sub-result
overflow_sub-result c = omega (arith, long c.args.map.now c.requires)

pub returns : goal.returns
returns c = let all = take_all c.loop-byte.byte-index (take 64 c.args.map.now) c.loop-byte-test.false ∙ whole c.args.map.now c.requires in
    omega (arith, ap (λ (bytes : List ℕ). length (keep is_node bytes)) all, long c.args.map.now c.requires)
