-- `page_counts` reads the page counts one by one.
-- Assumes nothing.
use Prim.Native.Nat.{ℕ}
use mathlib.Core.Path.{◌≡◌, refl, sym, subst, ◌∙◌}
use mathlib.Core.List.{map}
use native.Mathlib.Omega.{arith}
use lib.ListN.{length, take, replicate}
use lib.Seq.{length-take-le, take-append-le}
use Rattle.rules.specs.Basics.{from}
use Rattle.rules.specs.Journal.{byte_at, machine_size, machine_in}
use Rattle.journal.proofs.MachineRecord.{head_in, count_at, counts_step, nodes_most_lem}
use Rattle.journal.proofs.opening.page_counts.Goals as goal

pub byte_at-n-requires : goal.byte_at-n-requires
byte_at-n-requires c = omega (arith, head_in c.args.bytes.now c.requires.1)

pub slice_bounds-counts-end : goal.slice_bounds-counts-end
slice_bounds-counts-end c = omega (arith, nodes_most_lem c.args.bytes.now c.requires.0)

pub slice_bounds-count-items-end : goal.slice_bounds-count-items-end
slice_bounds-count-items-end c = sym (length-take-le c.byte_at-n.result _ (omega (arith, nodes_most_lem c.args.bytes.now c.requires.0)))

pub loop-i-init : goal.loop-i-init
unfolding from
loop-i-init c = refl

pub u16_at-requires : goal.u16_at-requires
unfolding machine_size
u16_at-requires c =
    let few = nodes_most_lem c.args.bytes.now c.requires.0 in
    let size : length (take c.byte_at-n.result (replicate {A = ℕ} 16 0)) ≡ c.byte_at-n.result = length-take-le c.byte_at-n.result _ (omega arith) in
    omega (arith, c.loop-i-test.true)

pub loop-i-preserved : goal.loop-i-preserved
loop-i-preserved c = counts_step c.args.bytes.now c.loop-i.count-items c.loop-i.i (omega arith) (c.from.ensures ∙ c.u16_at.ensures) c.loop-i.invariant

pub returns : goal.returns
unfolding machine_in
returns c =
    let few = nodes_most_lem c.args.bytes.now c.requires.0 in
    let size : length (take c.byte_at-n.result (replicate {A = ℕ} 16 0)) ≡ c.byte_at-n.result = length-take-le c.byte_at-n.result _ (omega arith) in
    let long : length c.loop-i.count-items ≡ c.byte_at-n.result = c.loop-i.auto.count-items ∙ size in
    let all : c.loop-i.i ≡ byte_at c.args.bytes.now 3 = omega (arith, c.loop-i-test.false) in
    take-append-le _ c.loop-i.count-items _ (omega arith)
    ∙ subst (λ (k : ℕ). take k c.loop-i.count-items ≡ map (count_at c.args.bytes.now) (from 0 k)) all c.loop-i.invariant
