-- `count_free` meets its contract.
-- Assumes nothing.
use Rattle.std.proofs.Common.{◌≡◌, ◌+◌, ◌∙◌, ap, arith}
use Rattle.std.specs.Slice.Iter.{chunks_rest}
use Rattle.pages.specs.FirstZero.{zeros}
use Rattle.pages.proofs.Zeros.{zeros_append, zeros_most}
use Rattle.pages.proofs.count_free.Goals as goal

pub overflow_add-count : goal.overflow_add-count
overflow_add-count c =
    let split : zeros (chunks_rest c.loop-block.block-iterator) ≡ zeros c.in-Some.block.now + zeros (chunks_rest c.next.new.self) =
    ap zeros c.in-Some.ensures.steps.1.0 ∙ zeros_append c.in-Some.block.now _ in
    record { fits = omega (arith, split, zeros_most c.args.part.now) }

pub loop-block-preserved : goal.loop-block-preserved
loop-block-preserved c =
    let split : zeros (chunks_rest c.loop-block.block-iterator) ≡ zeros c.in-Some.block.now + zeros (chunks_rest c.next.new.self) =
    ap zeros c.in-Some.ensures.steps.1.0 ∙ zeros_append c.in-Some.block.now _ in
    (c.in-Some.ensures.steps.0 ∙ c.loop-block.invariant.0, omega (arith, split))
