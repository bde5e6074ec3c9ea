-- `first_free` meets its contract.
-- Assumes nothing.
use Rattle.std.proofs.Common.{◌∙◌, sym, arith}
use Rattle.pages.proofs.FirstZero.{block_index, block_found, block_none, past_end}
use Rattle.pages.proofs.Colours.{zero_here}
use Rattle.pages.proofs.first_free.Goals as goal

pub returns-then-is_free : goal.returns-then-is_free
returns-then-is_free c = sym (zero_here c.args.part.now c.args.from (sym c.if-is_free.ensures))

pub overflow_add-at : goal.overflow_add-at
overflow_add-at c = record {
  fits = omega (arith, block_index c.args.part.now c.loop-i.i c.block_end-end.result _ (omega arith) (omega arith) c.lowest_zero.ensures);
}

pub returns-then-at-end : goal.returns-then-at-end
returns-then-at-end c =
    sym
    (c.loop-i.invariant.1
    ∙ block_found c.args.part.now c.loop-i.i c.block_end-end.result _ (omega arith) (omega arith) c.lowest_zero.ensures c.if-at-end.true)

pub loop-i-preserved : goal.loop-i-preserved
loop-i-preserved c = (
  omega arith,
  c.loop-i.invariant.1
      ∙ block_none c.args.part.now c.loop-i.i c.block_end-end.result _ (omega arith) (omega arith) c.lowest_zero.ensures c.if-at-end.false,
)

pub returns : goal.returns
returns c = sym (c.loop-i.invariant.1 ∙ past_end c.args.part.now c.loop-i.i (omega arith))
