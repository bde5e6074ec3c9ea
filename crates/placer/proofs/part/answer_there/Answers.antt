-- What the part read lies within the bytes that are there, what it wrote within the output, and no whole record is left.
use Rattle.std.proofs.Common.{sym, arith}
use Rattle.std.proofs.Math.Seq.{length-take-le}
use Rattle.journal.proofs.Within.{written_within}
use Rattle.placer.proofs.Came.{read_there, goes_on}
use Rattle.placer.proofs.part.answer_there.Goals as goal

-- the answers lie within the output
pub slice_bounds-write_all-end : goal.slice_bounds-write_all-end
slice_bounds-write_all-end g c = written_within _ _ _ _ _ c.run_part-part.ensures

pub slice_bounds-write_all-end-2 : goal.slice_bounds-write_all-end-2
slice_bounds-write_all-end-2 g c = sym (length-take-le c.run_part-part.result.written _ (written_within _ _ _ _ _ c.run_part-part.ensures))

-- the records that were answered lie within the bytes that are there
pub overflow_sub-there : goal.overflow_sub-there
overflow_sub-there g c = read_there _ _ c.args.input.now c.args.there _ _ (omega arith) c.run_part-part.result _ _ c.run_part-part.ensures

pub keep-requires : goal.keep-requires
keep-requires g c = omega (arith, read_there _ _ c.args.input.now c.args.there _ _ (omega arith) c.run_part-part.result _ _ c.run_part-part.ensures)

pub overflow_sub-result : goal.overflow_sub-result
overflow_sub-result g c = read_there _ _ c.args.input.now c.args.there _ _ (omega arith) c.run_part-part.result _ _ c.run_part-part.ensures

pub returns-then-part-ended : goal.returns-then-part-ended
returns-then-part-ended g c =
    goes_on _ _ c.args.input.now c.args.there c.args.ended c.args.output.now (omega arith) c.run_part-part.result _ _ c.run_part-part.ensures (omega arith)
    c.if-part-ended.true c.keep.ensures
