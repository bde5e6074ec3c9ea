-- `put_runs` meets its contract: the line holds one run more in each turn, until none is left.
-- Assumes nothing.
use Rattle.std.proofs.Common.{arith}
use Rattle.nodelist.proofs.LineLaws.{lined_start, lined_room, lined_step, lined_end}
use Rattle.nodelist.proofs.writer.put_runs.Goals as goal

pub loop-run-init : goal.loop-run-init
loop-run-init c = (omega arith, lined_start c.args.mask.0 c.args.line.now c.requires)

pub put_run-len-requires : goal.put_run-len-requires
put_run-len-requires c = let f = c.in-Some.ensures in (f.1, f.2, lined_room c.loop-run.invariant.1 _ _ f.3)

pub loop-run-preserved : goal.loop-run-preserved
loop-run-preserved c = let f = c.in-Some.ensures in
    (omega (arith, f.2), lined_step c.loop-run.invariant.1 _ f.3 c.put_run-len.ensures.end c.put_run-len.ensures.put)

pub returns : goal.returns
returns c = let both = lined_end c.loop-run.invariant.1 c.in_default.ensures in record { len = both.0; text = both.1 }
