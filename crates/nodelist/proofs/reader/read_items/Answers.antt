-- `read_items` meets its contract: at the end nothing is left to read.
-- Assumes nothing.
use Rattle.std.proofs.Common.{sym, ap, ◌∙◌, arith}
use Rattle.nodelist.specs.Reader.{ended}
use Rattle.nodelist.proofs.Bytewise.{stepped_fits, read_end, reads_byte_at, reads_items}
use Rattle.nodelist.proofs.reader.read_items.Goals as goal

pub loop-x-preserved : goal.loop-x-preserved
loop-x-preserved c = let e = c.step-at.ensures in (
  rw e (stepped_fits c.args.limit c.loop-x.at _ c.loop-x.invariant.0),
  rw e (c.loop-x.invariant.1 ∙ reads_byte_at c.args.limit c.args.text.now c.loop-x.x-index c.loop-x.at (omega arith)),
)

pub returns : goal.returns
returns c = c.end.ensures
    ∙ ap ended (sym (c.loop-x.invariant.1 ∙ read_end c.args.limit c.args.text.now c.loop-x.at c.loop-x.x-index (omega arith)))
    ∙ reads_items c.args.limit c.args.text.now c.requires
