-- `goals::next_open` meets its contract.
-- Assumes nothing.
use mathlib.Core.Path.{sym, ◌∙◌}
use lib.ListN.{get_or}
use Rattle.drain.specs.Goals.{opens}
use Rattle.drain.proofs.Open.{open_is, fails_next}
use Rattle.drain.proofs.goals.next_open.Goals as goal

pub loop-i-preserved : goal.loop-i-preserved
loop-i-preserved c = fails_next (λ k. opens c.args.free.now c.args.limit.0 (get_or c.args.order.now k 0)) c.args.from c.loop-i.i c.loop-i.invariant
    (sym (open_is c.args.free.now c.args.limit.0 _) ∙ sym c.if-is_open.ensures)
