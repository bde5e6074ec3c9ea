-- `hints::fresh` meets its contract: zeros are hints for any page table.
-- Assumes nothing.
use Rattle.placement.proofs.Hints.{zero_hints}
use Rattle.book.proofs.hints.fresh.Goals as goal

pub returns : goal.returns
returns c = record {
  did = c.fresh_at.ensures;
  kept = zero_hints _ _ 320;
}
