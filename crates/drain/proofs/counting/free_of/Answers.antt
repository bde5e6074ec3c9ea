-- `counting::free_of` meets its contract: the node's part of the page table is counted.
-- Assumes nothing.
use mathlib.Core.Path.{◌∙◌}
use Rattle.placement.proofs.Grants.{inside}
use Rattle.drain.proofs.Matching.{free_is}
use Rattle.drain.proofs.counting.free_of.Goals as goal

pub returns : goal.returns
returns c = c.count_free.ensures ∙ free_is c.requires.0 c.args.node c.requires.1

pub slice_bounds-count_free-count : goal.slice_bounds-count_free-count
slice_bounds-count_free-count c = (inside c.requires.0 c.args.node c.requires.1).0

pub slice_bounds-count_free-start : goal.slice_bounds-count_free-start
slice_bounds-count_free-start c = (inside c.requires.0 c.args.node c.requires.1).0

pub slice_bounds-count_free-end : goal.slice_bounds-count_free-end
slice_bounds-count_free-end c = (inside c.requires.0 c.args.node c.requires.1).1
