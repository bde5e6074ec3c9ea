-- `has_room` meets its contract: the node's part of the page table is looked at.
-- Assumes nothing.
use mathlib.Core.Path.{◌∙◌}
use Rattle.placement.proofs.Grants.{inside}
use Rattle.reasons.proofs.Room.{room_is}
use Rattle.reasons.proofs.has_room.Goals as goal

pub returns : goal.returns
returns c = c.has_free.ensures ∙ room_is c.requires.0 c.args.node.0 c.requires.1

pub slice_bounds-has_free-count : goal.slice_bounds-has_free-count
slice_bounds-has_free-count c = (inside c.requires.0 c.args.node.0 c.requires.1).0

pub slice_bounds-has_free-start : goal.slice_bounds-has_free-start
slice_bounds-has_free-start c = (inside c.requires.0 c.args.node.0 c.requires.1).0

pub slice_bounds-has_free-end : goal.slice_bounds-has_free-end
slice_bounds-has_free-end c = (inside c.requires.0 c.args.node.0 c.requires.1).1
