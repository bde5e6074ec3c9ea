-- `Mask::insert` meets its contract: `m | (1 << n)` is m with node n.
-- Assumes nothing.
use Rattle.rules.proofs.Masks.{or_shifted}
use Rattle.nodemask.proofs.Mask.insert.Goals as goal

pub returns : goal.returns
returns c = or_shifted 64 c.args.self.0 c.args.node.0 c.requires
