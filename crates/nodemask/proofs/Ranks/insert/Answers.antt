-- `Ranks::insert` meets its contract: `m | (1 << r)` is m with rank r.
-- Assumes nothing.
use Rattle.rules.proofs.Masks.{or_shifted}
use Rattle.nodemask.proofs.Ranks.insert.Goals as goal

pub returns : goal.returns
returns c = or_shifted 64 c.args.self.0 c.args.rank.0 c.requires
