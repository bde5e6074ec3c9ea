-- `read_ranks` meets its contract: the ranks lie below the size of the allowed set.
-- Assumes nothing.
use Rattle.std.proofs.Common.{arith}
use Rattle.rules.proofs.Masks.{rank_le}
use Rattle.nodelist.proofs.forms.read_ranks.Goals as goal

pub read_items-requires : goal.read_items-requires
read_items-requires c = omega (arith, c.size.ensures, rank_le c.args.allowed.0 64)
