-- `lowest_free` meets its contract.
-- Assumes nothing.
use Rattle.std.proofs.Common.{◌∙◌, ap}
use Rattle.pages.specs.FirstZero.{offset_of}
use Rattle.pages.proofs.FirstZero.{or_behind}
use Rattle.pages.proofs.lowest_free.Goals as goal

pub returns : goal.returns
returns c =
    ap offset_of c.or.ensures
    ∙ or_behind c.args.from c.args.part.now c.requires.0 c.first_free-behind.result c.args.ahead c.first_free-behind.ensures c.requires.1
