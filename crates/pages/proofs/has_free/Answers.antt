-- `has_free` meets its contract.
-- Assumes nothing.
use Rattle.std.proofs.Common.{◌∙◌}
use Rattle.pages.proofs.FirstZero.{shift_zero}
use Rattle.pages.proofs.Colours.{zero_whole}
use Rattle.pages.proofs.Part.{some_found}
use Rattle.pages.proofs.has_free.Goals as goal

pub returns : goal.returns
returns c = c.is_some.ensures ∙ some_found c.first_free.result _ (c.first_free.ensures ∙ shift_zero _ ∙ zero_whole c.args.part.now)
