-- `pick` meets its contract.
-- Assumes nothing.
use mathlib.Core.Path.{sym}
use Rattle.pages.proofs.Picked.{pick_within}
use Rattle.pages.proofs.pick.Goals as goal

pub bounds-part-page : goal.bounds-part-page
bounds-part-page c = pick_within c.args.colour c.args.part.now _ (sym c.in_ok-page.ensures)
