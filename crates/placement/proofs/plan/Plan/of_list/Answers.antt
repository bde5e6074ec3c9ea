-- `plan::Plan::of_list` meets its contract: with a closing 255 or without.
-- Assumes nothing.
use mathlib.Core.Path.{◌≡◌, refl, sym, ◌∙◌}
use native.Mathlib.Omega.{arith}
use borrow.Author.Rules.{rules}
use lib.ListN.{length}
use Rattle.rules.specs.Records.{places_per_job}
use Rattle.rules.specs.SearchOrder.{listed}
use Rattle.placement.proofs.Plans.{list_walk}
use Rattle.placement.proofs.plan.Plan.of_list.Goals as goal

-- a closing 255
pub returns-then-closes : goal.returns-then-closes
unfolding listed
returns-then-closes c = let sixteen : length c.args.places ≡ places_per_job = search rules in
    let tries = list_walk c.args.places c.args.len (rw sixteen c.requires) in
    rw (c.with-walk.ensures, sym c.closes.ensures ∙ c.if-closes.true, tries) record {
      as_ruled = refl;
      inside = λ n l. (c.requires, omega arith, l);
    }

-- none
pub returns : goal.returns
unfolding listed
returns c = let sixteen : length c.args.places ≡ places_per_job = search rules in
    let tries = list_walk c.args.places c.args.len (rw sixteen c.requires) in
    rw (c.with-walk.ensures, sym c.closes.ensures ∙ c.if-closes.false, tries) record {
      as_ruled = refl;
      inside = λ n l. (c.requires, omega arith);
    }
