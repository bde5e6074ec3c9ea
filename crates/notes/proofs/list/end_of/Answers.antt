-- `end_of` meets its contract: the first zero as `position` finds it.
-- Assumes nothing.
use Rattle.std.proofs.Common.{rules, tests, nat_eq, ap, length, ◌∙◌}
use Rattle.std.specs.Option.{unwrap_or}
use Rattle.std.proofs.lemmas.Iterator.{YieldsList-from_slice}
use Rattle.std.proofs.lemmas.Iterator.Search.{position_from_yields_List}
use Rattle.notes.proofs.Words.{zero_or_end}
use Rattle.notes.proofs.list.end_of.Goals as goal

pub returns-clause-end : goal.returns-clause-end
returns-clause-end c =
    let found = position_from_yields_List (λ b. nat_eq b 0) _ _ c.position.result c.position.ensures.ran
    (YieldsList-from_slice c.args.bytes.now cc) (λ x b q k. search (rules, tests)) in
    c.unwrap_or.ensures ∙ ap (λ at. unwrap_or at (length c.args.bytes.now)) found ∙ zero_or_end c.args.bytes.now
