-- `AppPolicy::naming` counts the places that name nodes: all, or all but a closing 255.
-- Assumes nothing.
use mathlib.Core.Path.{◌≡◌, sym, ap, ◌∙◌}
use mathlib.Core.Bool.{Bool, ◌&&◌}
use native.Mathlib.Omega.{arith}
use lib.Dec.{eqb}
use lib.ListN.{take, length-take}
use Rattle.rules.specs.Records.{closes}
use Rattle.rules.proofs.Closing.{closing_rest}
use Rattle.rules.proofs.Lists.{both_true}
use Rattle.records.proofs.Places.{naming_others, naming_all}
use Rattle.records.proofs.policy.AppPolicy.naming.Goals as goal

pub overflow_sub-result : goal.overflow_sub-result
overflow_sub-result c = let tested : (eqb c.args.self.mode 4 && c.closes.result) ≡
    (eqb c.args.self.mode 4 && closes (take c.args.self.len c.args.self.places)) = ap (λ (b : Bool). eqb c.args.self.mode 4 && b) c.closes.ensures in
    let e = sym tested ∙ c.if-self-closes.true in
    let some = (closing_rest (take c.args.self.len c.args.self.places) (both_true {a = eqb c.args.self.mode 4} e).1).0 in
    omega (arith, some, length-take c.args.self.len c.args.self.places)

pub returns-then-self-closes : goal.returns-then-self-closes
returns-then-self-closes c = let tested : (eqb c.args.self.mode 4 && c.closes.result) ≡
    (eqb c.args.self.mode 4 && closes (take c.args.self.len c.args.self.places)) = ap (λ (b : Bool). eqb c.args.self.mode 4 && b) c.closes.ensures in
    (omega arith, λ p a. naming_others a c.requires (sym tested ∙ c.if-self-closes.true))

pub returns : goal.returns
returns c = let tested : (eqb c.args.self.mode 4 && c.closes.result) ≡ (eqb c.args.self.mode 4 && closes (take c.args.self.len c.args.self.places)) =
    ap (λ (b : Bool). eqb c.args.self.mode 4 && b) c.closes.ensures in
    (omega arith, λ p a. naming_all a c.requires (sym tested ∙ c.if-self-closes.false))
