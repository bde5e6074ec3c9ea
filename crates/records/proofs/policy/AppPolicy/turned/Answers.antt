-- `AppPolicy::turned` turns mask and places into system nodes.
-- Assumes nothing.
use mathlib.Core.Path.{refl}
use borrow.Author.Tests.{eq-eqb, ne_eqb}
use Rattle.records.proofs.Places.{turned_stands}
use Rattle.records.proofs.policy.AppPolicy.turned.Goals as goal

pub returns-else-self-eq2 : goal.returns-else-self-eq2
returns-else-self-eq2 c = let plain = ne_eqb c.args.self.flag 2 c.if-self-eq2.false in
    record {
      stands = (λ p a. turned_stands a _ _ _ c.requires.0 (rw plain c.turned_mask-user.ensures) c.turned_places-places.ensures);
      same = (refl, refl, refl);
    }

pub returns-then-self-eq2 : goal.returns-then-self-eq2
returns-then-self-eq2 c = let relative = eq-eqb c.args.self.flag 2 c.if-self-eq2.true in
    record {
      stands = (λ p a. turned_stands a _ _ _ c.requires.0 (rw relative) c.turned_places-places.ensures);
      same = (refl, refl, refl);
    }
