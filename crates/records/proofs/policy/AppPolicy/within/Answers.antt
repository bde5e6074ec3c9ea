-- `AppPolicy::within` tests that every number of a policy has an entry in the map.
-- Assumes nothing.
use Rattle.records.proofs.Places.{within_asked}
use Rattle.records.proofs.policy.AppPolicy.within.Goals as goal

pub returns : goal.returns
returns c = let naming = c.naming.ensures.1 in
    let masked = c.below.ensures in record {
      tests = (λ p nodes a e. rw (masked, c.places_within.ensures) (within_asked a nodes _ _ c.if-self-gt-PLACES_PER_JOB.false e (naming p a)));
      few = λ e. c.if-self-gt-PLACES_PER_JOB.false;
    }
