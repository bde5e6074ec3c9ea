-- `AppPolicy::known` tests mode and flag.
-- Assumes nothing.
use mathlib.Core.Path.{sym}
use mathlib.Core.Logic.{inl, inr}
use Rattle.rules.specs.Records.{row_of, is_known}
use Rattle.rules.specs.Calls.{flag_fits, policy_known}
use Rattle.records.proofs.Numbers.{flag_known_lem, no_flag}
use Rattle.records.proofs.policy.AppPolicy.known.Goals as goal

pub returns-in-AMask : goal.returns-in-AMask
unfolding row_of is_known flag_fits policy_known
returns-in-AMask c ps = rw (sym c.of.ensures, c.in-AMask.is, flag_known_lem)

pub returns-in-Nothing : goal.returns-in-Nothing
unfolding row_of is_known flag_fits policy_known
returns-in-Nothing c ps = rw (sym c.of.ensures) (elim c.in-Nothing.is [ inl e ↦ rw (e, no_flag) | inr e ↦ rw (e, no_flag) ])

pub returns-in-Unknown : goal.returns-in-Unknown
unfolding row_of is_known flag_fits policy_known
returns-in-Unknown c ps = rw (sym c.of.ensures, c.in-Unknown.is)
