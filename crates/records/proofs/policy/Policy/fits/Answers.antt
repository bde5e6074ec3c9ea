-- `Policy::fits` tests mask and places by what the mode carries.
-- Assumes nothing.
use mathlib.Core.Path.{sym}
use Rattle.rules.specs.Records.{row_of}
use Rattle.rules.specs.Calls.{policy_fits}
use Rattle.records.proofs.policy.Policy.fits.Goals as goal

pub returns-in-AMask : goal.returns-in-AMask
unfolding row_of policy_fits
returns-in-AMask c ps l = rw (sym c.of.ensures, c.in-AMask.is, c.is_empty-none.ensures, c.mask_fits.ensures ps, l)

pub returns-in-AList : goal.returns-in-AList
unfolding row_of policy_fits
returns-in-AList c ps l = rw (sym c.of.ensures, c.in-AList.is, c.is_empty-none.ensures, l)

pub returns-in-Nothing : goal.returns-in-Nothing
unfolding row_of policy_fits
returns-in-Nothing c ps l = rw (sym c.of.ensures, c.in-Nothing.is, c.is_empty-none.ensures, l)

pub returns-in-Unknown : goal.returns-in-Unknown
unfolding row_of policy_fits
returns-in-Unknown c ps l = rw (sym c.of.ensures, c.in-Unknown.is)
