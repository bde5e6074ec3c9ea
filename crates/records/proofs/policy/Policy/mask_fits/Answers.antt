-- `Policy::mask_fits` tests the mask of an install.
-- Assumes nothing.
use Rattle.rules.specs.Calls.{mask_fits}
use Rattle.records.proofs.policy.Policy.mask_fits.Goals as goal

pub returns : goal.returns
unfolding mask_fits
returns c ps = cc
