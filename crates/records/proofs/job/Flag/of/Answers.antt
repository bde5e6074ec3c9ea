-- `Flag::of` gives the flag of a known number.
-- Assumes nothing.
use native.Mathlib.Omega.{arith}
use Rattle.rules.proofs.WellFormed.{flag_small}
use Rattle.records.proofs.job.Flag.of.Goals as goal

pub returns-in_default : goal.returns-in_default
returns-in_default c known = omega (arith, flag_small c.args.number known)
