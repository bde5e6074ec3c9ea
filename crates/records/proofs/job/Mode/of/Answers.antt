-- `Mode::of` gives the mode of a well-formed record.
-- Assumes nothing.
use mathlib.Core.Path.{◌≡◌, refl}
use native.Mathlib.Omega.{arith}
use Rattle.rules.specs.Records.{row_of}
use Rattle.rules.proofs.WellFormed.{formed, mode_small}
use Rattle.records.specs.Jobs.{record_of}
use Rattle.records.proofs.Decoded.{nothing_again, mask_again, list_again}
use Rattle.records.proofs.job.Mode.of.Goals as goal

pub returns-in_default : goal.returns-in_default
unfolding record_of row_of
returns-in_default c n w = let x = record_of c.args.from in
    let h = formed n x w in
    let e : x.mode ≡ 0 = omega (arith, mode_small x.mode h.mode_known_lem) in
    nothing_again n x h 0 e refl

pub returns-in-1 : goal.returns-in-1
unfolding record_of row_of
returns-in-1 c n w = let h = formed n _ w in mask_again n _ h 1 c.in-1.is _ refl (c.of-flag.ensures h.flag_known_lem)

pub returns-in-2 : goal.returns-in-2
unfolding record_of row_of
returns-in-2 c n w = let h = formed n _ w in mask_again n _ h 2 c.in-2.is _ refl (c.of-flag.ensures h.flag_known_lem)

pub returns-in-3 : goal.returns-in-3
unfolding record_of row_of
returns-in-3 c n w = let h = formed n _ w in mask_again n _ h 3 c.in-3.is _ refl (c.of-flag.ensures h.flag_known_lem)

pub returns-in-4 : goal.returns-in-4
unfolding record_of row_of
returns-in-4 c n w = list_again n _ (formed n _ w) 4 c.in-4.is refl

pub returns-in-5 : goal.returns-in-5
unfolding record_of row_of
returns-in-5 c n w = list_again n _ (formed n _ w) 5 c.in-5.is refl

pub returns-in-6 : goal.returns-in-6
unfolding record_of row_of
returns-in-6 c n w = list_again n _ (formed n _ w) 6 c.in-6.is refl
