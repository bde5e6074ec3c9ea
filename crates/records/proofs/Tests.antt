-- The tests of a record, as the code makes them.
-- Assumes nothing.
use Prim.Native.Nat.{ℕ}
use mathlib.Core.Path.{◌≡◌}
use mathlib.Core.Bool.{Bool, ◌&&◌, and_assoc, and_comm}
use lib.Dec.{leb}
use Rattle.rules.specs.Records.{Record, carries, mode_of, unused_zero, allowed_fits, cursor_fits, data_fits, well_formed}
use Rattle.records.proofs.Numbers.{mode_known_lem, flag_known_lem}

-- the first tests of a record, as the code makes them
abbrev pub first_tests : ℕ → Record → Bool
first_tests n x = unused_zero x && leb x.mode 6 && leb x.flag 2 && allowed_fits n x

-- a record's tests, the first and the others
pub tested : (n : ℕ) (x : Record) → well_formed n x ≡ (first_tests n x && (data_fits n x (carries (mode_of x.mode)) && cursor_fits n x))
unfolding well_formed
tested n x =
    rw (mode_known_lem x.mode, flag_known_lem x.flag, and_comm (data_fits n x (carries (mode_of x.mode))) (cursor_fits n x)) (simp and_assoc)
