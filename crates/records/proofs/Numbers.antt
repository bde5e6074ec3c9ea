-- The numbers of modes and flags, as the code tests them.
-- Assumes nothing.
use Prim.Native.Nat.{ℕ, zero, suc, ◌≤◌, ◌<◌}
use mathlib.Core.Path.{◌≡◌, refl, sym, ◌∙◌}
use mathlib.Core.Bool.{true, false, ◌&&◌, and-false}
use mathlib.Core.List.{[], ◌∷◌}
use native.Mathlib.Omega.{arith}
use lib.Dec.{leb, eqb}
use lib.ListN.{get_or-eq_default}
use borrow.Author.Tests.{le-leb, lt-leb, ne_eqb}
use Rattle.rules.specs.Records.{default, preferred, bind, interleave, list, ring, early, unknownMode, mode_of}
use Rattle.rules.specs.Records.{row_of, is_known, mode_known, flag_of, flag_known, Record, effective_fits}

-- a number from k on that is not k is above k
pub past : {k m : ℕ} → k ≤ m → (m ≡ k → ⊥) → suc k ≤ m
past l n = omega arith

-- a mode above 6 is unknown
pub unknown_mode : (m : ℕ) → 7 ≤ m → mode_of m ≡ unknownMode
unknown_mode m l = get_or-eq_default (default ∷ preferred ∷ bind ∷ interleave ∷ list ∷ ring ∷ early ∷ []) unknownMode l

-- a mode is known exactly when it is at most 6
pub mode_known_lem : (m : ℕ) → leb m 6 ≡ mode_known (mode_of m)
unfolding row_of is_known
mode_known_lem zero = refl
mode_known_lem (suc zero) = refl
mode_known_lem (suc (suc zero)) = refl
mode_known_lem (suc (suc (suc zero))) = refl
mode_known_lem (suc (suc (suc (suc zero)))) = refl
mode_known_lem (suc (suc (suc (suc (suc zero))))) = refl
mode_known_lem (suc (suc (suc (suc (suc (suc zero)))))) = refl
mode_known_lem (suc (suc (suc (suc (suc (suc (suc m))))))) = lt-leb (suc (suc (suc (suc (suc (suc (suc m))))))) 6 (omega arith)

-- a flag is known exactly when it is at most 2
pub flag_known_lem : (f : ℕ) → leb f 2 ≡ flag_known (flag_of f)
unfolding flag_known
flag_known_lem zero = refl
flag_known_lem (suc zero) = refl
flag_known_lem (suc (suc zero)) = refl
flag_known_lem (suc (suc (suc f))) = lt-leb (suc (suc (suc f))) 2 (omega arith)

-- no effective mask fits a flag above 2
pub no_flag_fits : (n : ℕ) (r : Record) (f : ℕ) → (f ≡ 0 → ⊥) → (f ≡ 1 → ⊥) → (f ≡ 2 → ⊥) → false ≡ effective_fits n r (flag_of f)
unfolding effective_fits
no_flag_fits n r zero a b c = absurd (a refl)
no_flag_fits n r (suc zero) a b c = absurd (b refl)
no_flag_fits n r (suc (suc zero)) a b c = absurd (c refl)
no_flag_fits n r (suc (suc (suc f))) a b c = refl

-- a flag of at most 2 is known
pub small_flag : (f : ℕ) → f < 3 → flag_known (flag_of f) ≡ true
small_flag f l = sym (flag_known_lem f) ∙ le-leb f 2 (omega arith)

-- no flag is a known flag
pub no_flag : (f : ℕ) → (flag_known (flag_of f) && eqb f 0) ≡ eqb f 0
unfolding flag_known
no_flag zero = refl
no_flag (suc f) = rw (ne_eqb (suc f) 0 (λ e. omega arith), and-false)
