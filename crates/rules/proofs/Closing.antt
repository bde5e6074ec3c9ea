-- M-104: the closing 255 of a list.
-- Assumes nothing.
use Prim.Native.Nat.{ℕ, suc, ◌-◌, ◌≤◌}
use mathlib.Core.Path.{◌≡◌, refl, sym, ap, ◌∙◌}
use mathlib.Core.Bool.{true, false, false≢true}
use mathlib.Core.List.{List, [], ◌∷◌}
use native.Mathlib.Omega.{arith}
use lib.Dec.{eqb}
use lib.ListN.{length, get_or, take}
use Rattle.std.specs.Prelude.{Some, None}
use Rattle.std.specs.List.{slice_get}
use Rattle.std.proofs.lemmas.Option.{get_or_from_slice_get, slice_get-get_or}
use Rattle.rules.specs.Basics.{last_or, but_last}
use Rattle.rules.specs.Records.{closing_place, closes}
use Rattle.rules.proofs.Lists.{last_at, but_last_take}

-- places close by their last entry
close_at : (places : List ℕ) (k : ℕ) → length places ≡ suc k → eqb (get_or places k 0) closing_place ≡ closes places
unfolding closes
close_at [] k e = absurd (omega arith)
close_at (a ∷ rest) k e =
    let l : length rest ≡ k = omega arith in
    ap (λ (x : ℕ). eqb x closing_place) (sym (last_at a rest 0 ∙ ap (λ (i : ℕ). get_or (a ∷ rest) i 0) l))

-- where there is a last place, by that one
pub close_last : (places : List ℕ) (x : ℕ) → Some x ≡ slice_get places (length places - 1) → eqb x closing_place ≡ closes places
close_last [] x e = grind (arith, e)
close_last (a ∷ rest) x e =
    ap (λ (v : ℕ). eqb v closing_place) (sym (get_or_from_slice_get (a ∷ rest) (length (a ∷ rest) - 1) x 0 (sym e)))
    ∙ close_at (a ∷ rest) (length (a ∷ rest) - 1) (omega arith)

-- where there is none, they do not
pub close_none : (places : List ℕ) → None ≡ slice_get places (length places - 1) → false ≡ closes places
unfolding closes last_or
close_none [] e = refl
close_none (a ∷ rest) e =
    let some = slice_get-get_or (a ∷ rest) (length (a ∷ rest) - 1) 0 (omega arith) in
    grind (arith, e, some)

-- places that close are some, and without the last they are one fewer
pub closing_rest : (places : List ℕ) → closes places ≡ true → (1 ≤ length places) × (take (length places - 1) places ≡ but_last places)
unfolding closes last_or
closing_rest [] e = absurd (false≢true e)
closing_rest (a ∷ rest) e =
    let l : length (a ∷ rest) - 1 ≡ length rest = omega arith in
    (omega arith, ap (λ (k : ℕ). take k (a ∷ rest)) l ∙ sym (but_last_take a rest))
