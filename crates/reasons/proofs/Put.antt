-- Bytes put at the start of an output one by one.
-- Assumes nothing.
use Prim.Native.Nat.{ℕ, suc, ◌+◌, ◌<◌}
use mathlib.Core.Path.{◌≡◌, sym, ap, ◌∙◌}
use mathlib.Core.List.{List, [], ◌∷◌, ◌++◌, map, append_assoc}
use native.Mathlib.Nat.{zero-add}
use native.Mathlib.Numerals.{add-one}
use lib.ListN.{length, get_or, set, drop, length-map}
use lib.Seq.{drop-cons, set_at}
use Rattle.rules.specs.Basics.{from}
use Rattle.rules.proofs.Lists.{length_from, map_from_suc}

-- the bytes f 0, f 1, .. of the first i, and the next
pub put_next : (f : ℕ → ℕ) (out : List ℕ) (i : ℕ) {b : ℕ} → i < length out → b ≡ f i
    → set (map f (from 0 i) ++ drop i out) i b ≡ map f (from 0 (i + 1)) ++ drop (i + 1) out
put_next f out i {b} l e =
    let first = map f (from 0 i) in
    let long : length first ≡ i = length-map (from 0 i) f ∙ length_from 0 i in
    let last : f (0 + i) ≡ b = ap f (zero-add i) ∙ sym e in
    ap (λ (xs : List ℕ). set (first ++ xs) i b) (drop-cons out i 0 l)
    ∙ set_at first (get_or out i 0) (drop (suc i) out) b i long
    ∙ sym (rw (add-one i) (ap (λ (xs : List ℕ). xs ++ drop (suc i) out) (map_from_suc f 0 i ∙ ap (λ (x : ℕ). first ++ (x ∷ [])) last)
    ∙ append_assoc first (b ∷ []) (drop (suc i) out)))
