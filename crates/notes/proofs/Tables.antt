-- Laws on the table of the nodes' names. Assumes nothing.
use mathlib.Core.Path.{◌≡◌, refl, sym, ◌∙◌}
use mathlib.Core.Bool.{Bool, true, false, ◌&&◌, and-false, and-true}
use mathlib.Core.List.{List, [], ◌∷◌}
use Prim.Native.Nat.{ℕ, suc, ◌+◌, ◌≤◌}
use native.Mathlib.Nat.{zero-add}
use native.Mathlib.Omega.{arith}
use lib.Dec.{eqb}
use lib.ListN.{length}
use Rattle.rules.specs.Basics.{all, any, same}
use Rattle.rules.specs.Notes.{strings, size_of, name_ok, table_ok, first_match}
use Rattle.notes.specs.Steps.{Split}
use Rattle.notes.proofs.Counts.{eqb_same}

-- n names before, the rest xs of the table to come
unfoldable pub rest_ok : ℕ → ℕ → List ℕ → Bool
rest_ok nodes n xs = eqb (size_of (strings xs)) (length xs) && eqb (n + length (strings xs)) nodes && all (λ w. name_ok w false) (strings xs)

pub rest_start : (nodes : ℕ) (xs : List ℕ) → table_ok nodes xs ≡ rest_ok nodes 0 xs
unfolding table_ok rest_ok
rest_start nodes xs = rw (zero-add (length (strings xs)))

module _ (nodes n : ℕ) (left : List ℕ) where
  -- no string is left
  pub rest_last : (b : Bool) → b ≡ eqb (length left) 0 → strings left ≡ [] → (b && eqb n nodes) ≡ rest_ok nodes n left
  unfolding rest_ok size_of all
  rest_last b p e =
      let q : n + 0 ≡ n = omega arith in
      rw (p, e, q, eqb_same (length left) 0 0 (length left) (λ z. sym z) (λ z. sym z)) (sym (and-true (eqb 0 (length left) && eqb n nodes)))

  -- the first string is a name or not
  module _ (word rest : List ℕ) (s : Split left word rest) where
    pub rest_bad : name_ok word false ≡ false → rest_ok nodes n left ≡ false
    unfolding rest_ok all
    rest_bad f =
        rw (s.first, f) (and-false (eqb (size_of (word ∷ strings rest)) (length left) && eqb (n + suc (length (strings rest))) nodes))

    pub rest_good : name_ok word false ≡ true → rest_ok nodes n left ≡ rest_ok nodes (n + 1) rest
    unfolding rest_ok all size_of
    rest_good t =
        let ws = strings rest in
        let z : n + suc (length ws) ≡ n + 1 + length ws = omega arith in
        rw (
          s.first,
          s.size,
          t,
          eqb_same (suc (length word) + size_of ws) (suc (length word) + length rest) (size_of ws) (length rest) (λ q. omega arith) (λ q. omega arith),
          z,
        )

-- ---- the first match: n names are another, and left is the rest of the table

pub record Looked (table left w : List ℕ) (n : ℕ) : Type 0 where
  pub room : n + length left ≤ length table
  pub some : any (same w) (strings table) ≡ any (same w) (strings left)
  pub number : first_match w (strings table) ≡ n + first_match w (strings left)

module _ (table left w : List ℕ) (n : ℕ) (h : Looked table left w n) where
  pub match_none : strings left ≡ [] → any (same w) (strings table) ≡ false
  unfolding any
  match_none e = h.some ∙ rw e refl

  module _ (name rest : List ℕ) (s : Split left name rest) where
    pub match_here : same w name ≡ true → (any (same w) (strings table) ≡ true) × (n ≡ first_match w (strings table))
    unfolding any first_match
    match_here t =
        let here : first_match w (strings left) ≡ 0 = rw (s.first, t) refl in
        (h.some ∙ rw (s.first, t) refl, omega (arith, h.number, here))

    pub match_later : same w name ≡ false → Looked table rest w (n + 1)
    unfolding any first_match
    match_later f =
        let later : first_match w (strings left) ≡ suc (first_match w (strings rest)) = rw (s.first, f) refl in
        record { room = omega (arith, h.room, s.size); some = h.some ∙ rw (s.first, f) refl; number = omega (arith, h.number, later) }
