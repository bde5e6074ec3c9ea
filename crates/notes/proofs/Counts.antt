-- Laws on counting the names of a list, string by string. Assumes nothing.
use mathlib.Core.Path.{◌≡◌, refl, sym, ap, ◌∙◌}
use mathlib.Core.Bool.{Bool, true, false, not, ◌&&◌, and-false}
use mathlib.Core.List.{List, [], ◌∷◌}
use Prim.Native.Nat.{ℕ, suc, ◌+◌, ◌≤◌, ◌<◌}
use native.Mathlib.Nat.{zero-add}
use native.Mathlib.Omega.{arith}
use lib.Dec.{eqb, leb}
use lib.ListN.{length}
use borrow.Author.Tests.{eq-eqb, ne_eqb, le-leb, lt-leb, eqb-true, eqb-false}
use Rattle.rules.specs.Basics.{same, is_nil, between}
use Rattle.rules.specs.Notes.{strings, size_of, name_ok, names_ok, list_ok, text_word, data_word, any_word, closing_word}
use Rattle.notes.specs.Steps.{name_count, Split}

-- n names before, the strings ws in len bytes to come: the list is good
unfoldable pub fits : ℕ → List (List ℕ) → ℕ → Bool
fits n ws len = eqb (size_of ws) len && leb (n + length ws) 16 && names_ok ws

-- n names of a list were counted, and left is the rest of it
pub record Counted (list left : List ℕ) (n : ℕ) : Type 0 where
  pub few : n ≤ 16
  pub good : list_ok list ≡ fits n (strings left) (length left)
  pub names : length (strings list) ≡ n + length (strings left)

-- ---- tests

and_mid : (p r : Bool) → (p && false && r) ≡ false
and_mid true r = refl
and_mid false r = refl

size_off : (n : ℕ) (ws : List (List ℕ)) (len : ℕ) → (size_of ws ≡ len → ⊥) → fits n ws len ≡ false
unfolding fits
size_off n ws len e = rw (ne_eqb (size_of ws) len e)

too_many : (n : ℕ) (ws : List (List ℕ)) (len : ℕ) → 16 < n + length ws → fits n ws len ≡ false
unfolding fits
too_many n ws len l = rw (lt-leb (n + length ws) 16 l) (and_mid (eqb (size_of ws) len) (names_ok ws))

not_names : (n : ℕ) (ws : List (List ℕ)) (len : ℕ) → names_ok ws ≡ false → fits n ws len ≡ false
unfolding fits
not_names n ws len e = rw e (and-false (eqb (size_of ws) len && leb (n + length ws) 16))

pub eqb_same : (a b c d : ℕ) → (a ≡ b → c ≡ d) → (c ≡ d → a ≡ b) → eqb a b ≡ eqb c d
eqb_same a b c d f g = by (eqb a b) refl
  where
    by : (t : Bool) → eqb a b ≡ t → eqb a b ≡ eqb c d
    by true e = e ∙ sym (eq-eqb c d (f (eqb-true a b e)))
    by false e = e ∙ sym (ne_eqb c d (λ q. eqb-false a b e (g q)))

-- ---- counting

pub counted_start : (list : List ℕ) → Counted list list 0
unfolding list_ok fits
counted_start list = record {
  few = omega arith;
  good = rw (zero-add (length (strings list))) refl;
  names = omega arith;
}

module _ (list left : List ℕ) (n : ℕ) (h : Counted list left n) (e : strings left ≡ []) where
  -- bytes with no zero
  pub counted_open : (length left ≡ 0 → ⊥) → list_ok list ≡ false
  unfolding size_of
  counted_open f = h.good ∙ rw e (size_off n [] (length left) (λ q. f (sym q)))

  pub counted_end : length left ≡ 0 → (list_ok list ≡ true) × (n ≡ name_count list)
  unfolding name_count fits size_of names_ok
  counted_end z =
      let q : n + 0 ≡ n = omega arith in
      let good : list_ok list ≡ true = h.good ∙ rw (e, z, q, le-leb n 16 h.few) refl in
      let all : length (strings list) ≡ n = h.names ∙ rw e q in
      (good, rw (good, all) refl)

and_more : (p q : Bool) → (p && q) ≡ true → (p && true) ≡ true
and_more true q e = refl
and_more false q e = e

-- a name that may stand before another may stand last
mid_last : (w : List ℕ) (b : Bool) → name_ok w false ≡ true → name_ok w b ≡ true
unfolding name_ok
mid_last w false e = e
mid_last w true e =
    and_more (between 1 15 (length w) && not (same w text_word) && not (same w data_word) && not (same w any_word)) (not (same w closing_word)) e

empty_list : {A : Type 0} (l : List A) → length l ≡ 0 → l ≡ []
empty_list [] e = refl
empty_list (x ∷ xs) e = absurd (omega arith)

-- a string that is a name or not: `last` says that nothing follows its zero
module _ (n : ℕ) (w rest : List ℕ) where
  bad_name : (last : Bool) → eqb (length rest) 0 ≡ last → name_ok w last ≡ false → fits n (w ∷ strings rest) (suc (length w) + length rest) ≡ false
  unfolding names_ok strings size_of is_nil
  bad_name true l e = not_names n (w ∷ strings rest) _ (at (empty_list rest (eqb-true _ _ l)))
    where
      at : rest ≡ [] → names_ok (w ∷ strings rest) ≡ false
      at q = rw (q, e)
  bad_name false l e = by (strings rest) refl
    where
      by : (ws : List (List ℕ)) → strings rest ≡ ws → fits n (w ∷ strings rest) (suc (length w) + length rest) ≡ false
      by [] q = rw q (size_off n (w ∷ []) (suc (length w) + length rest) (λ z. eqb-false (length rest) 0 l (omega arith)))
      by (v ∷ ws) q = rw q (not_names n (w ∷ v ∷ ws) (suc (length w) + length rest) (rw e))

  good_name : (last : Bool) → eqb (length rest) 0 ≡ last → name_ok w last ≡ true
      → fits n (w ∷ strings rest) (suc (length w) + length rest) ≡ fits (n + 1) (strings rest) (length rest)
  unfolding fits names_ok size_of is_nil strings
  good_name true l e =
      let q : rest ≡ [] = empty_list rest (eqb-true _ _ l) in
      let z : n + 1 + 0 ≡ n + 1 = omega arith in
      rw (q, e, eqb_same (suc (length w) + 0) (suc (length w) + 0) 0 0 (λ _. refl) (λ _. refl), z)
  good_name false l e =
      let z : n + suc (length (strings rest)) ≡ n + 1 + length (strings rest) = omega arith in
      rw (
        mid_last w (is_nil (strings rest)) e,
        eqb_same (suc (length w) + size_of (strings rest)) (suc (length w) + length rest) (size_of (strings rest)) (length rest)
            (λ q. omega arith) (λ q. omega arith),
        z,
      )

-- ---- counting the string that comes first

module _ (list left word rest : List ℕ) (n : ℕ) (h : Counted list left n) (s : Split left word rest) where
  -- a 17th name
  pub counted_full : 16 ≤ n → list_ok list ≡ false
  counted_full m = h.good ∙ rw s.first (too_many n (word ∷ strings rest) (length left) (omega arith))

  pub counted_bad : (last : Bool) → eqb (length rest) 0 ≡ last → name_ok word last ≡ false → list_ok list ≡ false
  counted_bad last l e = h.good ∙ rw (s.first, s.size) (bad_name n word rest last l e)

  pub counted_next : n < 16 → (last : Bool) → eqb (length rest) 0 ≡ last → name_ok word last ≡ true → Counted list rest (n + 1)
  counted_next m last l e = record {
    few = omega arith;
    good = h.good ∙ rw (s.first, s.size) (good_name n word rest last l e);
    names = omega (arith, h.names, ap length s.first);
  }
