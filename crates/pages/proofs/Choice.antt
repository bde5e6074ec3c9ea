-- Laws of the page that a job of a colour gets, where the pages of the colour before an index are held: one for each way out of `choose`.
-- Assumes nothing.
use Prim.Native.Nat.{ℕ, ◌+◌, ◌%◌, ◌≤◌, ◌<◌, zero-le}
use mathlib.Core.Path.{◌≡◌, refl, ap, sym, ◌∙◌}
use mathlib.Core.Bool.{Bool, true, false, false≢true}
use mathlib.Core.List.{List}
use mathlib.Core.Option.{none, some}
use native.Mathlib.Nat.{le_refl}
use native.Mathlib.Omega.{arith}
use borrow.Author.Tests.{ltb-true, ltb-false}
use lib.Dec.{ltb}
use lib.ListN.{length, get_or, drop}
use Rattle.rules.specs.Basics.{keep, first}
use Rattle.rules.proofs.Lists.{first_append, none_append, entry_same}
use Rattle.std.specs.Prelude.{Option, Some, None, is_some}
use Rattle.pages.specs.declared.Offset.{Offset}
use Rattle.pages.specs.FirstZero.{offset_of, shift, first_zero}
use Rattle.pages.specs.Colours.{is_free, free_from, free_of, pick_of, HeldBefore}
use Rattle.pages.proofs.Colours.{Lowest, lowest, free_there, there_free, free_in, of_past, of_next, of_here, zero_found, zero_whole, none_empty}

module _ (c : ℕ) (part : List ℕ) where
  -- the free pages of the colour are those from b on: the first of them is picked, or else the lowest free page
  pick_coloured : (b : ℕ) {i : ℕ} → free_of c 0 part ≡ free_of c b part → first (free_of c b part) ≡ some i → pick_of c part ≡ some i
  unfolding pick_of
  pick_coloured b {i} s e = first_append (free_of c 0 part) (free_from 0 part) (ap first s ∙ e)

  pick_other : (b : ℕ) → free_of c 0 part ≡ free_of c b part → first (free_of c b part) ≡ none → pick_of c part ≡ first_zero part
  unfolding pick_of
  pick_other b s e = none_append (free_of c 0 part) (free_from 0 part) (ap first s ∙ e) ∙ sym (zero_whole part)

  -- and so is the next one of the colour, if that is free
  pick_near : (b : ℕ) → free_of c 0 part ≡ free_of c b part → (i : ℕ) → b ≤ i → i < b + 4 → i % 4 ≡ c → is_free part i ≡ true → pick_of c part ≡ some i
  pick_near b s i l e q t =
      let u = free_in part i t in
      pick_coloured i (s ∙ of_next c part b i l e q) (of_here c part i u q (there_free part i u t))

  module _ (f : ℕ) (l : f ≤ length part) (held : HeldBefore c f part) where
    of_held : free_of c 0 part ≡ free_of c f part
    unfolding HeldBefore
    of_held = of_past c part 0 f zero-le (λ j s t u q z. omega (arith, held j t q, entry_same part j 0 1 u))

    -- the next page of the colour is free
    pub pick_next : (i : ℕ) → f ≤ i → i < f + 4 → i % 4 ≡ c → is_free part i ≡ true → pick_of c part ≡ some i
    pick_next = pick_near f of_held

    -- no page from f on is free
    pub pick_behind : shift f (first_zero (drop f part)) ≡ none → pick_of c part ≡ first_zero part
    unfolding free_of keep first
    pick_behind e = pick_other f of_held (rw (none_empty (free_from f part) (sym (zero_found part f l) ∙ e)))

    -- b is the lowest free page from f on
    module _ (b : ℕ) (e : shift f (first_zero (drop f part)) ≡ some b) where
      pub ahead_lowest : Lowest (is_free part) f (length part) b
      unfolding free_from
      ahead_lowest = lowest (is_free part) f (length part) b (sym (zero_found part f l) ∙ e)

      -- no free page of the colour stands before it
      of_ahead : (a : ℕ) → a ≤ b → free_of c 0 part ≡ free_of c a part
      unfolding HeldBefore
      of_ahead a m = of_past c part 0 a zero-le (λ j s t u q z. go j t u q z (ltb j f) refl)
        where
          go : (j : ℕ) → j < a → j < length part → j % 4 ≡ c → get_or part j 0 ≡ 0 → (x : Bool) → ltb j f ≡ x → ⊥
          go j t u q z true x = omega (arith, held j (ltb-true j f x) q, entry_same part j 0 1 u)
          go j t u q z false x = omega (arith, ahead_lowest.least j (ltb-false j f x) u (free_there part j u z))

      -- the next page of the colour after it, or it itself, is free
      pub pick_ahead : (i : ℕ) → b ≤ i → i < b + 4 → i % 4 ≡ c → is_free part i ≡ true → pick_of c part ≡ some i
      pick_ahead = pick_near b (of_ahead b (le_refl b))

      -- the first page of the colour from an index before it on, if there is one
      pub pick_found : (a : ℕ) → a ≤ b → (r : Option Offset) → offset_of r ≡ first (free_of c a part) → is_some r ≡ true → offset_of r ≡ pick_of c part
      pick_found a m (Some i) q t = sym (pick_coloured a (of_ahead a m) (sym q))
      pick_found a m None q t = absurd (false≢true t)

      -- there is none
      pub pick_lowest : (a : ℕ) → a ≤ b → (r : Option Offset) → offset_of r ≡ first (free_of c a part) → is_some r ≡ false → pick_of c part ≡ first_zero part
      pick_lowest a m (Some i) q t = absurd (false≢true (sym t))
      pick_lowest a m None q t = pick_other a (of_ahead a m) (sym q)
