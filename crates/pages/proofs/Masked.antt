-- Laws of the search under a mask: a block with no free page of the colour is passed over; how the mask is made.
-- Assumes nothing.
use Prim.Native.Nat.{ℕ, ◌+◌, ◌-◌, ◌%◌, ◌≤◌, ◌<◌}
use mathlib.Core.Path.{◌≡◌, refl, ap, ◌∙◌}
use mathlib.Core.Logic.{⊎_elim}
use mathlib.Core.Bool.{Bool, true, false, ◌||◌}
use mathlib.Core.List.{List}
use native.Mathlib.Nat.{eq-or-lt_of_le, lt_of_not-le}
use native.Mathlib.Omega.{arith}
use borrow.Author.Tests.{ltb-true, ltb-false, eqb-false}
use lib.Bits.{bit_or}
use lib.Dec.{ltb, eqb}
use lib.ListN.{length, get_or, take, drop, length-drop, length-take, get_or-eq_default}
use lib.Seq.{get_or-take, get_or-drop}
use Rattle.rules.proofs.Lists.{either_false}
use Rattle.pages.specs.Colours.{free_of, Clears, HeldUnder}
use Rattle.pages.proofs.Colours.{of_past}

-- ---- a block with no free page of the colour is passed over

pub held_past : (c : ℕ) (part mask : List ℕ) (i k : ℕ) → Clears c mask → i % 4 ≡ 0 → i + k ≤ length part
    → HeldUnder mask 16 (take k (drop i part)) → free_of c i part ≡ free_of c (i + k) part
unfolding Clears HeldUnder
held_past c part mask i k r a l h = of_past c part i (i + k) (omega arith) held
  where
    held : (j : ℕ) → i ≤ j → j < i + k → j < length part → j % 4 ≡ c → get_or part j 0 ≡ 0 → ⊥
    held j s t u q z =
        let d : i + (j - i) ≡ j = omega arith in
        let long : length (take k (drop i part)) ≡ k = simp (length-take, length-drop) (omega arith) in
        let byte : get_or (take k (drop i part)) (j - i) 0 ≡ get_or part j 0 =
        get_or-take k (drop i part) (j - i) 0 (omega arith) ∙ get_or-drop i part (j - i) 0 ∙ ap (λ (n : ℕ). get_or part n 0) d in
        omega (arith, h (j - i) (omega arith) (omega arith) (r ((j - i) % 16) (omega arith)), byte)

-- ---- the loops that test every byte under the mask

-- no byte is passed over yet
pub under_none : (mask block : List ℕ) → HeldUnder mask 0 block
unfolding HeldUnder
under_none mask block j u m z = absurd (omega arith)

-- and one of the mask's bytes more
pub under_next : (mask block : List ℕ) (i lowest : ℕ) (any : Bool) → length block ≡ 128
    → ((j : ℕ) → j < 128 → j % 16 ≡ i → lowest ≤ get_or block j 0) → (any ≡ false → HeldUnder mask i block)
    → (any || eqb (bit_or lowest (get_or mask i 0)) 0) ≡ false → HeldUnder mask (i + 1) block
unfolding HeldUnder
under_next mask block i lowest any n low held f j u m z =
    let both = either_false {a = any} {b = eqb (bit_or lowest (get_or mask i 0)) 0} f in
    let m' : j % 16 ≤ i = omega arith in
    ⊎_elim
    (λ q. lt_of_not-le (λ e.
    let none : lowest ≡ 0 = omega (arith, low j (omega arith) q) in
    let shown : get_or mask i 0 ≡ 0 = rw q at z in
    eqb-false (bit_or lowest (get_or mask i 0)) 0 both.1 (rw (none, shown))))
    (λ s. held both.0 j u s z)
    (eq-or-lt_of_le m')

-- ---- the loop that makes the mask

pub shaded_all : (c : ℕ) (mask : List ℕ) → ((k : ℕ) → k < length mask → k % 4 ≡ c → get_or mask k 0 ≡ 0) → Clears c mask
unfolding Clears
shaded_all c mask f k q = go (ltb k (length mask)) refl
  where
    go : (b : Bool) → ltb k (length mask) ≡ b → get_or mask k 0 ≡ 0
    go true e = f k (ltb-true k (length mask) e) q
    go false e = get_or-eq_default mask 0 (ltb-false k (length mask) e)
