-- M-105, page colours, on a part of a node's pages: "the lowest free page whose offset .., mod 4, equals" the colour; "failing that, the
-- lowest free page". Offsets are counted from the part's start, and so is the colour.
use Rattle.std.specs.Prelude.{ℕ, ◌-◌, ◌%◌, ◌<◌, ◌≡◌, Bool, List, ◌++◌, eqb, length, get_or}
use Rattle.std.proofs.Math.Option.{Option}
use Rattle.rules.specs.Basics.{keep, first, from}

-- "0 is free"
unfoldable pub is_free : List ℕ → ℕ → Bool
is_free part i = eqb (get_or part i 1) 0

-- the offset, mod 4, equals the colour
unfoldable pub is_of : ℕ → ℕ → Bool
is_of c i = eqb (i % 4) c

-- the free pages from offset a on, lowest first
unfoldable pub free_from : ℕ → List ℕ → List ℕ
free_from a part = keep (is_free part) (from a (length part - a))

-- those of them that are of colour c
unfoldable pub free_of : ℕ → ℕ → List ℕ → List ℕ
free_of c a part = keep (is_of c) (free_from a part)

-- the page that a job of colour c gets
unfoldable pub pick_of : ℕ → List ℕ → Option ℕ
pick_of c part = first (free_of c 0 part ++ free_from 0 part)

-- the pages of colour c before offset k are held
unfoldable pub HeldBefore : ℕ → ℕ → List ℕ → Type 0
HeldBefore c k part = (i : ℕ) → i < k → i % 4 ≡ c → 0 < get_or part i 1

-- ---- the masked search

-- a mask is 0 at the offsets of colour c; past its end it counts as 0
unfoldable pub Clears : ℕ → List ℕ → Type 0
Clears c mask = (k : ℕ) → k % 4 ≡ c → get_or mask k 0 ≡ 0

-- under the first n of the mask's 16 bytes, laid end to end over a block, no byte of the block is 0 where the mask is
unfoldable pub HeldUnder : List ℕ → ℕ → List ℕ → Type 0
HeldUnder mask n block = (j : ℕ) → j < length block → j % 16 < n → get_or mask (j % 16) 0 ≡ 0 → 0 < get_or block j 0
