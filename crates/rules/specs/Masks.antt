-- Document 01, "Masks". Everything is over the number of bits w of a mask; the masks of the records have 64.
use Rattle.std.specs.Prelude.{ℕ, zero, suc, ◌+◌, ◌-◌, ◌*◌, ◌/◌, ◌%◌, ◌^◌, Bool, ◌&&◌, cond, eqb, ltb}
use Rattle.std.specs.Int.Bits.{bit_and, bit_or}

-- "N nodes, 1 to 64": the masks of a record have a bit for each
abbrev pub most_nodes : ℕ
most_nodes = 64

-- "Bit n of a mask stands for node n": the bit, 0 or 1
abbrev pub bit : ℕ → ℕ → ℕ
bit m n = m / 2 ^ n % 2

-- "Bit n of a mask stands for node n": node n is in the mask
abbrev pub has : ℕ → ℕ → Bool
has m n = eqb (bit m n) 1

-- the mask is empty
abbrev pub is_empty : ℕ → Bool
is_empty m = eqb m 0

-- the mask has no bit at n or above
abbrev pub below : ℕ → ℕ → Bool
below n m = ltb m (2 ^ n)

-- all nodes below n
abbrev pub all_nodes : ℕ → ℕ
all_nodes n = 2 ^ n - 1

-- the nodes in both masks
abbrev pub both : ℕ → ℕ → ℕ
both a b = bit_and a b

-- the nodes in one of two masks
abbrev pub either : ℕ → ℕ → ℕ
either a b = bit_or a b

-- all nodes of a are in b
abbrev pub within : ℕ → ℕ → Bool
within a b = eqb (both a b) a

-- the mask with node n
abbrev pub insert : ℕ → ℕ → ℕ
insert m n = m + (1 - bit m n) * 2 ^ n

-- the mask of the nodes below w that pass the test
unfoldable pub mask_of : ℕ → (ℕ → Bool) → ℕ
mask_of zero p = 0
mask_of (suc w) p = mask_of w p + cond (p w) (2 ^ w) 0

-- "Ranks and sizes are counts of ones in the mask": the ones below n
unfoldable pub rank : ℕ → ℕ → ℕ
rank m zero = 0
rank m (suc n) = rank m n + bit m n

-- "Ranks and sizes are counts of ones in the mask": all ones of a mask of w bits
abbrev pub size : ℕ → ℕ → ℕ
size w m = rank m w

-- "the allowed node of rank b": the node below w that is in the mask and has rank r
unfoldable pub select : ℕ → ℕ → ℕ → ℕ
select zero m r = 0
select (suc n) m r = cond (has m n && eqb (rank m n) r) n (select n m r)

-- the lowest node of a mask that is not empty is its node of rank 0
abbrev pub lowest : ℕ → ℕ → ℕ
lowest w m = select w m 0

-- the mask of the nodes f b, for each b below w that is in u
unfoldable pub image : ℕ → (ℕ → ℕ) → ℕ → ℕ
image u f zero = 0
image u f (suc b) = let rest = image u f b in let more = insert rest (f b) in cond (has u b) more rest

-- "user bit b gives the allowed node of rank b mod w, ranks from 0 upwards"
abbrev pub folded_to : ℕ → ℕ → ℕ → ℕ
folded_to w allowed b = select w allowed (b % size w allowed)

-- "Folded (relative): with w allowed nodes .. All 64 user bits may be used"; the allowed set is not empty
unfoldable pub folded : ℕ → ℕ → ℕ → ℕ
folded w user allowed = image user (folded_to w allowed) w

-- "a node of rank r in the old allowed set becomes the node of rank r mod w in the new one of w nodes"
abbrev pub remapped_to : ℕ → ℕ → ℕ → ℕ → ℕ
remapped_to w old new n = select w new (rank old n % size w new)

-- "Remapped (flag 0 at rebind)"; the new set is not empty
unfoldable pub remapped : ℕ → ℕ → ℕ → ℕ → ℕ
remapped w effective old new = image effective (remapped_to w old new) w

-- for a proof that computes: `unfolding open_masks` opens every definition of this file
unfoldable pub open_masks : Unit {0}
unfolding mask_of rank select image folded remapped
open_masks = tt
