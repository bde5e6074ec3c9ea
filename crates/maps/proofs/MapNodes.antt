-- The nodes of a map's bytes, entry by entry.
-- Assumes nothing.
use Prim.Native.Nat.{ℕ, zero, suc, ◌+◌, ◌≤◌, ◌<◌}
use mathlib.Core.Path.{◌≡◌, refl, sym, ap, ◌∙◌}
use mathlib.Core.Bool.{Bool, true, false, cond}
use mathlib.Core.List.{List, [], ◌∷◌, map}
use native.Mathlib.Numerals.{add-one}
use native.Mathlib.Omega.{arith}
use borrow.Author.Tests.{eq-eqb, ne_eqb}
use lib.Dec.{eqb}
use lib.ListN.{length, get_or, set, drop, drop_of_length-le, length-map, get_or-map}
use lib.Seq.{drop-cons}
use Rattle.rules.specs.Maps.{no_node, nodes_in, system_node, entry_from}
use Rattle.rules.specs.Masks.{bit, insert, image}
use Rattle.rules.proofs.Filled.{filled, fill_step}
use Rattle.rules.proofs.Masks.{image_in, image_out}

-- a map has no more nodes than bytes
pub nodes_le : (bs : List ℕ) → length (nodes_in bs) ≤ length bs
unfolding nodes_in
nodes_le [] = omega arith
nodes_le (b ∷ bs) = go (eqb b no_node) (nodes_le bs)
  where
    go : (t : Bool) → length (nodes_in bs) ≤ length bs → length (cond t [] (b ∷ nodes_in bs)) ≤ suc (length bs)
    go true h = omega arith
    go false h = omega arith

-- the byte of an application number is its node
pub node_byte : (bs : List ℕ) (a : ℕ) → a < length (nodes_in bs) → get_or bs a 0 ≡ system_node (nodes_in bs) a
unfolding nodes_in
node_byte [] a h = absurd (omega arith)
node_byte (b ∷ bs) a h = go (eqb b no_node) a h (node_byte bs)
  where
    go : (t : Bool) (a : ℕ) → a < length (cond t [] (b ∷ nodes_in bs))
        → ((a : ℕ) → a < length (nodes_in bs) → get_or bs a 0 ≡ system_node (nodes_in bs) a)
        → get_or (b ∷ bs) a 0 ≡ system_node (cond t [] (b ∷ nodes_in bs)) a
    go true a h rest = absurd (omega arith)
    go false zero h rest = refl
    go false (suc a) h rest = rest a (omega arith)

-- one entry more is written, the image of a list's next
pub fill_node : (w v : ℕ) (f : ℕ → ℕ) (xs : List ℕ) (i x : ℕ) → i < length xs → i < w → x ≡ f (get_or xs i 0)
    → set (filled w v (map f xs) i) i x ≡ filled w v (map f xs) (i + 1)
fill_node w v f xs i x h l e =
    let entry : x ≡ get_or (map f xs) i (f 0) = e ∙ sym (get_or-map f xs i 0) in
    ap (set (filled w v (map f xs) i) i) entry ∙ fill_step w v (map f xs) i (f 0) (rw length-map h) l

-- ---- the entry that a node stands in

module _ (bs : List ℕ) (a k : ℕ) where
  -- at an FF there are no more
  pub named_end : a < length bs → get_or bs a 0 ≡ no_node → entry_from a (nodes_in (drop a bs)) k ≡ no_node
  unfolding nodes_in entry_from
  named_end h e = rw (drop-cons bs a 0, eq-eqb (get_or bs a 0) no_node e)

  -- the node stands here
  pub named_here : a < length bs → (get_or bs a 0 ≡ no_node → ⊥) → get_or bs a 0 ≡ k → entry_from a (nodes_in (drop a bs)) k ≡ a
  unfolding nodes_in entry_from
  named_here h n e = rw (drop-cons bs a 0, ne_eqb (get_or bs a 0) no_node n, eq-eqb (get_or bs a 0) k e)

  -- or further on
  pub named_next : a < length bs → (get_or bs a 0 ≡ no_node → ⊥) → (get_or bs a 0 ≡ k → ⊥)
      → entry_from a (nodes_in (drop a bs)) k ≡ entry_from (a + 1) (nodes_in (drop (a + 1) bs)) k
  unfolding nodes_in entry_from
  named_next h n e = rw (add-one, drop-cons bs a 0, ne_eqb (get_or bs a 0) no_node n, ne_eqb (get_or bs a 0) k e)

  -- past the last byte there are no more
  pub named_past : length bs ≤ a → entry_from a (nodes_in (drop a bs)) k ≡ no_node
  unfolding nodes_in entry_from
  named_past h = rw (drop_of_length-le bs h)

-- ---- a mask that is turned bit by bit

module _ (u : ℕ) (f : ℕ → ℕ) (a m : ℕ) (so_far : m ≡ image u f a) where
  -- the next bit is set
  pub image_more : (n : ℕ) → bit u a ≡ 1 → n ≡ f a → insert m n ≡ image u f (a + 1)
  image_more n h e = rw (add-one, image_in u f a h, so_far, e)

  -- the next bit is not set
  pub image_same : (bit u a ≡ 1 → ⊥) → m ≡ image u f (a + 1)
  image_same h = rw (add-one, image_out u f a h) so_far
