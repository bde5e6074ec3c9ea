-- A list filled up with FF, and the map that it is.
-- Assumes nothing.
use Prim.Native.Nat.{ℕ, ◌≤◌}
use mathlib.Core.Path.{◌≡◌, sym, ap, ◌∙◌}
use mathlib.Core.Bool.{true, false, true≢false}
use mathlib.Core.List.{List, ◌++◌}
use native.Mathlib.Omega.{arith}
use borrow.Author.Tests.{eqb-true, eq-eqb}
use lib.Dec.{eqb}
use lib.ListN.{length, take, replicate, length-take}
use lib.Seq.{take-take, take-append_seam}
use Rattle.rules.specs.Maps.{map_size, no_node, nodes_in, bytes_for, good_nodes, good_map}
use Rattle.rules.proofs.Lists.{same_test, fails}
use Rattle.rules.proofs.Filled.{fill_short}
use Rattle.maps.proofs.GoodMaps.{nodes_take}
use Rattle.rules.proofs.Maps.{good_parts, parts_good, map_nodes, bytes_nodes, bytes_good}

-- a list of some nodes, filled up with FF, or cut off
abbrev pub filled_up : List ℕ → List ℕ
filled_up list = take map_size (list ++ replicate map_size no_node)

-- it is the bytes of the map where the list is not too long
pub filled_is : (list : List ℕ) → length list ≤ 64 → filled_up list ≡ bytes_for list
unfolding bytes_for
filled_is list h = fill_short map_size no_node list h

-- a filled up list with as many nodes as the list has entries has the list's entries as its nodes
nodes_filled : (list : List ℕ) → length (nodes_in (filled_up list)) ≡ length list → nodes_in (filled_up list) ≡ list
nodes_filled list e =
    nodes_take (filled_up list) ∙ ap (λ (k : ℕ). take k (filled_up list)) e
    ∙ take-take (length list) 64 (list ++ replicate map_size no_node) short ∙ take-append_seam list (replicate map_size no_node)
  where
    short : length list ≤ 64
    short =
        omega (
          arith,
          e,
          ap length (nodes_take (filled_up list)),
          length-take (length (nodes_in (filled_up list))) (filled_up list),
          length-take 64 (list ++ replicate map_size no_node),
        )

module _ (n : ℕ) (list : List ℕ) (few : n ≤ 64) where
  -- a good list's bytes are those of its map
  pub filled_good : good_nodes n list ≡ true → filled_up list ≡ bytes_for list
  filled_good g = filled_is list (good_parts n list g).few

  -- a list whose bytes are a bad map is bad
  pub list_bad : good_map n (filled_up list) ≡ false → false ≡ good_nodes n list
  list_bad h = sym (fails (λ g. true≢false (sym (bytes_good n list few (good_parts n list g)) ∙ ap (good_map n) (sym (filled_good g)) ∙ h)))

  -- a list whose bytes are a good map is good if the map has as many nodes
  pub list_good : (len : ℕ) → good_map n (filled_up list) ≡ true → len ≡ length (nodes_in (filled_up list)) → eqb len (length list) ≡ good_nodes n list
  list_good len h e = same_test to from
    where
      to : eqb len (length list) ≡ true → good_nodes n list ≡ true
      to q =
          let k : length (nodes_in (filled_up list)) ≡ length list = sym e ∙ eqb-true len (length list) q in
          ap (good_nodes n) (sym (nodes_filled list k)) ∙ parts_good n (nodes_in (filled_up list)) (map_nodes n (filled_up list) h)

      from : good_nodes n list ≡ true → eqb len (length list) ≡ true
      from g =
          eq-eqb len (length list)
          (e ∙ ap (λ (xs : List ℕ). length (nodes_in xs)) (filled_good g) ∙ ap length (bytes_nodes n list few (good_parts n list g)))
