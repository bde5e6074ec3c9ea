-- Which of a map's bytes its nodes are, and when the map is good.
-- Assumes nothing.
use Prim.Native.Nat.{ℕ, suc, ◌+◌, ◌≤◌, ◌<◌}
use mathlib.Core.Path.{◌≡◌, refl, sym, ap, ap₂, ◌∙◌}
use mathlib.Core.Logic.{◌≢◌, ⊎_elim}
use mathlib.Core.Bool.{Bool, true, false, not, ◌&&◌, ◌||◌, cond, true≢false}
use mathlib.Core.List.{List, [], ◌∷◌, ◌++◌, append-nil}
use native.Mathlib.Numerals.{add-one}
use native.Mathlib.Nat.{pos_of_ne-zero}
use native.Mathlib.Omega.{arith}
use borrow.Author.Tests.{eqb-true, eqb-false, eq-eqb, ne_eqb, ltb-true, not-true, not-false}
use lib.Dec.{eqb, ltb}
use lib.ListN.{length, get_or, take, drop, take-append-drop, length-append}
use lib.Seq.{take-suc, length-take-le}
use Rattle.rules.specs.Basics.{all, keep}
use Rattle.rules.specs.Maps.{map_size, no_node, nodes_in, different, good_nodes, good_map}
use Rattle.rules.specs.Masks.{most_nodes}
use Rattle.rules.proofs.Lists.{◌∈◌, both_true, both_hold, either_true, either_false, fails, all_true, true_all, all_keep, none_keep, keep_append}
use Rattle.rules.proofs.Maps.{GoodNodes, parts_good, map_nodes, nodes_first}
use Rattle.maps.specs.Judging.{is_node}

-- a map has no more nodes than bytes, and they are its first bytes
pub nodes_take : (bytes : List ℕ) → nodes_in bytes ≡ take (length (nodes_in bytes)) bytes
unfolding nodes_in
nodes_take [] = refl
nodes_take (b ∷ bytes) = go (eqb b no_node) (nodes_take bytes)
  where
    go : (t : Bool) → nodes_in bytes ≡ take (length (nodes_in bytes)) bytes
        → cond t [] (b ∷ nodes_in bytes) ≡ take (length (cond t [] (b ∷ nodes_in bytes))) (b ∷ bytes)
    go true ih = refl
    go false ih = ap (λ (xs : List ℕ). b ∷ xs) ih

-- where every byte is FF there is no node, and only FF
only_ff : (xs : List ℕ) → length (keep is_node xs) ≡ 0 → (nodes_in xs ≡ []) × (all (eqb no_node) xs ≡ true)
unfolding keep nodes_in all
only_ff [] h = (refl, refl)
only_ff (x ∷ xs) h = go (eqb x no_node) refl (only_ff xs) h
  where
    go : (t : Bool) → eqb x no_node ≡ t → (length (keep is_node xs) ≡ 0 → (nodes_in xs ≡ []) × (all (eqb no_node) xs ≡ true))
        → length (cond (not t) (x ∷ keep is_node xs) (keep is_node xs)) ≡ 0
        → (cond t [] (x ∷ nodes_in xs) ≡ []) × ((eqb no_node x && all (eqb no_node) xs) ≡ true)
    go true e ih h = (refl, both_hold (eq-eqb no_node x (sym (eqb-true x no_node e))) (ih h).1)
    go false e ih h = absurd (omega arith)

-- how many bytes are not FF
abbrev pub used : List ℕ → ℕ
used bytes = length (keep is_node bytes)

-- those that are not FF are no more than all
pub used_le : (xs : List ℕ) → length (keep is_node xs) ≤ length xs
unfolding keep
used_le [] = omega arith
used_le (x ∷ xs) = go (is_node x) (used_le xs)
  where
    go : (t : Bool) → length (keep is_node xs) ≤ length xs → length (cond t (x ∷ keep is_node xs) (keep is_node xs)) ≤ suc (length xs)
    go true h = omega arith
    go false h = omega arith

-- those of one byte more
module _ (bytes : List ℕ) (i : ℕ) (l : i < length bytes) where
  used_more : keep is_node (take (i + 1) bytes) ≡ keep is_node (take i bytes) ++ keep is_node (get_or bytes i 0 ∷ [])
  used_more =
      ap (λ (k : ℕ). keep is_node (take k bytes)) (add-one i) ∙ ap (keep is_node) (take-suc bytes i 0 l)
      ∙ keep_append is_node (take i bytes) (get_or bytes i 0 ∷ [])

  -- an FF
  pub used_ff : get_or bytes i 0 ≡ no_node → length (keep is_node (take (i + 1) bytes)) ≡ length (keep is_node (take i bytes))
  unfolding keep
  used_ff e = rw (used_more, eq-eqb (get_or bytes i 0) no_node e) (ap length (append-nil (keep is_node (take i bytes))))

  -- another
  pub used_node : get_or bytes i 0 ≢ no_node → length (keep is_node (take (i + 1) bytes)) ≡ length (keep is_node (take i bytes)) + 1
  unfolding keep
  used_node d = rw (used_more, ne_eqb (get_or bytes i 0) no_node d) (length-append (keep is_node (take i bytes)) (get_or bytes i 0 ∷ []))

module _ (n : ℕ) (bytes : List ℕ) (few : n ≤ most_nodes) where
  -- nodes of the machine are not FF
  none_ff : (ks : List ℕ) → all (λ k. ltb k n) ks ≡ true → keep is_node ks ≡ ks
  none_ff ks h =
      all_keep is_node ks
      (true_all is_node ks (λ k m. let l = ltb-true k n (all_true (λ k. ltb k n) h m) in rw (ne_eqb k no_node (λ e. omega arith)) refl))

  -- where as many bytes, the first, are nodes of the machine, they are the map's nodes, and only FF follows
  pub first_nodes : all (λ k. ltb k n) (take (used bytes) bytes) ≡ true
      → (nodes_in bytes ≡ take (used bytes) bytes) × (all (eqb no_node) (drop (used bytes) bytes) ≡ true)
  first_nodes h =
      let cut = take-append-drop (used bytes) bytes in
      let kept : keep is_node bytes ≡ take (used bytes) bytes ++ keep is_node (drop (used bytes) bytes) =
      ap (keep is_node) (sym cut) ∙ keep_append is_node (take (used bytes) bytes) (drop (used bytes) bytes)
      ∙ ap (λ (xs : List ℕ). xs ++ keep is_node (drop (used bytes) bytes)) (none_ff (take (used bytes) bytes) h) in
      let long = length-take-le (used bytes) bytes (used_le bytes) in
      let sum = ap length kept ∙ length-append (take (used bytes) bytes) (keep is_node (drop (used bytes) bytes)) in
      let rest = only_ff (drop (used bytes) bytes) (omega arith) in (
        ap nodes_in (sym cut) ∙ nodes_first n (take (used bytes) bytes) (drop (used bytes) bytes) few h
            ∙ ap (λ (xs : List ℕ). take (used bytes) bytes ++ xs) rest.0 ∙ append-nil (take (used bytes) bytes),
        rest.1,
      )

  -- and the nodes of a good map are so
  pub good_first : good_map n bytes ≡ true → nodes_in bytes ≡ take (used bytes) bytes
  unfolding good_map
  good_first g =
      let nodes = nodes_in bytes in
      let end = (both_true {a = good_nodes n nodes} g).1 in
      let ff : (k : ℕ) → k ∈ drop (length nodes) bytes → is_node k ≡ false =
      λ k m. rw (eq-eqb k no_node (sym (eqb-true no_node k (all_true (eqb no_node) end m)))) refl in
      let kept : keep is_node bytes ≡ nodes =
      ap (keep is_node) (sym (take-append-drop (length nodes) bytes)) ∙ keep_append is_node (take (length nodes) bytes) (drop (length nodes) bytes)
      ∙ ap₂ (λ (xs ys : List ℕ). xs ++ ys) (ap (keep is_node) (sym (nodes_take bytes)) ∙ none_ff nodes (map_nodes n bytes g).known)
      (none_keep is_node (drop (length nodes) bytes) ff)
      ∙ append-nil nodes in
      nodes_take bytes ∙ ap (λ (k : ℕ). take k bytes) (sym (ap length kept))

  -- so many are the nodes of a good map
  good_long : good_map n bytes ≡ true → length (nodes_in bytes) ≡ used bytes
  good_long g = ap length (good_first g) ∙ length-take-le (used bytes) bytes (used_le bytes)

  -- a map without a node, or with an unknown one, is bad
  pub unknown_bad : (eqb (used bytes) 0 || not (all (λ k. ltb k n) (take (used bytes) bytes))) ≡ true → good_map n bytes ≡ false
  unknown_bad h = fails (λ g. ⊎_elim (none g) (unknown g) (either_true {a = eqb (used bytes) 0} h))
    where
      none : good_map n bytes ≡ true → eqb (used bytes) 0 ≡ true → ⊥
      none g e = let no_byte = eqb-true (used bytes) 0 e in omega (arith, (map_nodes n bytes g).some, good_long g)

      unknown : good_map n bytes ≡ true → not (all (λ k. ltb k n) (take (used bytes) bytes)) ≡ true → ⊥
      unknown g e = true≢false (sym (map_nodes n bytes g).known ∙ ap (all (λ k. ltb k n)) (good_first g) ∙ not-true _ e)

  -- one with a repeated node is bad
  pub repeated_bad : different (take (used bytes) bytes) ≡ false → good_map n bytes ≡ false
  repeated_bad h = fails (λ g. true≢false (sym (map_nodes n bytes g).distinct ∙ ap different (good_first g) ∙ h))

  -- any other is good
  pub others_good : length bytes ≡ map_size → (eqb (used bytes) 0 || not (all (λ k. ltb k n) (take (used bytes) bytes))) ≡ false
      → different (take (used bytes) bytes) ≡ true → good_map n bytes ≡ true
  unfolding good_map
  others_good long h apart =
      let tests = either_false {a = eqb (used bytes) 0} h in
      let known = not-false _ tests.1 in
      let some = pos_of_ne-zero (eqb-false (used bytes) 0 tests.0) in
      let first = first_nodes known in
      let size = length-take-le (used bytes) bytes (used_le bytes) in
      let good : GoodNodes n (take (used bytes) bytes) =
      record { some = omega arith; few = omega (arith, used_le bytes); known = known; distinct = apart } in
      rw (first.0, size) (both_hold (parts_good n (take (used bytes) bytes) good) first.1)
