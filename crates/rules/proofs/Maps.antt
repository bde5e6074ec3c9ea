-- Request M-103: what a map does. Its set and its entries, what it makes of a mask, the map table, and the lists that the two calls set.
-- Assumes nothing.
use Prim.Native.Nat.{ℕ, zero, suc, ◌+◌, ◌-◌, ◌*◌, ◌^◌, ◌≤◌, ◌<◌}
use mathlib.Core.Path.{◌≡◌, refl, sym, ap, ap₂, subst, ◌∙◌}
use mathlib.Core.Logic.{◌⊎◌, inl, inr, ◌≢◌, ⊎_elim}
use mathlib.Core.Bool.{Bool, true, false, not, ◌&&◌, ◌||◌, cond, true≢false, false≢true}
use mathlib.Core.List.{List, [], ◌∷◌, ◌++◌, map, append_assoc, append-nil}
use native.Mathlib.Nat.{pos_of_ne-zero, zero-add, sub-zero}
use native.Mathlib.Omega.{arith}
use native.Mathlib.Decide.{ℕ_discrete, dec_lt}
use borrow.Author.Tests.{eqb-true, eqb-false, eq-eqb, ne_eqb, leb-true, le-leb, ltb-true}
use lib.Arith.{lt_of_le-ne}
use lib.ListN.{length, get_or, take, drop, replicate, length-replicate, length-append, length-map, length-take, length-drop}
use lib.Seq.{sets, sets-eq, length-sets, length-take-le, take_at, drop_at, drop-append_seam, get_or-take, get_or-drop, ext_get_or}
use lib.Dec.{leb, ltb, eqb}
use Rattle.rules.specs.Basics.{all, any, is_nil, each, from, between}
use Rattle.rules.specs.Masks.{most_nodes, bit, has, is_empty, below, image, mask_of}
use Rattle.rules.specs.Records.{Carries, nothing, aMask, aList, unknown, Policy, carries, mode_of, flag_of, mode_known, flag_known}
use Rattle.rules.specs.Maps.{map_size, no_node, map_bytes, nodes_in, bytes_for, put_map, is_in, different, good_nodes, good_map, set_of, system_node}
use Rattle.rules.specs.Maps.{entry_from, system_mask, turned, within_map, rising, keeps_of, Sublist, none, with, without}
use Rattle.rules.specs.Calls.{flag_fits, policy_known}
use Rattle.rules.proofs.Bytes.{AreBytes}
use Rattle.rules.proofs.Lists.{both_true, both_hold, either_true, either_false, between_true, true_between, all_true, member_at}
use Rattle.rules.proofs.Masks.{bit_none, none_in, trailing_is, below_width, has_mask_of, mask_of_lt, image_lt, image_has}
use Rattle.rules.proofs.Records.{sets_other}

-- ---- the set of a map's nodes

-- a node of the set is one of the list
pub set_in : (nodes : List ℕ) (k : ℕ) → has (set_of nodes) k ≡ true → is_in nodes k ≡ true
unfolding set_of
set_in nodes k h =
    let l = below_width most_nodes (mask_of most_nodes (is_in nodes)) k (mask_of_lt most_nodes (is_in nodes)) (eqb-true _ 1 h) in
    sym (has_mask_of most_nodes (is_in nodes) k l) ∙ h

-- and one of the list below 64 is one of the set
pub in_set : (nodes : List ℕ) (k : ℕ) → k < most_nodes → is_in nodes k ≡ true → has (set_of nodes) k ≡ true
unfolding set_of
in_set nodes k l h = has_mask_of most_nodes (is_in nodes) k l ∙ h

-- ---- entries

-- A node of the list stands in an entry: the number that names it.
pub record Named (a : ℕ) (nodes : List ℕ) (k : ℕ) : Type 0 where
  pub entry : ℕ
  pub below_end : entry < length nodes
  pub number : entry_from a nodes k ≡ a + entry
  pub names : system_node nodes entry ≡ k

pub named : (a : ℕ) (nodes : List ℕ) (k : ℕ) → is_in nodes k ≡ true → Named a nodes k
unfolding any entry_from
named a [] k h = absurd (false≢true h)
named a (x ∷ xs) k h = go (eqb x k) refl (named (suc a) xs k)
  where
    go : (b : Bool) → eqb x k ≡ b → (is_in xs k ≡ true → Named (suc a) xs k) → Named a (x ∷ xs) k
    go true e ih = record { entry = 0; below_end = omega arith; number = rw e (omega arith); names = eqb-true x k e }
    go false e ih =
        let other = ne_eqb k x (λ q. eqb-false x k e (sym q)) in
        let r = ih (⊎_elim (λ q. absurd (true≢false (sym q ∙ other))) (λ q. q) (either_true {a = eqb k x} h)) in
        record { entry = suc r.entry; below_end = omega (arith, r.below_end); number = rw e (omega (arith, r.number)); names = r.names }

-- "outside the map .. node FF"
pub not_named : (a : ℕ) (nodes : List ℕ) (k : ℕ) → is_in nodes k ≡ false → entry_from a nodes k ≡ no_node
unfolding any entry_from
not_named a [] k h = refl
not_named a (x ∷ xs) k h = go (eqb x k) refl (not_named (suc a) xs k (either_false {a = eqb k x} h).1)
  where
    go : (b : Bool) → eqb x k ≡ b → entry_from (suc a) xs k ≡ no_node → cond b a (entry_from (suc a) xs k) ≡ no_node
    go true e ih = absurd (true≢false (sym (ap (λ (b : Bool). b || any (eqb k) xs) (eq-eqb k x (sym (eqb-true x k e)))) ∙ h))
    go false e ih = ih

-- ---- masks

-- of numbers that are all below n, so is each entry
pub entry_below : (n : ℕ) (xs : List ℕ) (i d : ℕ) → all (λ k. ltb k n) xs ≡ true → i < length xs → get_or xs i d < n
entry_below n xs i d h l = ltb-true _ n (all_true (λ k. ltb k n) h (member_at xs i d l))

-- a mask that is turned has nodes below n only
pub mask_below : (n : ℕ) (nodes : List ℕ) (user : ℕ) → all (λ k. ltb k n) nodes ≡ true → system_mask nodes user < 2 ^ n
unfolding system_mask
mask_below n nodes user h = image_lt n user (system_node nodes) (length nodes) (λ b l one. entry_below n nodes b no_node h l)

-- and a mask with a node, none past the map's end, is turned into one with a node
pub mask_some : (nodes : List ℕ) (user : ℕ) → 0 < user → user < 2 ^ length nodes → 0 < system_mask nodes user
unfolding system_mask
mask_some nodes user some fits =
    let low = trailing_is (length nodes) user some fits in
    let one = image_has user (system_node nodes) (length nodes) _ low.small low.member in
    bit_some _ _ one
  where
    bit_some : (m k : ℕ) → bit m k ≡ 1 → 0 < m
    bit_some m k e = pos_of_ne-zero (λ z. let q = bit_none k in let y : bit 0 k ≡ 1 = rw (sym z) e in omega arith)

image_none : (f : ℕ → ℕ) (w : ℕ) → image 0 f w ≡ 0
unfolding image
image_none f zero = refl
image_none f (suc w) = rw (none_in w) (image_none f w)

-- ---- what an install asks for, turned

module _ (nodes : List ℕ) (p : Policy) (inside : within_map nodes p ≡ true) where
  -- a mask is empty once it is turned exactly if it was
  pub turned_empty : is_empty (turned nodes p).user ≡ is_empty p.user
  unfolding within_map turned system_mask
  turned_empty = go (eqb p.flag 2) (both_true {a = eqb p.flag 2 || below (length nodes) p.user} inside).0
    where
      go : (b : Bool) → (b || below (length nodes) p.user) ≡ true → is_empty (cond b p.user (system_mask nodes p.user)) ≡ is_empty p.user
      go true h = refl
      go false h = by (ℕ_discrete p.user 0)
        where
          by : Dec (p.user ≡ 0) → is_empty (system_mask nodes p.user) ≡ is_empty p.user
          by (yes e) = rw (e, image_none (system_node nodes) (length nodes))
          by (no ne) =
              let some = mask_some nodes p.user (pos_of_ne-zero ne) (ltb-true _ _ h) in
              ne_eqb (system_mask nodes p.user) 0 (λ (e : system_mask nodes p.user ≡ 0). omega arith) ∙ sym (ne_eqb p.user 0 ne)

  -- so an install that is known is known once it is turned
  pub turned_known : policy_known (turned nodes p) ≡ policy_known p
  unfolding policy_known flag_fits turned
  turned_known = ap (λ (b : Bool). mode_known (mode_of p.mode) && flag_known (flag_of p.flag) && b) (same (carries (mode_of p.mode)))
    where
      same : (held : Carries) → flag_fits held (turned nodes p) ≡ flag_fits held p
      same nothing = refl
      same aMask = rw turned_empty
      same aList = refl
      same unknown = refl

-- a place that is turned is a node of the map, or 255 past its end: a byte
pub turned_bytes : (n : ℕ) (nodes : List ℕ) (p : Policy) → n ≤ most_nodes → all (λ k. ltb k n) nodes ≡ true → AreBytes (turned nodes p).places
unfolding turned all
turned_bytes n nodes p few known = go p.places
  where
    node_byte : (xs : List ℕ) (a : ℕ) → all (λ k. ltb k n) xs ≡ true → system_node xs a < 256
    node_byte [] a h = omega arith
    node_byte (x ∷ xs) zero h = let l = ltb-true x n (both_true {a = ltb x n} h).0 in omega arith
    node_byte (x ∷ xs) (suc a) h = node_byte xs a (both_true {a = ltb x n} h).1

    go : (ps : List ℕ) → AreBytes (map (system_node nodes) ps)
    go [] k = omega arith
    go (a ∷ ps) zero = node_byte nodes a known
    go (a ∷ ps) (suc k) = go ps k

-- ---- the lists that the two calls set

-- a list of good nodes, by its parts
pub record GoodNodes (n : ℕ) (nodes : List ℕ) : Type 0 where
  pub some : 1 ≤ length nodes
  pub few : length nodes ≤ map_size
  pub known : all (λ k. ltb k n) nodes ≡ true
  pub distinct : different nodes ≡ true

pub good_parts : (n : ℕ) (nodes : List ℕ) → good_nodes n nodes ≡ true → GoodNodes n nodes
unfolding good_nodes
good_parts n nodes h =
    let a = both_true {a = between 1 map_size (length nodes) && all (λ k. ltb k n) nodes} h in
    let b = both_true {a = between 1 map_size (length nodes)} a.0 in
    let c = between_true 1 map_size (length nodes) b.0 in
    record { some = c.0; few = c.1; known = b.1; distinct = a.1 }

pub parts_good : (n : ℕ) (nodes : List ℕ) → GoodNodes n nodes → good_nodes n nodes ≡ true
unfolding good_nodes
parts_good n nodes g = both_hold (both_hold (true_between 1 map_size (length nodes) g.some g.few) g.known) g.distinct

-- the nodes of a good map are good
pub map_nodes : (n : ℕ) (bytes : List ℕ) → good_map n bytes ≡ true → GoodNodes n (nodes_in bytes)
unfolding good_map
map_nodes n bytes h = good_parts n (nodes_in bytes) (both_true {a = good_nodes n (nodes_in bytes)} h).0

-- the entries of a list that has one more node in front
one_further : (a x : ℕ) (xs kept : List ℕ) → rising (suc a) kept ≡ true
    → map (λ i. system_node xs (i - suc a)) kept ≡ map (λ i. system_node (x ∷ xs) (i - a)) kept
unfolding rising
one_further a x xs [] r = refl
one_further a x xs (c ∷ cs) r =
    let p = both_true {a = leb (suc a) c} r in
    let l = leb-true (suc a) c p.0 in
    let e : c - a ≡ suc (c - suc a) = omega arith in
    ap₂ (λ (y : ℕ) (ys : List ℕ). y ∷ ys) (sym (ap (system_node (x ∷ xs)) e)) (one_further a x xs cs (rising_on (suc a) c cs (omega arith) p.1))
  where
    rising_on : (a c : ℕ) (cs : List ℕ) → a ≤ c → rising (suc c) cs ≡ true → rising a cs ≡ true
    rising_on a c [] l r = refl
    rising_on a c (d ∷ ds) l r =
        let p = both_true {a = leb (suc c) d} r in
        let g = leb-true (suc c) d p.0 in
        both_hold (le-leb a d (omega arith)) p.1

-- "may only drop nodes": what a rising list of entries names is a part of the list, in its order
sublist_from : (a : ℕ) (nodes kept : List ℕ) → rising a kept ≡ true → all (λ i. ltb i (a + length nodes)) kept ≡ true
    → Sublist (map (λ i. system_node nodes (i - a)) kept) nodes
unfolding rising all
sublist_from a [] [] r l = none
sublist_from a (x ∷ xs) [] r l = without x [] xs (sublist_from (suc a) xs [] refl refl)
sublist_from a [] (c ∷ cs) r l =
    absurd (let p = leb-true a c (both_true {a = leb a c} r).0 in let q = ltb-true c (a + 0) (both_true {a = ltb c (a + 0)} l).0 in omega arith)
sublist_from a (x ∷ xs) (c ∷ cs) r l =
    let p = both_true {a = leb a c} r in
    let wide : all (λ i. ltb i (suc a + length xs)) (c ∷ cs) ≡ true = subst (λ (w : ℕ). all (λ i. ltb i w) (c ∷ cs) ≡ true) (omega arith) l in
    go (ℕ_discrete c a) (leb-true a c p.0) p.1 (sublist_from (suc a) xs cs) (sublist_from (suc a) xs (c ∷ cs)) wide
  where
    Part : List ℕ → Type 0
    Part ks = rising (suc a) ks ≡ true → all (λ i. ltb i (suc a + length xs)) ks ≡ true → Sublist (map (λ i. system_node xs (i - suc a)) ks) xs

    go : Dec (c ≡ a) → a ≤ c → rising (suc c) cs ≡ true → Part cs → Part (c ∷ cs) → all (λ i. ltb i (suc a + length xs)) (c ∷ cs) ≡ true
        → Sublist (map (λ i. system_node (x ∷ xs) (i - a)) (c ∷ cs)) (x ∷ xs)
    go (yes e) g r here later w =
        let up : rising (suc a) cs ≡ true = rw (sym e) r in
        let first : c - a ≡ 0 = omega arith in
        let rest = here up (both_true {a = ltb c (suc a + length xs)} w).1 in
        subst (λ (l : List ℕ). Sublist l (x ∷ xs))
        (ap₂ (λ (y : ℕ) (ys : List ℕ). y ∷ ys) (sym (ap (system_node (x ∷ xs)) first)) (one_further a x xs cs up)) (with x _ xs rest)
    go (no ne) g r here later w =
        let up : rising (suc a) (c ∷ cs) ≡ true = both_hold (le-leb (suc a) c (lt_of_le-ne g (λ e. ne (sym e)))) r in
        subst (λ (l : List ℕ). Sublist l (x ∷ xs)) (one_further a x xs (c ∷ cs) up) (without x _ xs (later up w))

-- the tenant's list, by its parts
pub keeps_parts : (nodes kept : List ℕ) → keeps_of nodes kept ≡ true
    → (1 ≤ length kept) × (rising 0 kept ≡ true) × (all (λ a. ltb a (length nodes)) kept ≡ true)
unfolding keeps_of is_nil
keeps_parts nodes kept h =
    let a = both_true {a = not (is_nil kept) && rising 0 kept} h in
    let b = both_true {a = not (is_nil kept)} a.0 in
    (some kept b.0, b.1, a.1)
  where
    some : (ks : List ℕ) → not (is_nil ks) ≡ true → 1 ≤ length ks
    some [] e = absurd (false≢true e)
    some (k ∷ ks) e = omega arith

-- M-103: "The tenant's call may only drop nodes": those of the new map are those of the old but for some, in their order
pub kept_sublist : (nodes kept : List ℕ) → keeps_of nodes kept ≡ true → Sublist (map (system_node nodes) kept) nodes
kept_sublist nodes kept h =
    let p = keeps_parts nodes kept h in
    subst (λ (l : List ℕ). Sublist l nodes) (from_zero kept) (sublist_from 0 nodes kept p.1 (rw zero-add p.2))
  where
    from_zero : (ks : List ℕ) → map (λ i. system_node nodes (i - 0)) ks ≡ map (system_node nodes) ks
    from_zero [] = refl
    from_zero (k ∷ ks) = ap₂ (λ (y : ℕ) (ys : List ℕ). y ∷ ys) (ap (system_node nodes) (sub-zero k)) (from_zero ks)

or_right : (a : Bool) {b : Bool} → b ≡ true → (a || b) ≡ true
or_right true e = refl
or_right false e = e

-- a node of a part is one of the list
pub sublist_in : {xs ys : List ℕ} → Sublist xs ys → (k : ℕ) → is_in xs k ≡ true → is_in ys k ≡ true
unfolding any
sublist_in none k h = h
sublist_in (with x xs ys s) k h =
    ⊎_elim (λ e. rw e refl) (λ e. or_right (eqb k x) (sublist_in s k e)) (either_true {a = eqb k x} h)
sublist_in (without y xs ys s) k h = or_right (eqb k y) (sublist_in s k h)

-- what holds of every node of the list holds of every node of a part
sublist_all : {xs ys : List ℕ} (p : ℕ → Bool) → Sublist xs ys → all p ys ≡ true → all p xs ≡ true
unfolding all
sublist_all p none h = h
sublist_all p (with x xs ys s) h = let a = both_true {a = p x} h in both_hold a.0 (sublist_all p s a.1)
sublist_all p (without y xs ys s) h = sublist_all p s (both_true {a = p y} h).1

-- a part of a list of different nodes has different nodes
sublist_different : {xs ys : List ℕ} → Sublist xs ys → different ys ≡ true → different xs ≡ true
unfolding different
sublist_different none h = h
sublist_different (with x xs ys s) h =
    let a = both_true {a = not (is_in ys x)} h in
    both_hold (absent (is_in xs x) (is_in ys x) (sublist_in s x) a.0) (sublist_different s a.1)
  where
    absent : (b c : Bool) → (b ≡ true → c ≡ true) → not c ≡ true → not b ≡ true
    absent true c f e = absurd (false≢true (sym (ap not (f refl)) ∙ e))
    absent false c f e = refl
sublist_different (without y xs ys s) h = sublist_different s (both_true {a = not (is_in ys y)} h).1

sublist_short : {xs ys : List ℕ} → Sublist xs ys → length xs ≤ length ys
sublist_short none = omega arith
sublist_short (with x xs ys s) = omega (arith, sublist_short s)
sublist_short (without y xs ys s) = omega (arith, sublist_short s)

-- so what the tenant's call leaves of a good map is good
pub kept_good : (n : ℕ) (nodes kept : List ℕ) → GoodNodes n nodes → keeps_of nodes kept ≡ true → GoodNodes n (map (system_node nodes) kept)
kept_good n nodes kept g h =
    let s = kept_sublist nodes kept h in
    record {
      some = rw (length-map kept (system_node nodes)) (keeps_parts nodes kept h).0;
      few = omega (arith, sublist_short s, g.few);
      known = sublist_all (λ k. ltb k n) s g.known;
      distinct = sublist_different s g.distinct;
    }

-- ---- the map table

-- a map's bytes are 64
pub bytes_long : (nodes : List ℕ) → length nodes ≤ map_size → length (bytes_for nodes) ≡ map_size
unfolding bytes_for
bytes_long nodes l = simp (length-append, length-replicate) (omega arith)

-- so many are read for a job
pub map_long : (maps : List ℕ) (j : ℕ) → map_size * j + map_size ≤ length maps → length (map_bytes maps j) ≡ map_size
unfolding map_bytes
map_long maps j fits = simp (length-take, length-drop) (omega arith)

-- the same bytes for each of k jobs are 64 a job
pub length_each : (bytes : List ℕ) → length bytes ≡ map_size → (a k : ℕ) → length (each (λ j. bytes) (from a k)) ≡ map_size * k
unfolding each from
length_each bytes long a zero = refl
length_each bytes long a (suc k) = length-append bytes (each (λ j. bytes) (from (suc a) k)) ∙ omega (arith, length_each bytes long (suc a) k)

-- the map that is set for a job is the one read for it
pub map_same : (maps : List ℕ) (j : ℕ) (nodes : List ℕ) → map_size * j + map_size ≤ length maps → length nodes ≤ map_size
    → map_bytes (put_map maps j nodes) j ≡ bytes_for nodes
unfolding map_bytes put_map
map_same maps j nodes fits few =
    let at = map_size * j in
    let long = bytes_long nodes few in
    let front : length (take at maps) ≡ at = length-take-le at maps (omega arith) in
    let back = drop (at + length (bytes_for nodes)) maps in
    ap (λ (l : List ℕ). take map_size (drop at l))
    (sets-eq (bytes_for nodes) maps at (rw long fits) ∙ append_assoc (take at maps) (bytes_for nodes) back)
    ∙ ap (take map_size) (drop_at (take at maps) (bytes_for nodes ++ back) at front)
    ∙ take_at (bytes_for nodes) back map_size long

-- and every other job's is as it was
pub map_other : (maps : List ℕ) (i j : ℕ) (nodes : List ℕ) → i ≢ j → length nodes ≤ map_size → map_bytes (put_map maps i nodes) j ≡ map_bytes maps j
unfolding map_bytes put_map
map_other maps i j nodes ne few =
    let long = bytes_long nodes few in
    ext_get_or 0 _ _ (simp (length-take, length-drop, length-sets))
    (λ k h. let l = short k (drop (map_size * j) (sets maps (map_size * i) (bytes_for nodes))) h in
    get_or-take map_size (drop (map_size * j) (sets maps (map_size * i) (bytes_for nodes))) k 0 l
    ∙ get_or-drop (map_size * j) (sets maps (map_size * i) (bytes_for nodes)) k 0
    ∙ sets_other maps (map_size * i) (bytes_for nodes) (map_size * j + k) (rw long (apart k l (dec_lt j i)))
    ∙ sym (get_or-take map_size (drop (map_size * j) maps) k 0 l ∙ get_or-drop (map_size * j) maps k 0))
  where
    apart : (k : ℕ) → k < map_size → Dec (j < i) → (map_size * j + k < map_size * i) ⊎ (map_size * i + map_size ≤ map_size * j + k)
    apart k h (yes l) = inl (omega arith)
    apart k h (no l) = inr (let g : i < j = lt_of_le-ne (omega arith) ne in omega arith)

    short : (k : ℕ) (l : List ℕ) → k < length (take map_size l) → k < map_size
    short k l h = let e = length-take map_size l in omega arith

-- nodes of a machine, none of them being FF, come before the nodes of what follows
pub nodes_first : (n : ℕ) (nodes rest : List ℕ) → n ≤ most_nodes → all (λ k. ltb k n) nodes ≡ true → nodes_in (nodes ++ rest) ≡ nodes ++ nodes_in rest
unfolding nodes_in all
nodes_first n [] rest l h = refl
nodes_first n (x ∷ xs) rest l h =
    let a = both_true {a = ltb x n} h in
    let small = ltb-true x n a.0 in
    rw (ne_eqb x no_node (λ e. omega arith)) (ap (λ (ys : List ℕ). x ∷ ys) (nodes_first n xs rest l a.1))

-- there is no node among FFs
nodes_ff : (k : ℕ) → nodes_in (replicate k no_node) ≡ []
unfolding nodes_in
nodes_ff zero = refl
nodes_ff (suc k) = refl

all_ff : (k : ℕ) → all (eqb no_node) (replicate k no_node) ≡ true
unfolding all
all_ff zero = refl
all_ff (suc k) = all_ff k

-- good nodes make a good map, whose nodes they are
pub bytes_nodes : (n : ℕ) (nodes : List ℕ) → n ≤ most_nodes → GoodNodes n nodes → nodes_in (bytes_for nodes) ≡ nodes
unfolding bytes_for
bytes_nodes n nodes l g =
    nodes_first n nodes (replicate (map_size - length nodes) no_node) l g.known
    ∙ ap (λ (xs : List ℕ). nodes ++ xs) (nodes_ff (map_size - length nodes)) ∙ append-nil nodes

pub bytes_good : (n : ℕ) (nodes : List ℕ) → n ≤ most_nodes → GoodNodes n nodes → good_map n (bytes_for nodes) ≡ true
unfolding good_map bytes_for
bytes_good n nodes l g =
    let e = bytes_nodes n nodes l g in
    rw e (both_hold (parts_good n nodes g) (rest_is e))
  where
    rest_is : nodes_in (bytes_for nodes) ≡ nodes → all (eqb no_node) (drop (length nodes) (bytes_for nodes)) ≡ true
    rest_is e = rw (drop-append_seam nodes (replicate (map_size - length nodes) no_node)) (all_ff (map_size - length nodes))
