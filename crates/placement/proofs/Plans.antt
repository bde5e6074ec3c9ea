-- Laws of a job's plan: the mode in force, and the plan mode by mode, as the code makes it.
-- Assumes nothing.
use Prim.Native.Nat.{ℕ, zero, suc, ◌+◌, ◌^◌, ◌≤◌, ◌<◌}
use mathlib.Core.Path.{◌≡◌, refl, sym, ap, ◌∙◌}
use mathlib.Core.Bool.{Bool, true, false, ◌&&◌, cond, and-false}
use mathlib.Core.List.Memᴰ
use mathlib.Core.List.{List, [], ◌∷◌, map}
use mathlib.Core.Option.{some}
use native.Mathlib.Nat.{mod-eq_of_lt, lt_of_lt_of_le}
use native.Mathlib.Omega.{arith}
use borrow.Author.Tests.{eqb-true, eqb-false, ne_eqb}
use lib.Dec.{eqb}
use lib.ListN.{length, get_or, take, drop}
use lib.Pow.{pow_mono}
use lib.Seq.{get_or-take, drop-cons}
use Rattle.rules.specs.Basics.{around}
use Rattle.rules.specs.Masks.{most_nodes, bit, has, is_empty, both, lowest}
use Rattle.rules.specs.Records.{Record, Turn, default, preferred, bind, interleave, aMask, aList}
use Rattle.rules.specs.Records.{carries, mode_of, flag_of, last_is, no_masks, effective_fits, masks_fit, data_fits, places_of}
use Rattle.rules.specs.SearchOrder.{try, nearest, node_at, ring_places, ring_tries, target, interleaved, plan_in, mode_in_force, plan}
use Rattle.rules.proofs.Lists.{◌∈◌, both_true, first_keep, around_below}
use Rattle.rules.proofs.Masks.{below_width}
use Rattle.rules.proofs.Turns.{turn_none}
use Rattle.rules.proofs.WellFormed.{Formed, effective_some, list_in_force}
use Rattle.nodemask.proofs.RankLaws.{lowest_is}
use Rattle.records.specs.Jobs.{turn_of}
use Rattle.placement.specs.Plans.{walk_with, leaves, early_tries, round_tries, walk_tries}

-- ---- nodes of the effective mask

-- the lowest node of a mask below N
pub lowest_below : (n e : ℕ) → n ≤ most_nodes → 0 < e → e < 2 ^ n → lowest most_nodes e < n
lowest_below n e few p h = below_width n e (lowest most_nodes e) h (lowest_is most_nodes e p (lt_of_lt_of_le h (pow_mono few))).member

-- the target of a mask below N
pub target_below : (n e c : ℕ) {t : ℕ} → e < 2 ^ n → target e c ≡ some t → t < n
unfolding target
target_below n e c {t} h q = below_width n e t h (eqb-true (bit e t) 1 (first_keep (has e) _ q).passes)

-- an empty mask has no target
pub some_target : (e c : ℕ) {t : ℕ} → target e c ≡ some t → e ≡ 0 → ⊥
unfolding target
some_target e c q z = let s = rw z at q in let n = turn_none most_nodes c in let y : ◌≡◌ {A = ℕ} 0 1 = cc in omega arith

-- ---- the mode in force

module _ (n limit : ℕ) (r : Record) (x : ℕ) where
  -- "Default .. near(CPU's node)"
  pub default_plan : mode_of r.mode ≡ default → plan limit r x ≡ nearest limit x r.turn
  unfolding plan mode_in_force plan_in
  default_plan e = rw e (same (eqb r.flag 1 && is_empty r.effective))
    where
      same : (b : Bool) → plan_in (cond b default default) limit r x ≡ nearest limit x r.turn
      same true = refl
      same false = refl

  module _ (d : r.effective ≡ 0 → ⊥) where
    -- with an effective set the record's own mode is in force
    own_plan : plan limit r x ≡ plan_in (mode_of r.mode) limit r x
    unfolding plan mode_in_force
    own_plan = rw (ne_eqb r.effective 0 d, and-false (eqb r.flag 1))

    -- "Preferred: near(lowest effective node)"
    pub preferred_plan : mode_of r.mode ≡ preferred → is_empty r.user ≡ false → plan limit r x ≡ nearest limit (lowest most_nodes r.effective) r.turn
    unfolding plan_in
    preferred_plan e u = own_plan ∙ rw (e, u)

    -- "Bind: near(CPU's node), effective nodes only"
    pub bind_plan : mode_of r.mode ≡ bind → plan limit r x ≡ nearest (both limit r.effective) x r.turn
    unfolding plan_in
    bind_plan e = own_plan ∙ rw e

    -- "Interleave: the target t .. then near(t)"
    pub interleave_plan : mode_of r.mode ≡ interleave → {t : ℕ} → target r.effective r.turn.cursor ≡ some t
        → plan limit r x ≡ nearest limit t (last_is t)
    unfolding plan_in interleaved
    interleave_plan e q = own_plan ∙ rw (e, q)

  module _ (few : n ≤ most_nodes) (h : Formed n r) (c : carries (mode_of r.mode) ≡ aMask) where
    masks_fit_lem : masks_fit n r ≡ true
    unfolding data_fits
    masks_fit_lem = (both_true {a = masks_fit n r} {b = eqb r.len 0} (rw c at h.data_fits_lem)).0

    -- "and any mode with static and an empty effective set": then near(CPU's node), as with preferred and an empty user mask
    pub none_effective : r.user < 2 ^ most_nodes → r.effective ≡ 0 → plan limit r x ≡ nearest limit x r.turn
    unfolding plan mode_in_force plan_in masks_fit no_masks
    none_effective word z = go (is_empty r.user) refl masks_fit_lem
      where
        with_user : 0 < r.user → (b : Bool) → (eqb r.flag 1 && is_empty r.effective) ≡ b → plan limit r x ≡ nearest limit x r.turn
        with_user p true e = rw e refl
        with_user p false e = absurd (omega (arith, effective_some n r few h c word p e))

        go : (b : Bool) → is_empty r.user ≡ b → cond b (eqb r.mode 1 && no_masks r) (effective_fits n r (flag_of r.flag)) ≡ true
            → plan limit r x ≡ nearest limit x r.turn
        go true e t =
            let q = both_true {a = eqb r.mode 1} {b = no_masks r} t in
            let f = (both_true {a = eqb r.flag 0 && is_empty r.user} {b = is_empty r.effective} q.1).0 in
            let flag : r.flag ≡ 0 = eqb-true r.flag 0 (both_true {a = eqb r.flag 0} {b = is_empty r.user} f).0 in
            rw (flag, eqb-true r.mode 1 q.0, eqb-true r.user 0 e)
        go false e t = with_user (omega (arith, eqb-false r.user 0 e)) _ refl

    -- a record with an effective set has a user mask
    pub some_user : (r.effective ≡ 0 → ⊥) → is_empty r.user ≡ false
    unfolding masks_fit no_masks
    some_user d = go (is_empty r.user) masks_fit_lem
      where
        go : (b : Bool) → cond b (eqb r.mode 1 && no_masks r) (effective_fits n r (flag_of r.flag)) ≡ true → b ≡ false
        go true t =
            let q = (both_true {a = eqb r.mode 1} {b = no_masks r} t).1 in
            absurd (d (eqb-true r.effective 0 (both_true {a = eqb r.flag 0 && is_empty r.user} {b = is_empty r.effective} q).1))
        go false t = refl

  -- a list mode is in force
  pub list_plan : Formed n r → carries (mode_of r.mode) ≡ aList → plan limit r x ≡ plan_in (mode_of r.mode) limit r x
  unfolding plan
  list_plan h c = rw (list_in_force n r h c)

-- ---- the places of a list

-- "List: places in order": k of them from place c on
places_in_order : (turn : Turn) (places : List ℕ) (len c k : ℕ) → c + k ≤ len → len ≤ length places
    → map (try turn) (take k (drop c places)) ≡ round_tries false places turn len c k
unfolding round_tries leaves around
places_in_order turn places len c zero h l = refl
places_in_order turn places len c (suc k) h l =
    rw (drop-cons places c 0 (omega arith), mod-eq_of_lt {n = c} {m = len} (omega arith), places_in_order turn places len (suc c) k (omega arith) l)

pub list_walk : (places : List ℕ) (len : ℕ) → len ≤ length places → walk_tries (walk_with false false len 0) places ≡ map (try (turn_of 0)) (take len places)
unfolding walk_tries early_tries
list_walk places len l = sym (places_in_order (turn_of 0) places len 0 len (omega arith) l)

map_same : {A B : Type 0} (f g : A → B) (xs : List A) → ((x : A) → x ∈ xs → f x ≡ g x) → map f xs ≡ map g xs
map_same f g [] e = refl
map_same f g (x ∷ xs) e = rw (e x (Memᴰ.head refl), map_same f g xs (λ y h. e y (Memᴰ.tail h)))

-- the node that a place in use names
pub place_at : (r : Record) (p : ℕ) → p < r.len → node_at r p ≡ get_or r.bytes p 0
unfolding node_at places_of
place_at r p l = get_or-take r.len r.bytes p 0 l

-- "Ring: places from one past the cursor, once round"
pub ring_tries_lem : (r : Record) (turn : Turn) → ring_tries r ≡ round_tries true r.bytes turn r.len r.turn.cursor r.len
unfolding ring_tries round_tries leaves
ring_tries_lem r turn =
    map_same _ _ (ring_places r) (λ p q. ap (try (last_is p)) (place_at r p (around_below r.len r.turn.cursor q)))
