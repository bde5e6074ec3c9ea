-- Document 01, "A record is well formed if ..": what the test comes to, and that every call leaves a well-formed record well formed.
-- Assumes nothing.
use Prim.Native.Nat.{ℕ, zero, suc, ◌+◌, ◌-◌, ◌^◌, ◌≤◌, ◌<◌, zero-le}
use mathlib.Core.Path.{◌≡◌, refl, sym, ap, ◌∙◌}
use mathlib.Core.Logic.{◌⊎◌, inl, inr}
use mathlib.Core.Bool.{Bool, true, false, not, ◌&&◌, ◌||◌, cond, false≢true, or-true, or-false}
use mathlib.Core.List.{List, ◌++◌}
use native.Mathlib.Nat.{le_trans, lt_of_lt_of_le, lt_of_le_of_lt, le_of_eq}
use native.Mathlib.Omega.{arith}
use lib.Dec.{leb, eqb}
use lib.ListN.{length, take, drop, replicate}
use lib.Pow.{pow_pos, pow_mono}
use lib.Bits.{bit_and, and_zero_l, and_le_r}
use lib.Seq.{drop_at, take-append-add}
use borrow.Author.Tests.{ltb-true, leb-true, eqb-true, lt-ltb, le-leb, eq-eqb, ne_eqb}
use Rattle.rules.specs.Basics.{all, between, open_basics}
use Rattle.rules.specs.Masks.{most_nodes, is_empty, below, both, within, image, folded, remapped, remapped_to}
use Rattle.rules.specs.Records.{Flag, plain, static, relative, unknownFlag, flag_of, flag_known, Carries, nothing, aMask, aList, unknown, carries}
use Rattle.rules.specs.Records.{Cursor, no_cursor, aNode, aPlace, row_of, mode_of, is_known, mode_known, places_per_job, Policy, Record, decode, encode, fresh}
use Rattle.rules.specs.Records.{unused_zero, allowed_fits, cursor_limit, cursor_fits, no_masks, effective_fits, masks_fit, data_fits, well_formed}
use Rattle.rules.specs.Records.{effective_at_install, installed, effective_at_rebind, rebound, open_records}
use Rattle.rules.specs.SearchOrder.{mode_in_force}
use Rattle.rules.specs.Calls.{flag_fits, policy_known, mask_fits, policy_fits}
use Rattle.rules.proofs.Bytes.{AreBytes}
use Rattle.rules.proofs.Lists.{both_true, both_hold, either_true}
use Rattle.rules.proofs.Masks.{image_out, bit_above, bit_lt, bit_and_lem, bits_within, folded_within, folded_pos}
use Rattle.rules.proofs.Masks.{remapped_within, remapped_pos}
use Rattle.rules.proofs.Records.{Storable, decode_encode}

-- ---- tests that passed

-- a mask that is not empty is above 0
pub some_pos : (m : ℕ) → not (is_empty m) ≡ true → 0 < m
some_pos zero e = absurd (false≢true e)
some_pos (suc m) e = omega arith

-- a mask above 0 is not empty
pos_some : (m : ℕ) → 0 < m → not (is_empty m) ≡ true
pos_some m h = ap not (ne_eqb m 0 (λ e. omega arith))

-- ---- what the test comes to

-- The facts of a well-formed record.
pub record Formed (n : ℕ) (r : Record) : Type 0 where
  pub unused_zero_lem : unused_zero r ≡ true
  pub mode_known_lem : mode_known (mode_of r.mode) ≡ true
  pub flag_known_lem : flag_known (flag_of r.flag) ≡ true
  pub allowed_below : r.allowed < 2 ^ n
  pub allowed_some : (r.mode ≡ 0) ⊎ (0 < r.allowed)
  pub cursor_within : r.turn.cursor ≤ cursor_limit n r.len (row_of (mode_of r.mode)).cursor
  pub data_fits_lem : data_fits n r (carries (mode_of r.mode)) ≡ true

-- the allowed mask of a record that passes lies below N and, but in mode 0, is not empty
pub allowed_facts : (n : ℕ) (r : Record) → allowed_fits n r ≡ true → (r.allowed < 2 ^ n) × ((r.mode ≡ 0) ⊎ (0 < r.allowed))
unfolding allowed_fits
allowed_facts n r e =
    let p = both_true {a = below n r.allowed} {b = eqb r.mode 0 || not (is_empty r.allowed)} e in
    (ltb-true r.allowed (2 ^ n) p.0, cases (either_true {a = eqb r.mode 0} {b = not (is_empty r.allowed)} p.1))
  where
    cases : (eqb r.mode 0 ≡ true) ⊎ (not (is_empty r.allowed) ≡ true) → (r.mode ≡ 0) ⊎ (0 < r.allowed)
    cases (inl x) = inl (eqb-true r.mode 0 x)
    cases (inr x) = inr (some_pos r.allowed x)

-- a record that passes the test has these facts
pub formed : (n : ℕ) (r : Record) → well_formed n r ≡ true → Formed n r
unfolding well_formed cursor_fits
formed n r e =
    let u = unused_zero r in
    let m = mode_known (mode_of r.mode) in
    let f = flag_known (flag_of r.flag) in
    let a = allowed_fits n r in
    let c = cursor_fits n r in
    let d = data_fits n r (carries (mode_of r.mode)) in
    let e₅ = both_true {a = u && m && f && a && c} {b = d} e in
    let e₄ = both_true {a = u && m && f && a} {b = c} e₅.0 in
    let e₃ = both_true {a = u && m && f} {b = a} e₄.0 in
    let e₂ = both_true {a = u && m} {b = f} e₃.0 in
    let e₁ = both_true {a = u} {b = m} e₂.0 in
    let low = allowed_facts n r e₃.1 in
    record {
      unused_zero_lem = e₁.0;
      mode_known_lem = e₁.1;
      flag_known_lem = e₂.1;
      allowed_below = low.0;
      allowed_some = low.1;
      cursor_within = leb-true _ _ e₄.1;
      data_fits_lem = e₅.1;
    }

-- and one that has them passes it
pub well_formed_lem : (n : ℕ) (r : Record) → Formed n r → well_formed n r ≡ true
unfolding well_formed allowed_fits cursor_fits
well_formed_lem n r h =
    both_hold (both_hold (both_hold (both_hold (both_hold h.unused_zero_lem h.mode_known_lem) h.flag_known_lem)
    (both_hold (lt-ltb r.allowed (2 ^ n) h.allowed_below) (cases h.allowed_some))) (le-leb _ _ h.cursor_within)) h.data_fits_lem
  where
    cases : (r.mode ≡ 0) ⊎ (0 < r.allowed) → (eqb r.mode 0 || not (is_empty r.allowed)) ≡ true
    cases (inl x) = rw x
    cases (inr x) = rw (pos_some r.allowed x) (or-true (eqb r.mode 0))

-- flag 0 and no masks
none_there : (r : Record) → no_masks r ≡ true → (r.flag ≡ 0) × (r.user ≡ 0) × (r.effective ≡ 0)
unfolding no_masks
none_there r e =
    let p = both_true {a = eqb r.flag 0 && is_empty r.user} {b = is_empty r.effective} e in
    let q = both_true {a = eqb r.flag 0} {b = is_empty r.user} p.0 in
    (eqb-true _ _ q.0, eqb-true _ _ q.1, eqb-true _ _ p.1)

-- the masks of a record that carries none
none_fit : (r : Record) → r.flag ≡ 0 → r.user ≡ 0 → r.effective ≡ 0 → no_masks r ≡ true
unfolding no_masks
none_fit r f u e = rw (f, u, e)

-- mode 0: flag 0, no masks, no list
pub carries_nothing : (n : ℕ) (r : Record) → data_fits n r nothing ≡ true → (r.flag ≡ 0) × (r.user ≡ 0) × (r.effective ≡ 0) × (r.len ≡ 0)
unfolding data_fits
carries_nothing n r e =
    let p = both_true {a = no_masks r} {b = eqb r.len 0} e in
    let z = none_there r p.0 in
    (z.0, z.1, z.2, eqb-true _ _ p.1)

-- modes 1 to 3: no list
pub carries_mask : (n : ℕ) (r : Record) → data_fits n r aMask ≡ true → r.len ≡ 0
unfolding data_fits
carries_mask n r e = eqb-true _ _ (both_true {a = masks_fit n r} {b = eqb r.len 0} e).1

-- modes 4 to 6: flag 0, no masks, 1 to 16 places
pub carries_list : (n : ℕ) (r : Record) → data_fits n r aList ≡ true
    → (r.flag ≡ 0) × (r.user ≡ 0) × (r.effective ≡ 0) × (1 ≤ r.len) × (r.len ≤ places_per_job)
unfolding data_fits
carries_list n r e =
    let p = both_true {a = no_masks r} {b = between 1 places_per_job r.len} e in
    let z = none_there r p.0 in
    let l = both_true {a = leb 1 r.len} {b = leb r.len places_per_job} p.1 in
    (z.0, z.1, z.2, leb-true _ _ l.0, leb-true _ _ l.1)

-- no mode has more than 16 places
pub few_listed : (n : ℕ) (r : Record) → Formed n r → r.len ≤ places_per_job
unfolding data_fits
few_listed n r h = go (carries (mode_of r.mode)) h.data_fits_lem
  where
    go : (c : Carries) → data_fits n r c ≡ true → r.len ≤ places_per_job
    go nothing e = omega (arith, (carries_nothing n r e).3)
    go aMask e = omega (arith, carries_mask n r e)
    go aList e = (carries_list n r e).4
    go unknown e = absurd (false≢true e)

-- so such a mode is in force
pub list_in_force : (n : ℕ) (r : Record) → Formed n r → carries (mode_of r.mode) ≡ aList → mode_in_force r ≡ mode_of r.mode
unfolding mode_in_force
list_in_force n r h e = rw (carries_list n r (rw e at h.data_fits_lem)).0

-- the unused bits of a well-formed record are zero
pub rest_zero : (n : ℕ) (r : Record) → Formed n r → r.turn.rest ≡ 0
unfolding unused_zero
rest_zero n r h = eqb-true _ _ (both_true {a = eqb r.turn.rest 0} {b = all (eqb 0) (drop r.len r.bytes)} h.unused_zero_lem).0

-- ---- the effective mask

-- a mask of nodes below n has at most 64 bits
word_mask : {n : ℕ} (m : ℕ) → n ≤ most_nodes → m < 2 ^ n → m < 2 ^ most_nodes
word_mask m l h = lt_of_lt_of_le h (pow_mono l)

-- what two masks share lies within the second
both_within : (a b : ℕ) → b < 2 ^ most_nodes → bit_and (both a b) b ≡ both a b
both_within a b h =
    bits_within most_nodes (both a b) b (lt_of_le_of_lt (and_le_r a b) h) (λ n e. omega (arith, bit_and_lem a b n, bit_lt a n, bit_lt b n))

-- mode 0 carries no mask
pub mask_mode : (mode : ℕ) → carries (mode_of mode) ≡ aMask → mode ≡ 0 → ⊥
unfolding row_of
mask_mode zero e z = let x : ◌≡◌ {A = ℕ} 0 1 = cc in omega arith
mask_mode (suc n) e z = omega arith

-- a well-formed record that carries a mask allows some node
pub some_allowed : (n : ℕ) (r : Record) → Formed n r → carries (mode_of r.mode) ≡ aMask → 0 < r.allowed
some_allowed n r h c = go h.allowed_some
  where
    go : (r.mode ≡ 0) ⊎ (0 < r.allowed) → 0 < r.allowed
    go (inl z) = absurd (mask_mode r.mode c z)
    go (inr p) = p

-- "effective .. within allowed": in every well-formed record
pub effective_within : (n : ℕ) (r : Record) → n ≤ most_nodes → Formed n r → bit_and r.effective r.allowed ≡ r.effective
unfolding data_fits masks_fit effective_fits
effective_within n r l h = go (carries (mode_of r.mode)) refl h.data_fits_lem
  where
    low : r.allowed < 2 ^ most_nodes
    low = word_mask r.allowed l h.allowed_below

    empty : no_masks r ≡ true → bit_and r.effective r.allowed ≡ r.effective
    empty e = let z = (none_there r e).2 in rw z (and_zero_l r.allowed)

    by_flag : (f : Flag) → 0 < r.allowed → effective_fits n r f ≡ true → bit_and r.effective r.allowed ≡ r.effective
    by_flag plain p e = eqb-true _ _ (both_true {a = below n r.user && not (is_empty r.effective)} {b = within r.effective r.allowed} e).1
    by_flag static p e =
        let t = (both_true {a = below n r.user} {b = eqb r.effective (both r.user r.allowed)} e).1 in
        let q : r.effective ≡ both r.user r.allowed = eqb-true _ _ t in
        rw q (both_within r.user r.allowed low)
    by_flag relative p e =
        let q : r.effective ≡ folded most_nodes r.user r.allowed = eqb-true _ _ e in
        rw q (folded_within most_nodes r.user r.allowed p low)
    by_flag unknownFlag p e = absurd (false≢true e)

    by_user : (b : Bool) → carries (mode_of r.mode) ≡ aMask → cond b (eqb r.mode 1 && no_masks r) (effective_fits n r (flag_of r.flag)) ≡ true
        → bit_and r.effective r.allowed ≡ r.effective
    by_user true c e = empty (both_true {a = eqb r.mode 1} {b = no_masks r} e).1
    by_user false c e = by_flag (flag_of r.flag) (some_allowed n r h c) e

    go : (k : Carries) → carries (mode_of r.mode) ≡ k → data_fits n r k ≡ true → bit_and r.effective r.allowed ≡ r.effective
    go nothing c e = empty (both_true {a = no_masks r} {b = eqb r.len 0} e).0
    go aMask c e = by_user (is_empty r.user) c (both_true {a = masks_fit n r} {b = eqb r.len 0} e).0
    go aList c e = empty (both_true {a = no_masks r} {b = between 1 places_per_job r.len} e).0
    go unknown c e = absurd (false≢true e)

-- "effective .. within allowed": below N
pub effective_lt : (n : ℕ) (r : Record) → n ≤ most_nodes → Formed n r → r.effective < 2 ^ n
effective_lt n r l h = lt_of_le_of_lt (rw (effective_within n r l h) at (and_le_r r.effective r.allowed)) h.allowed_below

-- a mode with masks other than preferred has a user mask
pub user_some : (n : ℕ) (r : Record) → Formed n r → carries (mode_of r.mode) ≡ aMask → (r.mode ≡ 1 → ⊥) → 0 < r.user
unfolding data_fits masks_fit
user_some n r h c other = go (is_empty r.user) refl (both_true {a = masks_fit n r} {b = eqb r.len 0} (rw c at h.data_fits_lem)).0
  where
    go : (b : Bool) → is_empty r.user ≡ b → cond b (eqb r.mode 1 && no_masks r) (effective_fits n r (flag_of r.flag)) ≡ true → 0 < r.user
    go true z t = absurd (other (eqb-true r.mode 1 (both_true {a = eqb r.mode 1} {b = no_masks r} t).0))
    go false z t = some_pos r.user (ap not z)

-- with a user mask, of at most 64 bits, the effective mask is not empty, or the record is static
pub effective_some : (n : ℕ) (r : Record) → n ≤ most_nodes → Formed n r → carries (mode_of r.mode) ≡ aMask → r.user < 2 ^ most_nodes → 0 < r.user
    → (eqb r.flag 1 && is_empty r.effective) ≡ false → 0 < r.effective
unfolding data_fits masks_fit effective_fits
effective_some n r l h c word p e =
    let masks = (both_true {a = masks_fit n r} {b = eqb r.len 0} (rw c at h.data_fits_lem)).0 in
    let some_user = ne_eqb r.user 0 (λ z. omega arith) in
    by_flag r.flag refl (rw some_user at masks)
  where
    by_flag : (f : ℕ) → r.flag ≡ f → effective_fits n r (flag_of f) ≡ true → 0 < r.effective
    by_flag zero q t =
        let a = both_true {a = below n r.user && not (is_empty r.effective)} {b = within r.effective r.allowed} t in
        some_pos r.effective (both_true {a = below n r.user} {b = not (is_empty r.effective)} a.0).1
    by_flag (suc zero) q t = some_pos r.effective (ap not (rw q at e))
    by_flag (suc (suc zero)) q t =
        let same : r.effective ≡ folded most_nodes r.user r.allowed = eqb-true _ _ t in
        rw same (folded_pos most_nodes r.user r.allowed (some_allowed n r h c) (word_mask r.allowed l h.allowed_below) p word)
    by_flag (suc (suc (suc f))) q t = absurd (false≢true t)

-- ---- rebind

-- the empty mask has the empty image
image_none : (f : ℕ → ℕ) (w : ℕ) → image 0 f w ≡ 0
unfolding image
image_none f zero = refl
image_none f (suc w) = image_out 0 f w (λ e. omega (arith, bit_above 0 0 w (pow_pos 0) zero-le)) ∙ image_none f w

-- the empty mask remapped is empty
pub remapped_none : (w old new : ℕ) → remapped w 0 old new ≡ 0
unfolding remapped
remapped_none w old new = image_none (remapped_to w old new) w

module _ (n : ℕ) (r : Record) (new : ℕ) (l : n ≤ most_nodes) (h : Formed n r) (fits : new < 2 ^ n) (p : 0 < new) where
  -- a rebind leaves a record without masks without masks
  rebound_none : no_masks r ≡ true → no_masks (rebound r new) ≡ true
  unfolding rebound effective_at_rebind
  rebound_none e =
      let z = none_there r e in
      none_fit (rebound r new) z.0 z.1 (rw (z.0, z.2) (remapped_none most_nodes r.allowed new))

  -- the effective mask that a rebind stores fits its flag
  rebound_effective : (f : Flag) → flag_of r.flag ≡ f → effective_fits n r f ≡ true → effective_fits n (rebound r new) f ≡ true
  unfolding rebound effective_at_rebind effective_fits
  rebound_effective plain c e =
      let q = both_true {a = below n r.user && not (is_empty r.effective)} {b = within r.effective r.allowed} e in
      let t = both_true {a = below n r.user} {b = not (is_empty r.effective)} q.0 in
      let some : 0 < r.effective = some_pos r.effective t.1 in
      let inside : bit_and r.effective r.allowed ≡ r.effective = eqb-true _ _ q.1 in
      let low : new < 2 ^ most_nodes = word_mask new l fits in
      let under : r.effective ≤ r.allowed = rw inside at (and_le_r r.effective r.allowed) in
      let small : r.effective < 2 ^ most_nodes = word_mask r.effective l (lt_of_le_of_lt under h.allowed_below) in
      rw (
        c,
        t.0,
        pos_some (remapped most_nodes r.effective r.allowed new) (remapped_pos most_nodes r.effective new p low r.allowed some small),
        eq-eqb _ _ (remapped_within most_nodes r.effective new p low r.allowed),
      )
  rebound_effective static c e =
      let t = (both_true {a = below n r.user} {b = eqb r.effective (both r.user r.allowed)} e).0 in
      rw (c, t, eq-eqb (both r.user new) _ refl)
  rebound_effective relative c e = rw c (eq-eqb (folded most_nodes r.user new) _ refl)
  rebound_effective unknownFlag c e = absurd (false≢true e)

  -- the masks that a rebind stores fit, whether or not there is a user mask
  rebound_masks : (b : Bool) → cond b (eqb r.mode 1 && no_masks r) (effective_fits n r (flag_of r.flag)) ≡ true
      → cond b (eqb r.mode 1 && no_masks (rebound r new)) (effective_fits n (rebound r new) (flag_of r.flag)) ≡ true
  rebound_masks true e = let q = both_true {a = eqb r.mode 1} {b = no_masks r} e in both_hold q.0 (rebound_none q.1)
  rebound_masks false e = rebound_effective (flag_of r.flag) refl e

  -- what the mode carries still fits
  rebound_data : (k : Carries) → data_fits n r k ≡ true → data_fits n (rebound r new) k ≡ true
  unfolding data_fits masks_fit rebound
  rebound_data nothing e = let q = both_true {a = no_masks r} {b = eqb r.len 0} e in both_hold (rebound_none q.0) q.1
  rebound_data aMask e = let q = both_true {a = masks_fit n r} {b = eqb r.len 0} e in both_hold (rebound_masks (is_empty r.user) q.0) q.1
  rebound_data aList e = let q = both_true {a = no_masks r} {b = between 1 places_per_job r.len} e in both_hold (rebound_none q.0) q.1
  rebound_data unknown e = absurd (false≢true e)

  -- a rebind to some of the nodes below N leaves the record well formed
  pub rebound_formed : Formed n (rebound r new)
  unfolding rebound unused_zero
  rebound_formed = record {
    unused_zero_lem = h.unused_zero_lem;
    mode_known_lem = h.mode_known_lem;
    flag_known_lem = h.flag_known_lem;
    allowed_below = fits;
    allowed_some = inr p;
    cursor_within = h.cursor_within;
    data_fits_lem = rebound_data (carries (mode_of r.mode)) h.data_fits_lem;
  }

-- ---- install

-- a known mode is 0 to 6
pub mode_small : (m : ℕ) → mode_known (mode_of m) ≡ true → m < 7
unfolding row_of is_known
mode_small zero e = omega arith
mode_small (suc zero) e = omega arith
mode_small (suc (suc zero)) e = omega arith
mode_small (suc (suc (suc zero))) e = omega arith
mode_small (suc (suc (suc (suc zero)))) e = omega arith
mode_small (suc (suc (suc (suc (suc zero))))) e = omega arith
mode_small (suc (suc (suc (suc (suc (suc zero)))))) e = omega arith
mode_small (suc (suc (suc (suc (suc (suc (suc m))))))) e = absurd (false≢true e)

-- a known flag is 0 to 2
pub flag_small : (f : ℕ) → flag_known (flag_of f) ≡ true → f < 3
unfolding flag_known
flag_small zero e = omega arith
flag_small (suc zero) e = omega arith
flag_small (suc (suc zero)) e = omega arith
flag_small (suc (suc (suc f))) e = absurd (false≢true e)

-- some of the zeros are zero
zeros_all : (k n : ℕ) → all (eqb 0) (take k (replicate n 0)) ≡ true
unfolding all
zeros_all zero n = refl
zeros_all (suc k) zero = refl
zeros_all (suc k) (suc n) = zeros_all k n

-- "unused ones zero": the sixteen places past those that install stores
unused_places : (places : List ℕ) → length places ≤ places_per_job
    → all (eqb 0) (drop (length places) (take places_per_job (places ++ replicate places_per_job 0))) ≡ true
unused_places places l =
    let n = places_per_job - length places in
    let e : places_per_job ≡ length places + n = omega arith in
    ap (λ (k : ℕ). all (eqb 0) (drop (length places) (take k (places ++ replicate places_per_job 0)))) e
    ∙ ap (λ (xs : List ℕ). all (eqb 0) (drop (length places) xs)) (take-append-add places (replicate places_per_job 0) n)
    ∙ ap (all (eqb 0)) (drop_at places (take n (replicate places_per_job 0)) (length places) refl)
    ∙ zeros_all n places_per_job

-- a policy that fits has at most sixteen places
pub few_places : (k : Carries) (n allowed : ℕ) (p : Policy) → policy_fits k n allowed p ≡ true → length p.places ≤ places_per_job
unfolding policy_fits
few_places nothing n a p e =
    let c = length p.places in
    le_trans (le_of_eq (eqb-true c 0 (both_true {a = is_empty p.user} {b = eqb c 0} e).1)) zero-le
few_places aMask n a p e =
    let c = length p.places in
    let m = (eqb p.mode 1 || not (is_empty p.user)) && mask_fits n a p in
    le_trans (le_of_eq (eqb-true c 0 (both_true {a = m} {b = eqb c 0} e).1)) zero-le
few_places aList n a p e =
    let c = length p.places in
    let t = (both_true {a = is_empty p.user} {b = between 1 places_per_job c} e).1 in
    leb-true c places_per_job (both_true {a = leb 1 c} {b = leb c places_per_job} t).1
few_places unknown n a p e = absurd (false≢true e)

-- a mask that fits, without the relative flag, lies below N and meets the allowed set
mask_fits_lem : (n allowed : ℕ) (p : Policy) → (flag_of p.flag ≡ relative → ⊥) → 0 < p.user → mask_fits n allowed p ≡ true
    → (below n p.user ≡ true) × (not (is_empty (both p.user allowed)) ≡ true)
unfolding mask_fits
mask_fits_lem n allowed p ne q e =
    both_true (rw (ne_eqb p.flag 2 (λ z. ne (rw z)), ne_eqb p.user 0 (λ z. omega arith)) at e)

-- the policy's mask is not empty, or the mode is 1 and the flag 0
mask_or_local : (p : Policy) → p.user ≡ 0 → (eqb p.mode 1 || not (is_empty p.user)) ≡ true → flag_fits aMask p ≡ true
    → (eqb p.mode 1 ≡ true) × (p.flag ≡ 0)
unfolding flag_fits
mask_or_local p z e f = go (eqb p.mode 1) (rw z at e) (rw z at f)
  where
    go : (b : Bool) → (b || false) ≡ true → (eqb p.flag 0 || not (b && true)) ≡ true → (b ≡ true) × (p.flag ≡ 0)
    go true e f = (refl, eqb-true p.flag 0 (sym (or-false (eqb p.flag 0)) ∙ f))
    go false e f = absurd (false≢true e)

module _ (n : ℕ) (r : Record) (p : Policy) (l : n ≤ most_nodes) (h : Formed n r) (some : 0 < r.allowed) where
  -- the record that an install stores
  new : Record
  new = installed r p

  -- with flag 0 and no user mask it has no masks
  installed_none : p.flag ≡ 0 → p.user ≡ 0 → no_masks new ≡ true
  unfolding new installed effective_at_install
  installed_none f u = none_fit new f u (rw (f, u) (and_zero_l r.allowed))

  -- its effective mask fits its flag
  installed_effective : (f : Flag) → flag_of p.flag ≡ f → 0 < p.user → flag_known f ≡ true → mask_fits n r.allowed p ≡ true
      → effective_fits n new f ≡ true
  unfolding new installed effective_at_install effective_fits flag_known
  installed_effective plain c q k e =
      let t = mask_fits_lem n r.allowed p (λ x. let z : ◌≡◌ {A = ℕ} 0 1 = cc in omega arith) q e in
      rw (c, t.0, t.1, eq-eqb _ _ (both_within p.user r.allowed (word_mask r.allowed l h.allowed_below)))
  installed_effective static c q k e =
      let t = mask_fits_lem n r.allowed p (λ x. let z : ◌≡◌ {A = ℕ} 0 1 = cc in omega arith) q e in
      rw (c, t.0, eq-eqb (both p.user r.allowed) _ refl)
  installed_effective relative c q k e = rw c (eq-eqb (folded most_nodes p.user r.allowed) _ refl)
  installed_effective unknownFlag c q k e = absurd (false≢true k)

  -- its masks fit
  installed_masks : flag_known (flag_of p.flag) ≡ true → flag_fits aMask p ≡ true → (eqb p.mode 1 || not (is_empty p.user)) ≡ true
      → mask_fits n r.allowed p ≡ true → masks_fit n new ≡ true
  unfolding new installed masks_fit
  installed_masks k f m e = go (is_empty p.user) refl
    where
      go : (b : Bool) → is_empty p.user ≡ b → cond b (eqb p.mode 1 && no_masks new) (effective_fits n new (flag_of p.flag)) ≡ true
      go true z =
          let q = mask_or_local p (eqb-true p.user 0 z) m f in
          both_hold q.0 (installed_none q.1 (eqb-true p.user 0 z))
      go false z = installed_effective (flag_of p.flag) refl (some_pos p.user (ap not z)) k e

  -- what its mode carries fits
  installed_data : (k : Carries) → flag_known (flag_of p.flag) ≡ true → flag_fits k p ≡ true → policy_fits k n r.allowed p ≡ true
      → data_fits n new k ≡ true
  unfolding new installed data_fits flag_fits policy_fits
  installed_data nothing k f e =
      let q = both_true {a = is_empty p.user} {b = eqb (length p.places) 0} e in
      both_hold (installed_none (eqb-true p.flag 0 f) (eqb-true p.user 0 q.0)) q.1
  installed_data aMask k f e =
      let m = eqb p.mode 1 || not (is_empty p.user) in
      let q = both_true {a = m && mask_fits n r.allowed p} {b = eqb (length p.places) 0} e in
      let t = both_true {a = m} {b = mask_fits n r.allowed p} q.0 in
      both_hold (installed_masks k f t.0 t.1) q.1
  installed_data aList k f e =
      let q = both_true {a = is_empty p.user} {b = between 1 places_per_job (length p.places)} e in
      both_hold (installed_none (eqb-true p.flag 0 f) (eqb-true p.user 0 q.0)) q.1
  installed_data unknown k f e = absurd (false≢true e)

  -- an install whose tests passed leaves the record well formed
  pub installed_formed : policy_known p ≡ true → policy_fits (carries (mode_of p.mode)) n r.allowed p ≡ true → Formed n (installed r p)
  unfolding new installed policy_known unused_zero
  installed_formed k e =
      let held = carries (mode_of p.mode) in
      let q = both_true {a = mode_known (mode_of p.mode) && flag_known (flag_of p.flag)} {b = flag_fits held p} k in
      let t = both_true {a = mode_known (mode_of p.mode)} {b = flag_known (flag_of p.flag)} q.0 in
      record {
        unused_zero_lem = unused_places p.places (few_places held n r.allowed p e);
        mode_known_lem = t.0;
        flag_known_lem = t.1;
        allowed_below = h.allowed_below;
        allowed_some = inr some;
        cursor_within = zero-le;
        data_fits_lem = installed_data held t.1 q.1 e;
      }

-- ---- clear

-- "Six zero words are a fresh job": it is well formed, whatever N is
pub fresh_formed : (n : ℕ) → Formed n fresh
unfolding open_records open_basics
fresh_formed n = record {
  unused_zero_lem = refl;
  mode_known_lem = refl;
  flag_known_lem = refl;
  allowed_below = pow_pos n;
  allowed_some = inl refl;
  cursor_within = zero-le;
  data_fits_lem = refl;
}

-- ---- decode and encode

-- a well-formed record has at most sixteen places
pub short_list : (n : ℕ) (r : Record) (k : Carries) → data_fits n r k ≡ true → r.len ≤ places_per_job
unfolding data_fits
short_list n r nothing e = le_trans (le_of_eq (carries_nothing n r e).3) zero-le
short_list n r aMask e = le_trans (le_of_eq (carries_mask n r e)) zero-le
short_list n r aList e = (carries_list n r e).4
short_list n r unknown e = absurd (false≢true e)

-- a cursor within its limit is a byte
pub limit_small : (n len : ℕ) (c : Cursor) → n ≤ most_nodes → len < 256 → cursor_limit n len c < 256
unfolding cursor_limit
limit_small n len no_cursor h l = omega arith
limit_small n len aNode h l = omega arith
limit_small n len aPlace h l = l

-- a well-formed record with sixteen bytes for its places can be stored
pub formed_storable : (n : ℕ) (r : Record) → n ≤ most_nodes → Formed n r → length r.bytes ≡ places_per_job → AreBytes r.bytes → Storable r
formed_storable n r l h sixteen bytes =
    let short : r.len ≤ places_per_job = short_list n r (carries (mode_of r.mode)) h.data_fits_lem in
    record {
      mode_fits = omega (arith, mode_small r.mode h.mode_known_lem);
      flag_fits_lem = omega (arith, flag_small r.flag h.flag_known_lem);
      len_fits = omega arith;
      cursor_fits_lem = lt_of_le_of_lt h.cursor_within (limit_small n r.len (row_of (mode_of r.mode)).cursor l (omega arith));
      sixteen = sixteen;
      are_bytes = bytes;
    }

-- decode and encode of records are inverse on well-formed records: this way round here, the other way round for any six words (encode-decode)
pub inverse : (n : ℕ) (r : Record) → n ≤ most_nodes → well_formed n r ≡ true → length r.bytes ≡ places_per_job → AreBytes r.bytes → decode (encode r) ≡ r
inverse n r l w sixteen bytes = decode_encode r (formed_storable n r l (formed n r w) sixteen bytes)
