-- A well-formed record and its decoded mode carry the same.
-- Assumes nothing.
use Prim.Native.Nat.{ℕ, ◌≤◌}
use mathlib.Core.Path.{◌≡◌, refl, sym}
use mathlib.Core.Bool.{true}
use lib.Arith.{le-zero}
use Rattle.rules.specs.Records.{Record, Carries, nothing, aMask, aList, Cursor, no_cursor, aNode, aPlace, row_of, carries, mode_of, cursor_limit, data_fits}
use Rattle.rules.proofs.WellFormed.{Formed, carries_nothing, carries_mask, carries_list}
use Rattle.records.specs.Jobs.{carried, listed, carried_of}

-- the cursor that a mode carries: 0 where it has none
abbrev cursor_by : Cursor → ℕ → ℕ
cursor_by no_cursor c = 0
cursor_by aNode c = c
cursor_by aPlace c = c

module _ (n : ℕ) (x : Record) (h : Formed n x) (m : ℕ) (e : x.mode ≡ m) where
  -- the cursor that a mode of this number carries
  abbrev cursor : ℕ
  cursor = cursor_by (row_of (mode_of m)).cursor x.turn.cursor

  -- it is the record's
  same_cursor : cursor ≡ x.turn.cursor
  unfolding cursor_limit
  same_cursor = go (row_of (mode_of m)).cursor (rw (sym e) h.cursor_within)
    where
      go : (k : Cursor) → x.turn.cursor ≤ cursor_limit n x.len k → cursor_by k x.turn.cursor ≡ x.turn.cursor
      go no_cursor l = sym (le-zero l)
      go aNode l = refl
      go aPlace l = refl

  -- what the mode carries fits
  held : {k : Carries} → carries (mode_of m) ≡ k → data_fits n x k ≡ true
  held r = rw (sym r, sym e) h.data_fits_lem

  -- a mode that carries nothing
  pub nothing_again : carries (mode_of m) ≡ nothing → listed m 0 cursor ≡ carried_of x
  nothing_again r =
      let z = carries_nothing n x (held r) in
      λ i. record { mode = sym e i; flag = sym z.0 i; len = sym z.3 i; cursor = same_cursor i; user = sym z.1 i; effective = sym z.2 i }

  -- a mode that carries a mask
  pub mask_again : (f : ℕ) → carries (mode_of m) ≡ aMask → f ≡ x.flag → carried m f 0 cursor x.user x.effective ≡ carried_of x
  mask_again f r same =
      let z = carries_mask n x (held r) in
      λ i. record { mode = sym e i; flag = same i; len = sym z i; cursor = same_cursor i; user = x.user; effective = x.effective }

  -- a mode that carries a list
  pub list_again : carries (mode_of m) ≡ aList → listed m x.len cursor ≡ carried_of x
  list_again r =
      let z = carries_list n x (held r) in
      λ i. record { mode = sym e i; flag = sym z.0 i; len = x.len; cursor = same_cursor i; user = sym z.1 i; effective = sym z.2 i }
