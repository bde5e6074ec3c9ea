-- 17's test of the job that a byte names: no job, a bad map, a malformed record, or the nodes that it may get.
-- Assumes nothing.
use Prim.Native.Nat.{ℕ}
use mathlib.Core.Path.{◌≡◌, refl, sym}
use mathlib.Core.Bool.{Bool, true, false, cond}
use mathlib.Core.List.{List}
use mathlib.Core.Option.{Option, none, some}
use lib.Dec.{ltb}
use Rattle.rules.specs.Masks.{both}
use Rattle.rules.specs.Records.{Record, record_at, well_formed}
use Rattle.rules.specs.Maps.{map_bytes, nodes_in, good_map, set_of}
use Rattle.rules.specs.Calls.{is_job, map_of, is_mapped, limit_of}
use Rattle.rules.specs.Decisions.{refuse, accept, unless}
use Rattle.rules.specs.Drain.{is_movable}
use Rattle.rules.proofs.Decisions.{not_accepted, passed}
use Rattle.placement.specs.Admissions.{admit_tests}
use Rattle.drain.specs.Goals.{may_move, limit_in}

-- a record that passes the tests of a request is well formed
pub admitted_formed : (n : ℕ) (r : Record) {s : Record} → accept s ≡ admit_tests n 1 0 r → well_formed n r ≡ true
admitted_formed n r e = (passed (well_formed n r) 4 _ (passed (ltb 0 1) 3 _ (sym e)).1).0

-- one that does not is malformed
pub refused_malformed : (n : ℕ) (r : Record) {q : ℕ} → refuse q ≡ admit_tests n 1 0 r → well_formed n r ≡ false
refused_malformed n r {q} e = go (well_formed n r) e
  where
    go : (b : Bool) → refuse q ≡ unless b 4 (accept r) → b ≡ false
    go true f = absurd (not_accepted q _ refl f)
    go false f = refl

module _ (n : ℕ) (jobs maps : List ℕ) (j : ℕ) where
  -- the nodes that the job may get, if it may be moved
  abbrev answer : Option ℕ
  answer = cond (may_move n jobs maps j) (some (limit_in jobs maps j)) none

  pub no_job_lem : is_job jobs j ≡ false → none ≡ answer
  unfolding may_move is_movable
  no_job_lem e = rw e

  pub bad_map_lem : is_job jobs j ≡ true → good_map n (map_bytes maps j) ≡ false → none ≡ answer
  unfolding may_move is_movable is_mapped
  bad_map_lem e g = rw (e, g)

  pub malformed : is_job jobs j ≡ true → good_map n (map_bytes maps j) ≡ true → well_formed n (record_at jobs j) ≡ false → none ≡ answer
  unfolding may_move is_movable is_mapped
  malformed e g w = rw (e, g, w)

  pub holder : is_job jobs j ≡ true → good_map n (map_bytes maps j) ≡ true → well_formed n (record_at jobs j) ≡ true
      → (limit : ℕ) → limit ≡ both (record_at jobs j).allowed (set_of (nodes_in (map_bytes maps j))) → some limit ≡ answer
  unfolding may_move is_movable is_mapped limit_in limit_of map_of
  holder e g w limit q = rw (e, g, w, q)
