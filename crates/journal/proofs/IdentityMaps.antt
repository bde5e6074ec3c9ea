-- The map table of map 0 to N-1: its length, and each entry of it.
-- Assumes nothing.
use Prim.Native.Nat.{ℕ, zero, suc, ◌+◌, ◌-◌, ◌*◌, ◌%◌, ◌≤◌, ◌<◌}
use mathlib.Core.Path.{◌≡◌, sym, ap, ap₂, ◌∙◌}
use mathlib.Core.Bool.{cond}
use mathlib.Core.List.{List, [], ◌∷◌, ◌++◌}
use native.Mathlib.Decide.{dec_lt}
use native.Mathlib.Nat.{zero-add, add-suc, suc-add}
use native.Mathlib.Numerals.{add-one}
use native.Mathlib.Omega.{arith}
use borrow.Author.Tests.{lt-ltb, le-ltb}
use lib.Dec.{ltb}
use lib.ListN.{length, get_or, take, set, replicate, get_or-append, get_or-replicate}
use lib.Seq.{get_or-append-add, take-suc, take-suc-set}
use Rattle.rules.specs.Basics.{each, from}
use Rattle.rules.specs.Masks.{most_nodes}
use Rattle.rules.specs.Maps.{map_size, no_node, bytes_for, identity_maps}
use Rattle.rules.proofs.Lists.{length_from}
use Rattle.rules.proofs.Maps.{bytes_long, length_each}

-- entry i of map 0 to n - 1
abbrev pub entry_of : ℕ → ℕ → ℕ
entry_of n i = cond (ltb i n) i no_node

-- entry i of a, a + 1, .. with FF behind them
from_then : (a k r i : ℕ) → i < k + r → get_or (from a k ++ replicate r no_node) i 0 ≡ entry_of (a + k) (a + i)
unfolding from
from_then a zero r i h = rw (le-ltb (a + i) (a + 0) (omega arith)) (get_or-replicate r i no_node 0 (omega arith))
from_then a (suc k) r zero h = rw (lt-ltb (a + 0) (a + suc k) (omega arith)) (omega arith)
from_then a (suc k) r (suc i) h = from_then (suc a) k r i (omega arith) ∙ rw (add-suc a k, add-suc a i, suc-add a k, suc-add a i)

-- the same bytes for each of so many jobs
module _ (bytes : List ℕ) (long : length bytes ≡ map_size) where
  -- entry i is that of one map
  entry_each : (a jobs i : ℕ) → i < map_size * jobs → get_or (each (λ j. bytes) (from a jobs)) i 0 ≡ get_or bytes (i % map_size) 0
  unfolding each from
  entry_each a zero i h = absurd (omega arith)
  entry_each a (suc jobs) i h = go (dec_lt i map_size) (entry_each (suc a) jobs (i - map_size))
    where
      rest : List ℕ
      rest = each (λ j. bytes) (from (suc a) jobs)

      go : Dec (i < map_size) → (i - map_size < map_size * jobs → get_or rest (i - map_size) 0 ≡ get_or bytes ((i - map_size) % map_size) 0)
          → get_or (bytes ++ rest) i 0 ≡ get_or bytes (i % map_size) 0
      go (yes l) ih = get_or-append bytes rest 0 i (rw long l) ∙ ap (λ (k : ℕ). get_or bytes k 0) (omega arith)
      go (no l) ih =
          ap (λ (k : ℕ). get_or (bytes ++ rest) k 0) (omega (arith, long)) ∙ get_or-append-add bytes rest (i - map_size) 0 ∙ ih (omega arith)
          ∙ ap (λ (k : ℕ). get_or bytes k 0) (omega arith)

module _ (n : ℕ) (few : n ≤ most_nodes) where
  -- the bytes of one map
  one_long : length (bytes_for (from 0 n)) ≡ map_size
  one_long = bytes_long (from 0 n) (rw (length_from 0 n) few)

  -- "64 bytes a job"
  pub identity_long : (jobs : ℕ) → length (identity_maps n jobs) ≡ map_size * jobs
  unfolding identity_maps
  identity_long jobs = length_each (bytes_for (from 0 n)) one_long 0 jobs

  -- entry i of the table
  identity_entry : (jobs i : ℕ) → i < map_size * jobs → get_or (identity_maps n jobs) i 0 ≡ entry_of n (i % map_size)
  unfolding identity_maps bytes_for
  identity_entry jobs i h =
      entry_each (bytes_for (from 0 n)) one_long 0 jobs i h
      ∙ from_then 0 n (map_size - length (from 0 n)) (i % map_size) (omega (arith, length_from 0 n))
      ∙ rw (zero-add n, zero-add (i % map_size))

  -- one entry more is made
  pub identity_step : (jobs i : ℕ) (maps : List ℕ) {v : ℕ} → length maps ≡ map_size * jobs → i < map_size * jobs → v ≡ entry_of n (i % map_size)
      → take i maps ≡ take i (identity_maps n jobs) → take (i + 1) (set maps i v) ≡ take (i + 1) (identity_maps n jobs)
  identity_step jobs i maps {v} long h e t =
      rw (add-one i)
      (take-suc-set maps i v (omega arith) ∙ ap₂ (λ (l : List ℕ) (x : ℕ). l ++ (x ∷ [])) t (e ∙ sym (identity_entry jobs i h))
      ∙ sym (take-suc (identity_maps n jobs) i 0 (omega (arith, identity_long jobs))))
