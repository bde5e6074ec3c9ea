-- What it means that a machine's tables are in order (document 01, "The machine").
-- Assumes nothing.
use Prim.Native.Nat.{ℕ, suc, ◌+◌, ◌*◌, ◌/◌, ◌%◌, ◌≤◌, ◌<◌}
use mathlib.Core.Path.{◌≡◌, refl, sym, ap, ◌∙◌}
use mathlib.Core.Bool.{Bool, true, false, ◌&&◌, cond}
use mathlib.Core.List.{List}
use native.Mathlib.Nat.{mul-le-mul_right, suc-mul}
use native.Mathlib.Omega.{arith}
use lib.Arith.{digits_mod, digits_div}
use lib.ListN.{length, get_or}
use lib.Dec.{leb, eqb}
use borrow.Author.Tests.{leb-true, ltb-true, eqb-true, eq-eqb}
use Rattle.rules.specs.Basics.{all, sum, between}
use Rattle.rules.specs.Machine.{Machine, node_count, nodes_ok, pages_ok, cpus_ok, distance_ok, distances_ok, machine_ok}
use Rattle.rules.proofs.Lists.{both_true, all_true, member_at, all_at_true}

-- an entry of row x and column n lies in a square table
pub square_in : (x n k : ℕ) → x < n → k < n → x * n + k < n * n
square_in x n k h l =
    let a : suc x * n ≤ n * n = mul-le-mul_right n h in
    omega (arith, rw suc-mul at a)

-- a distance in order is at least 10
pub distance_least : (n k d : ℕ) → distance_ok n k d ≡ true → 10 ≤ d
unfolding distance_ok
distance_least n k d h = go (eqb (k / n) (k % n)) h
  where
    go : (b : Bool) → cond b (eqb d 10) (between 10 255 d) ≡ true → 10 ≤ d
    go true e = omega (arith, eqb-true d 10 e)
    go false e = leb-true 10 d (both_true e).0

-- and at most 255
pub distance_most : (n k d : ℕ) → distance_ok n k d ≡ true → d ≤ 255
unfolding distance_ok
distance_most n k d h = go (eqb (k / n) (k % n)) h
  where
    go : (b : Bool) → cond b (eqb d 10) (between 10 255 d) ≡ true → d ≤ 255
    go true e = omega (arith, eqb-true d 10 e)
    go false e = leb-true d 255 (both_true {a = leb 10 d} e).1

-- on the diagonal the test asks for 10
pub distance_own : (n i d : ℕ) → i < n → distance_ok n (i * n + i) d ≡ eqb d 10
unfolding distance_ok
distance_own n i d h = rw (digits_div i {m = n} {r = i}, digits_mod i {m = n} {r = i}, eq-eqb i i refl)

-- the numbers of page counts that are in order
pub record CountsInOrder (counts : List ℕ) : Type 0 where
  pub nodes_least : 1 ≤ length counts
  pub nodes_most : length counts ≤ 64
  pub pages_most : sum counts ≤ 1048576
  pub count_most : (n : ℕ) → n < length counts → get_or counts n 0 ≤ 65536

-- page counts that pass the tests are in order
pub counts_in_order : (counts : List ℕ) → (nodes_ok (length counts) && pages_ok counts) ≡ true → CountsInOrder counts
unfolding nodes_ok pages_ok
counts_in_order counts h =
    let a = both_true h in
    let b = both_true a.0 in
    let p = both_true {a = all (λ c. leb c 65536) counts} a.1 in
    record {
      nodes_least = leb-true 1 (length counts) b.0;
      nodes_most = leb-true (length counts) 64 b.1;
      pages_most = leb-true (sum counts) 1048576 p.1;
      count_most = λ n l. leb-true (get_or counts n 0) 65536 (all_true (λ c. leb c 65536) p.0 (member_at counts n 0 l));
    }

-- what a distance table that is in order holds
pub record DistancesInOrder (n : ℕ) (distances : List ℕ) : Type 0 where
  pub square : length distances ≡ n * n
  pub own : (x : ℕ) → x < n → get_or distances (x * n + x) 0 ≡ 10
  pub least : (k : ℕ) → k < length distances → 10 ≤ get_or distances k 0
  pub most : (k : ℕ) → k < length distances → get_or distances k 0 ≤ 255

-- a distance table that passes the test is in order
pub distances_in_order : (n : ℕ) (distances : List ℕ) → distances_ok n distances ≡ true → DistancesInOrder n distances
unfolding distances_ok
distances_in_order n distances h =
    let s = both_true h in
    let q : length distances ≡ n * n = eqb-true _ _ s.0 in
    let each : (i : ℕ) → i < length distances → distance_ok n i (get_or distances i 0) ≡ true =
    λ i l. ap (λ (k : ℕ). distance_ok n k (get_or distances i 0)) (omega arith) ∙ all_at_true (distance_ok n) 0 distances s.1 i l in
    record {
      square = q;
      own = λ x l. eqb-true _ 10 (sym (distance_own n x _ l) ∙ each (x * n + x) (omega (arith, square_in x n x l l)));
      least = λ i l. distance_least n i _ (each i l);
      most = λ i l. distance_most n i _ (each i l);
    }

-- the numbers of a machine's tables that are in order
pub record InOrder (m : Machine) : Type 0 where
  pub counts : CountsInOrder m.page_counts
  pub cpus_least : 1 ≤ length m.cpu_nodes
  pub cpus_most : length m.cpu_nodes ≤ 256
  pub cpu_node : (k : ℕ) → k < length m.cpu_nodes → get_or m.cpu_nodes k 0 < node_count m
  pub distances : DistancesInOrder (node_count m) m.distances

-- a machine that passes the test is in order
pub in_order : (m : Machine) → machine_ok m ≡ true → InOrder m
unfolding machine_ok cpus_ok
in_order m h =
    let d = both_true h in
    let c = both_true d.0 in
    let k = both_true c.1 in
    let l = both_true k.0 in
    record {
      counts = counts_in_order m.page_counts c.0;
      cpus_least = leb-true 1 (length m.cpu_nodes) l.0;
      cpus_most = leb-true (length m.cpu_nodes) 256 l.1;
      cpu_node = λ i l. ltb-true _ (node_count m) (all_true _ k.1 (member_at m.cpu_nodes i 0 l));
      distances = distances_in_order (node_count m) m.distances d.1;
    }
