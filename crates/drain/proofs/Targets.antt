-- Where a page goes, by the counts: the targets of a job's page stand in near(x), and the first with room is the first that is counted above 0.
-- Assumes nothing.
use Prim.Native.Nat.{ℕ, ◌≤◌, ◌<◌}
use mathlib.Core.Path.{◌≡◌, refl, sym, ap, subst, ◌∙◌}
use mathlib.Core.Logic.{◌≢◌, ⊎_elim}
use mathlib.Core.Bool.{Bool, true, false, not, ◌&&◌, cond}
use mathlib.Core.List.Memᴰ
use mathlib.Core.List.{List, [], ◌∷◌, ◌++◌}
use mathlib.Core.Option.{Option, none}
use native.Mathlib.Nat.{lt_of_lt_of_le}
use native.Mathlib.Omega.{arith}
use borrow.Author.Tests.{eq-eqb}
use lib.Dec.{eqb}
use lib.ListN.{length, get_or, drop}
use Rattle.rules.specs.Basics.{keep, first, each, from}
use Rattle.rules.specs.Machine.{distance}
use Rattle.rules.specs.Masks.{most_nodes, has, all_nodes}
use Rattle.rules.specs.SearchOrder.{others, at_distance, near, has_room, free_counts, counted}
use Rattle.rules.specs.Near.{beyond}
use Rattle.rules.specs.Calls.{Tables, limit_of, map_of, is_mapped}
use Rattle.rules.specs.Drain.{without, targets, is_movable, goal}
use Rattle.rules.proofs.FreeCounts.{counted_room}
use Rattle.rules.proofs.Lists.{◌∈◌, fails, keep_agree, keep_append, keep_keep, member_at, each_same, from_member}
use Rattle.rules.proofs.Masks.{bit_below, has_mask_of}
use Rattle.rules.proofs.Moves.{without_has}
use Rattle.rules.proofs.Near.{near_members, near_once}
use Rattle.rules.proofs.Sorted.{Sorted, sorted_head, once_length}
use Rattle.drain.specs.Goals.{near_others, may_move, limit_in, opens, goal_by, Ordered}

-- to keep of lists end to end is to keep of each
keep_each : {A B : Type 0} (p : B → Bool) (f : A → List B) (xs : List A) → keep p (each f xs) ≡ each (λ x. keep p (f x)) xs
unfolding keep each
keep_each p f [] = refl
keep_each {B = B} p f (x ∷ xs) = keep_append p (f x) (each f xs) ∙ ap (λ (l : List B). keep p (f x) ++ l) (keep_each p f xs)

-- the tests of a node: in the limit, another than x, at some distance
tests_same : (a o d : Bool) → (((a && o) && o) && d) ≡ (((true && o) && d) && a)
tests_same true true true = refl
tests_same true true false = refl
tests_same true false d = refl
tests_same false true true = refl
tests_same false true false = refl
tests_same false false d = refl

-- every node of the machine is one of all nodes
has_all : {n k : ℕ} → k < n → has (all_nodes n) k ≡ true
has_all {n} {k} l = eq-eqb _ 1 (bit_below n k l)

module _ (n : ℕ) (distances : List ℕ) (x : ℕ) where
  -- near(x) over all nodes is x, and behind it the others
  near_all : x < n → near n distances (all_nodes n) x ≡ x ∷ beyond n distances (all_nodes n) x
  unfolding near keep
  near_all l = rw (has_all l)

  others_beyond : x < n → near_others n distances x ≡ beyond n distances (all_nodes n) x
  unfolding near_others
  others_beyond l = ap (drop 1) (near_all l)

  pub near_others_lem : x < n → near n distances (all_nodes n) x ≡ x ∷ near_others n distances x
  near_others_lem l = near_all l ∙ ap (λ (ns : List ℕ). x ∷ ns) (sym (others_beyond l))

module _ (n : ℕ) (distances : List ℕ) (limit x : ℕ) (few : n ≤ most_nodes) where
  -- the nodes at one distance
  level_kept : (d : ℕ) → at_distance n distances x (others n (without limit x) x) d
      ≡ keep (has limit) (at_distance n distances x (others n (all_nodes n) x) d)
  unfolding at_distance others without
  level_kept d =
      keep_keep (λ k. has (without limit x) k && not (eqb k x)) at (from 0 n)
      ∙ keep_agree _ _ (from 0 n) (λ k m. same k (omega (arith, (from_member 0 n m).1)))
      ∙ sym (keep_keep (λ k. (has (all_nodes n) k && not (eqb k x)) && at k) (has limit) (from 0 n))
      ∙ ap (keep (has limit)) (sym (keep_keep (λ k. has (all_nodes n) k && not (eqb k x)) at (from 0 n)))
    where
      at : ℕ → Bool
      at k = eqb (distance n distances x k) d

      same : (k : ℕ) → k < n
          → ((has (without limit x) k && not (eqb k x)) && at k) ≡ (((has (all_nodes n) k && not (eqb k x)) && at k) && has limit k)
      same k l =
          rw (has_mask_of most_nodes (λ k. has limit k && not (eqb k x)) k (lt_of_lt_of_le l few), has_all l)
          (tests_same (has limit k) (not (eqb k x)) (at k))

  -- the targets of a page of x, by its holder's limit: those of the other nodes, nearest first, that are in it
  pub targets_others : x < n → targets n distances limit x ≡ keep (has limit) (near_others n distances x)
  unfolding targets near keep
  targets_others l =
      rw (fails (λ h. (without_has limit x x h).1 refl))
      (each_same _ _ (from 10 245) (λ d m. level_kept d)
      ∙ sym (keep_each (has limit) (at_distance n distances x (others n (all_nodes n) x)) (from 10 245))
      ∙ ap (keep (has limit)) (sym (others_beyond n distances x l)))

-- the other nodes, nearest first, are what may be counted on
pub others_ordered : (n : ℕ) (distances free : List ℕ) (x : ℕ) → n ≤ most_nodes → x < n → length free ≡ n
    → Ordered n x (near_others n distances x) free
others_ordered n distances free x few l long = record {
  short = let all = once_length n (near_once n distances (all_nodes n) x) below in omega (arith, all, ap length (near_others_lem n distances x l));
  nodes = λ i h. below _ (listed i h);
  others = λ i h e. sorted_head once _ (member_at (near_others n distances x) i 0 h) (sym e);
  one_each = long;
  node = l;
}
  where
    below : (k : ℕ) → k ∈ near n distances (all_nodes n) x → k < n
    below k m = ⊎_elim (λ q. omega (arith, q.0)) (λ r. r.is_node) ((near_members n distances (all_nodes n) x k).0 m)

    once : Sorted (λ a b. a ≢ b) (x ∷ near_others n distances x)
    once = subst (Sorted (λ a b. a ≢ b)) (near_others_lem n distances x l) (near_once n distances (all_nodes n) x)

    listed : (i : ℕ) → i < length (near_others n distances x) → get_or (near_others n distances x) i 0 ∈ near n distances (all_nodes n) x
    listed i h = rw (near_others_lem n distances x l) (Memᴰ.tail (member_at (near_others n distances x) i 0 h))

-- where a page of x that job j holds goes, by the counts: nowhere if the job may not be moved, else its goal
pub goal_by_lem : (counts distances : List ℕ) (t : Tables) (x j : ℕ) → length counts ≤ most_nodes → x < length counts
    → t.free ≡ free_counts counts t.ledger
    → cond (is_movable (length counts) t j) (goal counts distances t x j) none
    ≡ goal_by (length counts) (near_others (length counts) distances x) t.records t.maps t.free j
unfolding goal_by may_move limit_in is_movable is_mapped limit_of map_of goal
goal_by_lem counts distances t x j few l a =
    ap (λ (o : Option ℕ). cond (is_movable (length counts) t j) o none) (ap first same)
  where
    same : keep (has_room counts t.ledger) (targets (length counts) distances (limit_of t j) x)
        ≡ keep (opens t.free (limit_of t j)) (near_others (length counts) distances x)
    same =
        ap (keep (has_room counts t.ledger)) (targets_others (length counts) distances (limit_of t j) x few l)
        ∙ keep_keep (has (limit_of t j)) (has_room counts t.ledger) (near_others (length counts) distances x)
        ∙ keep_agree _ _ (near_others (length counts) distances x)
        (λ k m. ap (λ (b : Bool). has (limit_of t j) k && b) (sym (ap (λ (f : List ℕ). counted f k) a ∙ counted_room counts t.ledger k)))
