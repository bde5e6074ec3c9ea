-- What the code finds of a plan is what the rules say of it.
-- Assumes nothing.
use Prim.Native.Nat.{ℕ, ◌^◌, ◌≤◌, ◌<◌}
use mathlib.Core.Path.{◌≡◌, refl, sym, ◌∙◌}
use mathlib.Core.Bool.{Bool, true, false, not, ◌&&◌, ◌||◌, cond}
use mathlib.Core.List.{List}
use mathlib.Core.Option.{Option}
use native.Mathlib.Nat.{lt_of_lt_of_le}
use native.Mathlib.Decide.{dec_le}
use native.Mathlib.Omega.{arith}
use borrow.Author.Tests.{eqb-true, eq-eqb}
use lib.Dec.{eqb}
use lib.ListN.{length}
use lib.Seq.{length-take-le}
use Rattle.rules.specs.Masks.{most_nodes, has}
use Rattle.rules.specs.Maps.{is_in, set_of}
use Rattle.rules.specs.Records.{Record, Mode, places_per_job, places_of, well_formed}
use Rattle.rules.specs.SearchOrder.{Try, Plan as LawPlan, nearest, placed, closed, node_at, listed, mode_in_force, plan, order, counted, chosen}
use Rattle.rules.specs.Reasons.{outside_bind, is_far, unreachable, names, unnamed, is_chosen, reason_in}
use Rattle.rules.proofs.Lists.{same_test, any_true, true_any, member_at, at_member}
use Rattle.rules.proofs.WellFormed.{formed, few_listed}
use Rattle.rules.proofs.ReasonsOf.{LooksAt, looks_at}
use Rattle.rules.proofs.ReasonsPlan.{ByPlaces, by_places_lem, by_near}
use Rattle.maps.proofs.NodeSets.{set_has}
use Rattle.placement.specs.Plans.{plan_of}
use Rattle.placement.specs.declared.plan.Plan.{Plan}
use Rattle.placement.specs.declared.plan.Plan.TheVariants.{Near, Places, Closed}
use Rattle.reasons.specs.declared.reach.Reach.{Reach}
use Rattle.reasons.specs.Reasons.{reason_by, reason_at, Reaches}

-- ---- the nodes that places name

-- the tries of a plan by places are of the nodes of a set, as far as node k goes
NamesAs : ℕ → ℕ → LawPlan → Type 0
NamesAs named k (nearest set x turn) = Unit {0}
NamesAs named k (placed ts) = names ts k ≡ has named k
NamesAs named k (closed ts x turn) = names ts k ≡ has named k

module _ (n limit : ℕ) (r : Record) (x : ℕ) (few : n ≤ most_nodes) (w : well_formed n r ≡ true) (sixteen : length r.bytes ≡ places_per_job)
    (word : r.user < 2 ^ most_nodes) (k : ℕ) (l : k < most_nodes) where
  named_set : (b : ByPlaces limit r x) → names b.tries k ≡ has (set_of (places_of r)) k
  unfolding node_at places_of
  named_set b = same_test there back ∙ sym (set_has (places_of r) k l)
    where
      long : length (places_of r) ≡ r.len
      long = let f = few_listed n r (formed n r w) in length-take-le r.len r.bytes (omega arith)

      there : names b.tries k ≡ true → is_in (places_of r) k ≡ true
      there e =
          let p = (b.named k).0 e in
          true_any (eqb k) (member_at (places_of r) p.0 0 (omega (arith, p.1, long))) (eq-eqb k _ (sym p.2))

      back : is_in (places_of r) k ≡ true → names b.tries k ≡ true
      back e =
          let s = any_true (eqb k) (places_of r) e in
          let i = at_member 0 s.1 in
          (b.named k).1 (i.0, omega (arith, i.1, long), i.2 ∙ sym (eqb-true k s.0 s.2))

  -- the set of the nodes that the places name
  names_as : NamesAs (set_of (places_of r)) k (plan limit r x)
  unfolding NamesAs listed
  names_as = go (dec_le 4 r.mode)
    where
      by : (b : ByPlaces limit r x) (closing : Bool) → NamesAs (set_of (places_of r)) k (listed closing b.tries x r.turn)
      by b true = named_set b
      by b false = named_set b

      go : Dec (4 ≤ r.mode) → NamesAs (set_of (places_of r)) k (plan limit r x)
      go (yes four) = let b = by_places_lem limit r x n (formed n r w) sixteen four in rw b.searches (by b b.closing)
      go (no less) = rw (by_near limit r x n few w word (omega arith)).3 tt

-- ---- "the first that fits"

near_fits : (a o f : Bool) (rest : ℕ)
    → cond (not a) 1 (cond (not (a && not o)) 2 (cond (not (not f)) 3 rest)) ≡ cond (not a) 1 (cond o 2 (cond f 3 (cond false 4 rest)))
near_fits false o f rest = refl
near_fits true true f rest = refl
near_fits true false true rest = refl
near_fits true false false rest = refl

placed_fits : (a h : Bool) (rest : ℕ)
    → cond (not a) 1 (cond (not a) 2 (cond (not h) 4 rest)) ≡ cond (not a) 1 (cond false 2 (cond false 3 (cond (not h) 4 rest)))
placed_fits false h rest = refl
placed_fits true h rest = refl

closed_fits : (a h f : Bool) (rest : ℕ)
    → cond (not a) 1 (cond (not a) 2 (cond (not (h || not f)) 4 rest)) ≡ cond (not a) 1 (cond false 2 (cond false 3 (cond (not h && f) 4 rest)))
closed_fits false h f rest = refl
closed_fits true true f rest = refl
closed_fits true false true rest = refl
closed_fits true false false rest = refl

-- the tests of the rules, by a plan
abbrev tests_of : ℕ → List ℕ → List ℕ → ℕ → Mode → ℕ → LawPlan → Option Try → ℕ → ℕ
tests_of n distances free limit mode effective p t k =
    cond (not (has limit k)) 1
    (cond (outside_bind mode effective k) 2
    (cond (unreachable n distances p k) 3
    (cond (unnamed n distances p k) 4
    (cond (not (counted free k)) 5
    (cond (is_chosen t k) 6
    7)))))

-- those of the code come to the same
module _ (n : ℕ) (distances free : List ℕ) (limit : ℕ) (mode : Mode) (effective named : ℕ) (places : List ℕ) (t : Option Try) (k : ℕ) (l : k < n) where
  abbrev rest : ℕ
  rest = cond (not (counted free k)) 5 (cond (is_chosen t k) 6 7)

  same_tests : (p : Plan) (reach : Reach) → LooksAt limit effective mode k (plan_of places p) → NamesAs named k (plan_of places p)
      → Reaches n distances limit named p reach → reason_at free limit reach t k ≡ tests_of n distances free limit mode effective (plan_of places p) t k
  unfolding LooksAt NamesAs reason_by unreachable unnamed
  same_tests (Near set x cursor) reach looks called q =
      rw (q.set, q.found k l, q.missed, looks) (near_fits (has limit k) (outside_bind mode effective k) (is_far n distances x.0 k) rest)
  same_tests (Places walk) reach looks called q = rw (q.set, q.found k l, q.missed, looks, called) (placed_fits (has limit k) (has named k) rest)
  same_tests (Closed walk x) reach looks called q =
      rw (q.set, q.found k l, q.missed, looks, called) (closed_fits (has limit k) (has named k) (is_far n distances x.0 k) rest)

module _ (n : ℕ) (distances free : List ℕ) (limit : ℕ) (r : Record) (x : ℕ) (few : n ≤ most_nodes) (w : well_formed n r ≡ true)
    (sixteen : length r.bytes ≡ places_per_job) (word : r.user < 2 ^ most_nodes) (places : List ℕ) where
  -- the reason of each node is the rules'
  pub reason_is : (p : Plan) (reach : Reach) → plan_of places p ≡ plan limit r x → Reaches n distances limit (set_of (places_of r)) p reach
      → (k : ℕ) → k < n
      → reason_at free limit reach (chosen free (order n distances limit (plan limit r x))) k ≡ reason_in n distances free limit r (plan limit r x) k
  unfolding reason_in plan
  reason_is p reach e q k l =
      let t = chosen free (order n distances limit (plan limit r x)) in
      let looks = looks_at (mode_in_force r) limit r x k in
      let called = names_as n limit r x few w sixteen word k (lt_of_lt_of_le l few) in
      same_tests n distances free limit (mode_in_force r) r.effective (set_of (places_of r)) places t k l p reach (rw e looks) (rw e called) q
      ∙ rw e refl
