-- Request M-106: the first test that fits, and which nodes are in the order of a plan, by the tests of the reasons 1 to 4.
-- Assumes nothing.
use Prim.Native.Nat.{ℕ, zero, suc, ◌+◌, ◌*◌, ◌≤◌, ◌<◌}
use mathlib.Core.Path.{◌≡◌, refl, sym, ap, subst, ◌∙◌}
use mathlib.Core.Logic.{◌↔◌, ◌≢◌, ◌⊎◌, inl, inr, ⊎_elim}
use mathlib.Core.Bool.{Bool, true, false, not, ◌&&◌, ◌||◌, cond, true≢false, false≢true, not-not, and_assoc, and-true}
use mathlib.Core.List.Memᴰ
use mathlib.Core.List.{List, [], ◌∷◌, map}
use mathlib.Core.Option.{Option, none, some}
use native.Mathlib.Nat.{add-zero}
use native.Mathlib.Decide.{ℕ_discrete, dec_le}
use native.Mathlib.Omega.{arith}
use borrow.Author.Tests.{eqb-true, eqb-false, eq-eqb, ne_eqb, lt-ltb, le-leb, lt-leb, not-true}
use lib.Dec.{leb, ltb, eqb}
use lib.ListN.{length, get_or, take, drop, get_or-eq_default}
use Rattle.rules.specs.Basics.{all, any, Each}
use Rattle.rules.specs.Machine.{distance}
use Rattle.rules.specs.Masks.{has}
use Rattle.rules.specs.Records.{Record, Turn, Mode, default, preferred, bind, interleave, list, ring, early, unknownMode, places_of, closes}
use Rattle.rules.specs.SearchOrder.{Try, try, Plan, nearest, placed, closed, near, tried, target, interleaved, listed, plan_in}
use Rattle.rules.specs.SearchOrder.{mode_in_force, plan, order}
use Rattle.rules.specs.Reasons.{outside_bind, is_far, unreachable, names, unnamed}
use Rattle.rules.proofs.Lists.{◌∈◌, both_true, both_hold, same_test, any_true, true_any, any_append, keep_member, member_keep, map_member, entry_same}
use Rattle.rules.proofs.Machine.{DistancesInOrder, square_in}
use Rattle.rules.proofs.Masks.{has_both}
use Rattle.rules.proofs.Near.{Reached, near_members}

-- ---- "the first that fits"

-- the number of the first test that holds, the first test having number k; one past the last where none does
abbrev pub first_fit : ℕ → List Bool → ℕ
first_fit k [] = k
first_fit k (b ∷ bs) = cond b k (first_fit (suc k) bs)

-- it is k or more
fit_least : (k : ℕ) (bs : List Bool) → k ≤ first_fit k bs
fit_least k [] = omega arith
fit_least k (true ∷ bs) = omega arith
fit_least k (false ∷ bs) = omega (arith, fit_least (suc k) bs)

-- it is k + i exactly if test i holds and none before it
pub fits_at : (k i : ℕ) (bs : List Bool) → i ≤ length bs → (first_fit k bs ≡ k + i) ↔ (Each (λ b. b ≡ false) (take i bs) × (get_or bs i true ≡ true))
unfolding Each
fits_at k zero [] l = (λ e. (tt, refl), λ h. omega arith)
fits_at k (suc i) [] l = absurd (omega arith)
fits_at k zero (true ∷ bs) l = (λ e. (tt, refl), λ h. omega arith)
fits_at k zero (false ∷ bs) l = (λ e. absurd (omega (arith, fit_least (suc k) bs)), λ h. absurd (false≢true h.1))
fits_at k (suc i) (true ∷ bs) l = (λ e. absurd (omega arith), λ h. absurd (true≢false h.0.0))
fits_at k (suc i) (false ∷ bs) l =
    let r = fits_at (suc k) i bs (omega arith) in
    let same : suc k + i ≡ k + suc i = omega arith in
    (λ e. let h = r.0 (e ∙ sym same) in ((refl, h.0), h.1), λ h. r.1 (h.0.1, h.1) ∙ same)

-- it is k + i or more exactly if none of the first i tests holds
pub fits_from : (k i : ℕ) (bs : List Bool) → i ≤ length bs → leb (k + i) (first_fit k bs) ≡ all not (take i bs)
unfolding all
fits_from k zero bs l = le-leb (k + 0) (first_fit k bs) (omega (arith, fit_least k bs))
fits_from k (suc i) [] l = absurd (omega arith)
fits_from k (suc i) (true ∷ bs) l = lt-leb (k + suc i) k (omega arith)
fits_from k (suc i) (false ∷ bs) l =
    ap (λ (x : ℕ). leb x (first_fit (suc k) bs)) (omega arith) ∙ fits_from (suc k) i bs (omega arith)

-- then the tests after these tell
pub fits_past : (k i : ℕ) (bs : List Bool) → i ≤ length bs → all not (take i bs) ≡ true → first_fit k bs ≡ first_fit (k + i) (drop i bs)
unfolding all
fits_past k zero bs l h = ap (λ (x : ℕ). first_fit x bs) (sym (add-zero k))
fits_past k (suc i) [] l h = absurd (omega arith)
fits_past k (suc i) (true ∷ bs) l h = absurd (false≢true h)
fits_past k (suc i) (false ∷ bs) l h = fits_past (suc k) i bs (omega arith) h ∙ ap (λ (x : ℕ). first_fit x (drop i bs)) (omega arith)

-- ---- "outside a bind set in force"

-- it is that exactly if mode 2 is in force and the node is not effective
pub bind_outside : (mode : Mode) (effective n : ℕ) → (outside_bind mode effective n ≡ true) ↔ ((mode ≡ bind) × (has effective n ≡ false))
unfolding outside_bind
bind_outside mode effective n = (λ e. there mode e, λ h. rw (h.0, h.1) refl)
  where
    there : (k : Mode) → outside_bind k effective n ≡ true → (k ≡ bind) × (has effective n ≡ false)
    there bind e = (refl, not-true (has effective n) e)
    there default e = absurd (false≢true e)
    there preferred e = absurd (false≢true e)
    there interleave e = absurd (false≢true e)
    there list e = absurd (false≢true e)
    there ring e = absurd (false≢true e)
    there early e = absurd (false≢true e)
    there unknownMode e = absurd (false≢true e)

-- What a plan in some mode looks at, of node n: near(x) at the nodes that the job may get and that are not outside a bind set in force; in
-- modes that search by places there is no such set.
unfoldable pub LooksAt : ℕ → ℕ → Mode → ℕ → Plan → Type 0
LooksAt limit effective mode n (nearest set x turn) = has set n ≡ (has limit n && not (outside_bind mode effective n))
LooksAt limit effective mode n (placed ts) = outside_bind mode effective n ≡ false
LooksAt limit effective mode n (closed ts x turn) = outside_bind mode effective n ≡ false

-- each mode looks at these
pub looks_at : (mode : Mode) (limit : ℕ) (r : Record) (x n : ℕ) → LooksAt limit r.effective mode n (plan_in mode limit r x)
unfolding LooksAt plan_in interleaved listed outside_bind
looks_at default limit r x n = sym (and-true (has limit n))
looks_at preferred limit r x n = sym (and-true (has limit n))
looks_at bind limit r x n = has_both limit r.effective n ∙ ap (λ (b : Bool). has limit n && b) (sym (not-not (has r.effective n)))
looks_at interleave limit r x n = go (target r.effective r.turn.cursor)
  where
    go : (o : Option ℕ) → LooksAt limit r.effective interleave n (interleaved limit o)
    go none = refl
    go (some t) = sym (and-true (has limit n))
looks_at list limit r x n = go (closes (places_of r))
  where
    go : (b : Bool) → LooksAt limit r.effective list n (listed b (map (try r.turn) (places_of r)) x r.turn)
    go true = refl
    go false = refl
looks_at ring limit r x n = refl
looks_at early limit r x n = refl
looks_at unknownMode limit r x n = refl

-- ---- the nodes that tries name

-- some tries name a node exactly if one of them is of it
pub map_names : {A : Type 0} (f : A → Try) (xs : List A) (n : ℕ) → (names (map f xs) n ≡ true) ↔ ((a : A) × (a ∈ xs) × ((f a).node ≡ n))
unfolding names
map_names f xs n = (
  λ e. let s = any_true (λ s. eqb s.node n) (map f xs) e in
      let r = map_member f xs s.1 in
      (r.0, r.1, ap (λ (s : Try). s.node) (sym r.2) ∙ eqb-true _ n s.2),
  λ h. true_any (λ s. eqb s.node n) (Memᴰ.map f h.1) (eq-eqb _ n h.2),
)

-- "A place whose byte is N or more, or not allowed, is passed over": the nodes below N that are left are those allowed
pub tried_names : (N limit : ℕ) (ts : List Try) (n : ℕ) → n < N → names (tried N limit ts) n ≡ (has limit n && names ts n)
unfolding names tried
tried_names N limit ts n l = same_test there back
  where
    is : Try → Bool
    is s = eqb s.node n

    left : Try → Bool
    left s = ltb s.node N && has limit s.node

    there : any is (tried N limit ts) ≡ true → (has limit n && any is ts) ≡ true
    there e =
        let s = any_true is (tried N limit ts) e in
        let k = keep_member left ts s.1 in
        let same : s.0.node ≡ n = eqb-true s.0.node n s.2 in
        both_hold (ap (has limit) (sym same) ∙ (both_true {a = ltb s.0.node N} k.1).1) (true_any is k.0 s.2)

    back : (has limit n && any is ts) ≡ true → any is (tried N limit ts) ≡ true
    back e =
        let b = both_true {a = has limit n} e in
        let s = any_true is ts b.1 in
        let same : s.0.node ≡ n = eqb-true s.0.node n s.2 in
        true_any is (member_keep left s.1 (both_hold (lt-ltb s.0.node N (omega arith)) (ap (has limit) same ∙ b.0))) s.2

module _ (N : ℕ) (distances : List ℕ) (o : DistancesInOrder N distances) where
  -- a distance other than 255 is 10 to 254
  reachable : (x n : ℕ) → distance N distances x n ≢ 255 → (10 ≤ distance N distances x n) × (distance N distances x n < 255)
  unfolding distance
  reachable x n d = go (dec_le (suc (x * N + n)) (length distances))
    where
      go : Dec (suc (x * N + n) ≤ length distances) → (10 ≤ distance N distances x n) × (distance N distances x n < 255)
      go (yes l) =
          let e = entry_same distances (x * N + n) 255 0 l in
          let low = o.least (x * N + n) l in
          let high = o.most (x * N + n) l in
          (omega arith, omega arith)
      go (no l) = absurd (d (get_or-eq_default distances 255 {n = x * N + n} (omega arith)))

  -- a node is not far from itself
  own_distance : (x : ℕ) → x < N → distance N distances x x ≡ 10
  unfolding distance
  own_distance x l = entry_same distances (x * N + x) 255 0 (rw o.square (square_in x N x l l)) ∙ o.own x l

  -- near(x) names the nodes of its set that are not far from x
  near_names : (set x : ℕ) (turn : Turn) (n : ℕ) → n < N → names (map (try turn) (near N distances set x)) n ≡ (has set n && not (is_far N distances x n))
  unfolding is_far
  near_names set x turn n l = same_test there back
    where
      named : (names (map (try turn) (near N distances set x)) n ≡ true) ↔ ((k : ℕ) × (k ∈ near N distances set x) × (k ≡ n))
      named = map_names (try turn) (near N distances set x) n

      close : {b : Bool} → b ≡ true → (distance N distances x n ≢ 255) → (b && not (eqb (distance N distances x n) 255)) ≡ true
      close e d = both_hold e (ap not (ne_eqb (distance N distances x n) 255 d))

      there : names (map (try turn) (near N distances set x)) n ≡ true → (has set n && not (eqb (distance N distances x n) 255)) ≡ true
      there e =
          let k = named.0 e in
          ⊎_elim
          (λ q. close (ap (has set) q.0 ∙ q.1)
          (λ z. let d = own_distance n l in let s = ap (λ (y : ℕ). distance N distances y n) q.0 in omega arith))
          (λ r. close r.allowed (λ z. omega (arith, r.reachable)))
          ((near_members N distances set x n).0 (subst (λ (y : ℕ). y ∈ near N distances set x) k.2 k.1))

      back : (has set n && not (eqb (distance N distances x n) 255)) ≡ true → names (map (try turn) (near N distances set x)) n ≡ true
      back e = named.1 (n, (near_members N distances set x n).1 (go (ℕ_discrete n x)), refl)
        where
          b : (has set n ≡ true) × (not (eqb (distance N distances x n) 255) ≡ true)
          b = both_true {a = has set n} e

          go : Dec (n ≡ x) → ((n ≡ x) × (has set x ≡ true)) ⊎ Reached N distances set x n
          go (yes q) = inl (q, ap (has set) (sym q) ∙ b.0)
          go (no q) =
              let d = reachable x n (eqb-false _ 255 (not-true _ b.1)) in
              inr (record { allowed = b.0; other = q; is_node = l; least = d.0; reachable = d.1 })

  -- the nodes of a plan's order
  order_names : (limit effective : ℕ) (mode : Mode) (n : ℕ) → n < N → (p : Plan) → LooksAt limit effective mode n p
      → names (order N distances limit p) n
      ≡ all not (not (has limit n) ∷ outside_bind mode effective n ∷ unreachable N distances p n ∷ unnamed N distances p n ∷ [])
  unfolding order LooksAt unreachable unnamed all names
  order_names limit effective mode n l (nearest set x turn) h =
      near_names set x turn n l
      ∙ rw (h, not-not (has limit n), and-true (not (is_far N distances x n)), and_assoc (has limit n) (not (outside_bind mode effective n)))
  order_names limit effective mode n l (placed ts) h =
      tried_names N limit ts n l ∙ rw (h, not-not (has limit n), not-not (names ts n), and-true (names ts n))
  order_names limit effective mode n l (closed ts x turn) h =
      any_append (λ s. eqb s.node n) (tried N limit ts) (map (try turn) (near N distances limit x))
      ∙ rw (tried_names N limit ts n l, near_names limit x turn n l, h) (either (has limit n) (names ts n) (is_far N distances x n))
    where
      either : (a b c : Bool) → ((a && b) || (a && not c)) ≡ (not (not a) && (true && (true && (not (not b && c) && true))))
      either true true c = refl
      either true false c = sym (and-true (not c))
      either false b c = refl

  -- the nodes of a record's order: none of the reasons 1 to 4 fits
  pub planned_names : (limit : ℕ) (r : Record) (x n : ℕ) → n < N
      → names (order N distances limit (plan limit r x)) n
      ≡ all not (not (has limit n) ∷ outside_bind (mode_in_force r) r.effective n ∷ unreachable N distances (plan limit r x) n
      ∷ unnamed N distances (plan limit r x) n ∷ [])
  unfolding plan
  planned_names limit r x n l = order_names limit r.effective (mode_in_force r) n l (plan limit r x) (looks_at (mode_in_force r) limit r x n)
