-- Laws of a search by the counts: tries end to end, near(x)'s nodes, and the places one by one.
-- Assumes nothing.
use Prim.Native.Nat.{ℕ, zero, suc, ◌+◌, ◌-◌, ◌%◌, ◌<◌}
use mathlib.Core.Path.{◌≡◌, refl}
use mathlib.Core.Bool.{Bool, true, false, ◌&&◌, cond}
use mathlib.Core.List.{List, [], ◌∷◌, ◌++◌, map}
use mathlib.Core.Option.{Option, none, some}
use native.Mathlib.Nat.{mod-add-mod}
use native.Mathlib.Omega.{arith}
use lib.Dec.{ltb}
use lib.ListN.{get_or}
use Rattle.rules.specs.Basics.{keep, first, around}
use Rattle.rules.specs.Masks.{has}
use Rattle.rules.specs.Records.{Turn}
use Rattle.rules.specs.SearchOrder.{Try, try, tried, counted, chosen}
use Rattle.rules.proofs.Lists.{both_true, keep_append, first_append, none_append}
use Rattle.records.specs.Jobs.{turn_of}
use Rattle.placement.specs.declared.plan.Walk.{Walk}
use Rattle.placement.specs.Plans.{leaves, try_place, early_tries, round_tries, walk_tries}

-- ---- one try, and then the rest

-- M-100: the node of a try is one of the machine's, in the limit, and counted above 0
abbrev pub is_open : List ℕ → ℕ → ℕ → ℕ → Bool
is_open free n limit k = ltb k n && has limit k && counted free k

module _ (free : List ℕ) (n limit : ℕ) (t : Try) (ts : List Try) where
  -- a try that is open is chosen
  pub open_first : is_open free n limit t.node ≡ true → chosen free (tried n limit (t ∷ []) ++ ts) ≡ some t
  unfolding chosen tried keep first
  open_first e = let a = both_true {a = ltb t.node n && has limit t.node} {b = counted free t.node} e in rw (a.0, a.1)

  -- one that is not leaves the rest
  pub open_rest : is_open free n limit t.node ≡ false → chosen free (tried n limit (t ∷ []) ++ ts) ≡ chosen free ts
  unfolding chosen tried keep
  open_rest e = go (ltb t.node n && has limit t.node) refl
    where
      is_counted : Try → Bool
      is_counted s = counted free s.node

      go : (b : Bool) → (ltb t.node n && has limit t.node) ≡ b → first (keep is_counted (cond b (t ∷ []) [] ++ ts)) ≡ first (keep is_counted ts)
      go true q = let f : counted free t.node ≡ false = rw q at e in rw f
      go false q = refl

-- of tries end to end: one of the first is chosen
pub chosen_first : (free : List ℕ) (ts us : List Try) {t : Try} → chosen free ts ≡ some t → chosen free (ts ++ us) ≡ some t
unfolding chosen
chosen_first free ts us e = rw (keep_append (λ (t : Try). counted free t.node) ts us) (first_append _ _ e)

-- none of them is: the others choose
pub chosen_rest : (free : List ℕ) (ts us : List Try) → chosen free ts ≡ none → chosen free (ts ++ us) ≡ chosen free us
unfolding chosen
chosen_rest free ts us e = rw (keep_append (λ (t : Try). counted free t.node) ts us) (none_append _ _ e)

-- no try is open
pub none_tried : (free : List ℕ) → chosen free [] ≡ none
unfolding chosen keep first
none_tried free = refl

-- ---- near(x)

-- the first node that is counted above 0, with the turn that all leave
abbrev pub try_at : Turn → Option ℕ → Option Try
try_at turn none = none
try_at turn (some k) = some (try turn k)

-- by near(x) the first node of the list that is counted above 0 is chosen
pub near_chosen : (free : List ℕ) (turn : Turn) (ns : List ℕ) → chosen free (map (try turn) ns) ≡ try_at turn (first (keep (counted free) ns))
unfolding chosen keep first
near_chosen free turn [] = refl
near_chosen free turn (k ∷ ns) = go (counted free k) (near_chosen free turn ns)
  where
    go : (b : Bool) → chosen free (map (try turn) ns) ≡ try_at turn (first (keep (counted free) ns))
        → first (cond b (try turn k ∷ keep (λ s. counted free s.node) (map (try turn) ns)) (keep (λ s. counted free s.node) (map (try turn) ns)))
        ≡ try_at turn (first (cond b (k ∷ keep (counted free) ns) (keep (counted free) ns)))
    go true ih = refl
    go false ih = ih

-- ---- places, one by one

-- one try is tested, then the rest
tried_next : (n limit : ℕ) (t : Try) (ts : List Try) → tried n limit (t ∷ ts) ≡ tried n limit (t ∷ []) ++ tried n limit ts
unfolding tried
tried_next n limit t ts = keep_append _ (t ∷ []) ts

around_mod : (n c i k : ℕ) → around n (c % n + i) k ≡ around n (c + i) k
unfolding around
around_mod n c i zero = refl
around_mod n c i (suc k) =
    let e : suc (c % n + i) ≡ c % n + suc i = omega arith in
    let f : suc (c + i) ≡ c + suc i = omega arith in
    rw (mod-add-mod c n i, e, f, around_mod n c (suc i) k)

round_next : (moves : Bool) (places : List ℕ) (turn : Turn) (len c k : ℕ) → 0 < k
    → round_tries moves places turn len c k
    ≡ try (leaves moves turn (c % len)) (get_or places (c % len) 0) ∷ round_tries moves places turn len (c % len + 1) (k - 1)
unfolding round_tries around
round_next moves places turn len c zero h = absurd (omega arith)
round_next moves places turn len c (suc k) h =
    let e : suc c ≡ c + 1 = omega arith in
    let f : suc k - 1 ≡ k = omega arith in
    rw (f, e, around_mod len c 1 k)

-- the place at the position is tested, and then the walk goes on from the one after it
pub round_step : (n limit : ℕ) (moves : Bool) (places : List ℕ) (turn after : Turn) (len c k p : ℕ) → 0 < k → p ≡ c % len → after ≡ leaves moves turn p
    → tried n limit (round_tries moves places turn len c k)
    ≡ tried n limit (try after (get_or places p 0) ∷ []) ++ tried n limit (round_tries moves places turn len (p + 1) (k - 1))
round_step n limit moves places turn after len c k p h e q = rw (q, e, round_next moves places turn len c k h) (tried_next n limit _ _)

-- the walk is done
pub round_none : (n limit : ℕ) (moves : Bool) (places : List ℕ) (turn : Turn) (len c k : ℕ) → k ≡ 0 → tried n limit (round_tries moves places turn len c k) ≡ []
unfolding tried round_tries around keep
round_none n limit moves places turn len c k e = rw e

-- "Early: place 0, then as ring"
module _ (free : List ℕ) (n limit : ℕ) (w : Walk) (places : List ℕ) where
  -- the tries of the round
  abbrev round : List Try
  round = round_tries w.moves places (turn_of w.cursor) w.len w.cursor w.len

  walk_tries_lem : tried n limit (walk_tries w places) ≡ tried n limit (early_tries w places) ++ tried n limit round
  unfolding walk_tries tried
  walk_tries_lem = keep_append _ (early_tries w places) _

  -- the try of place 0
  abbrev first_place : Try
  first_place = try_place w.moves places (turn_of w.cursor) 0

  -- place 0 is open, and comes first
  pub early_first : w.early ≡ true → is_open free n limit (get_or places 0 0) ≡ true → chosen free (tried n limit (walk_tries w places)) ≡ some first_place
  unfolding early_tries
  early_first e o = rw (walk_tries_lem, e) (open_first free n limit first_place (tried n limit round) o)

  -- it is not open: the round chooses
  pub early_rest : w.early ≡ true → is_open free n limit (get_or places 0 0) ≡ false
      → chosen free (tried n limit (walk_tries w places)) ≡ chosen free (tried n limit round)
  unfolding early_tries
  early_rest e o = rw (walk_tries_lem, e) (open_rest free n limit first_place (tried n limit round) o)

  -- the walk is not early
  pub not_early : w.early ≡ false → chosen free (tried n limit (walk_tries w places)) ≡ chosen free (tried n limit round)
  unfolding early_tries tried keep
  not_early e = rw (walk_tries_lem, e)
