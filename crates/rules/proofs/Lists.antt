-- Laws of the words about lists and tests (specs/Basics), over any element type.
-- Assumes nothing.
use Prim.Native.Nat.{suc-le-suc, ℕ, zero, suc, ◌+◌, ◌-◌, ◌%◌, ◌≤◌, ◌<◌}
use mathlib.Core.Path.{◌≡◌, refl, sym, ap, ap₂, subst, ◌∙◌}
use mathlib.Core.Logic.{◌↔◌, ◌⊎◌, ◌≢◌, inl, inr, ⊎_elim}
use mathlib.Core.Bool.{Bool, true, false, not, ◌&&◌, ◌||◌, cond, true≢false, false≢true, and-eq-true_iff, or-true, and_assoc, and-true}
use mathlib.Core.Bool.{or_assoc}
use mathlib.Mathlib.Data.Bool.Basic.{eq-false_of_not-eq-true}
use mathlib.Core.Option.{none, some}
use mathlib.Core.List.Memᴰ
use mathlib.Core.List.{List, [], ◌∷◌, ◌++◌, map, append_assoc, append-nil, Memᴰ}
use native.Mathlib.Nat.{not-suc-le-zero, le_of_suc-le-suc, zero-lt-suc, zero-add, add-zero, suc-add, add-suc, eq-or-lt_of_le, mod-lt}
use native.Mathlib.Numerals.{add-one}
use native.Mathlib.Omega.{arith}
use lib.ListN.{length, get_or, take, drop, take-append-drop}
use lib.Dec.{leb, eqb}
use borrow.Author.Tests.{leb-true, le-leb, eqb-true, eq-eqb}
use Rattle.rules.specs.Basics.{all, all_at, any, keep, first, first_or, last_or, but_last, is_nil, count, each, from, around, sum, between, same}

-- ---- tests

-- two tests that hold together
pub both_true : {a b : Bool} → (a && b) ≡ true → (a ≡ true) × (b ≡ true)
both_true {a} {b} h = (and-eq-true_iff a b).0 h

-- two tests that each hold, hold together
pub both_hold : {a b : Bool} → a ≡ true → b ≡ true → (a && b) ≡ true
both_hold p q = rw (p, q)

-- of two tests neither holds
pub either_false : {a b : Bool} → (a || b) ≡ false → (a ≡ false) × (b ≡ false)
either_false {a = true} {b = b} h = absurd (true≢false h)
either_false {a = false} {b = b} h = (refl, h)

-- of two tests one holds
pub either_true : {a b : Bool} → (a || b) ≡ true → (a ≡ true) ⊎ (b ≡ true)
either_true {a = true} {b = b} h = inl refl
either_true {a = false} {b = b} h = inr h

-- two tests that hold in the same cases are the same
pub same_test : {a b : Bool} → (a ≡ true → b ≡ true) → (b ≡ true → a ≡ true) → a ≡ b
same_test {a = true} {b = b} f g = sym (f refl)
same_test {a = false} {b = true} f g = g refl
same_test {a = false} {b = false} f g = refl

-- a test that does not hold fails
pub fails : {a : Bool} → (a ≡ true → ⊥) → a ≡ false
fails h = eq-false_of_not-eq-true h

-- a number between two is at least the one and at most the other
pub between_true : (low high x : ℕ) → between low high x ≡ true → (low ≤ x) × (x ≤ high)
between_true low high x h = let b = both_true {a = leb low x} h in (leb-true low x b.0, leb-true x high b.1)

-- and the other way
pub true_between : (low high x : ℕ) → low ≤ x → x ≤ high → between low high x ≡ true
true_between low high x l h = both_hold (le-leb low x l) (le-leb x high h)

-- ---- members

infix 40 ◌∈◌
-- x is one of the list
abbrev pub ◌∈◌ : {A : Type 0} → A → List A → Type 0
x ∈ xs = Memᴰ x xs

module _ {A : Type 0} where
  -- one that is kept is of the list and passes the test
  pub keep_member : (p : A → Bool) (xs : List A) {x : A} → x ∈ keep p xs → (x ∈ xs) × (p x ≡ true)
  unfolding keep
  keep_member p [] h = absurd (Memᴰ.not-nil h)
  keep_member p (y ∷ ys) {x = x} h = go (p y) refl h (λ m. keep_member p ys m)
    where
      go : (b : Bool) → p y ≡ b → x ∈ cond b (y ∷ keep p ys) (keep p ys)
          → (x ∈ keep p ys → (x ∈ ys) × (p x ≡ true)) → (x ∈ (y ∷ ys)) × (p x ≡ true)
      go true e h ih =
          ⊎_elim (λ q. (Memᴰ.head q, ap p q ∙ e)) (λ m. let r = ih m in (Memᴰ.tail r.0, r.1)) (Memᴰ.cases_cons h)
      go false e h ih = let r = ih h in (Memᴰ.tail r.0, r.1)

  -- one of the list that passes the test is kept
  pub member_keep : (p : A → Bool) {x : A} {xs : List A} → x ∈ xs → p x ≡ true → x ∈ keep p xs
  unfolding keep
  member_keep p {xs = []} m t = elim m [ ]
  member_keep p {xs = y ∷ ys} (Memᴰ.head q) t = rw (ap p (sym q) ∙ t) (Memᴰ.head q)
  member_keep p {x = x} {xs = y ∷ ys} (Memᴰ.tail m) t = go (p y) (member_keep p m t)
    where
      go : (b : Bool) → x ∈ keep p ys → x ∈ cond b (y ∷ keep p ys) (keep p ys)
      go true h = Memᴰ.tail h
      go false h = h

  -- to keep of two lists end to end is to keep of each
  pub keep_append : (p : A → Bool) (xs ys : List A) → keep p (xs ++ ys) ≡ keep p xs ++ keep p ys
  unfolding keep
  keep_append p [] ys = refl
  keep_append p (x ∷ xs) ys = go (p x) (keep_append p xs ys)
    where
      go : (b : Bool) → keep p (xs ++ ys) ≡ keep p xs ++ keep p ys
          → cond b (x ∷ keep p (xs ++ ys)) (keep p (xs ++ ys)) ≡ cond b (x ∷ keep p xs) (keep p xs) ++ keep p ys
      go true e = ap (λ (l : List A). x ∷ l) e
      go false e = e

  -- tests that agree on a list keep the same of it
  pub keep_agree : (p q : A → Bool) (xs : List A) → ((x : A) → x ∈ xs → p x ≡ q x) → keep p xs ≡ keep q xs
  unfolding keep
  keep_agree p q [] h = refl
  keep_agree p q (x ∷ xs) h = rw (h x (Memᴰ.head refl), keep_agree p q xs (λ y m. h y (Memᴰ.tail m)))

  pub keep_same : (p q : A → Bool) (xs : List A) → ((x : A) → p x ≡ q x) → keep p xs ≡ keep q xs
  keep_same p q xs h = keep_agree p q xs (λ x m. h x)

  -- to keep twice is to keep by both tests
  pub keep_keep : (p q : A → Bool) (xs : List A) → keep q (keep p xs) ≡ keep (λ x. p x && q x) xs
  unfolding keep
  keep_keep p q [] = refl
  keep_keep p q (x ∷ xs) = go (p x) (keep_keep p q xs)
    where
      go : (b : Bool) → keep q (keep p xs) ≡ keep (λ x. p x && q x) xs
          → keep q (cond b (x ∷ keep p xs) (keep p xs)) ≡ cond (b && q x) (x ∷ keep (λ x. p x && q x) xs) (keep (λ x. p x && q x) xs)
      go true e = ap (λ (l : List A). cond (q x) (x ∷ l) l) e
      go false e = e

  -- the entry of a place in the list is one of the list
  pub member_at : (xs : List A) (i : ℕ) (d : A) → i < length xs → get_or xs i d ∈ xs
  member_at [] i d h = absurd (not-suc-le-zero h)
  member_at (x ∷ xs) zero d h = Memᴰ.head refl
  member_at (x ∷ xs) (suc i) d h = Memᴰ.tail (member_at xs i d (le_of_suc-le-suc h))

  -- and each one of the list is the entry of a place
  pub at_member : (d : A) {x : A} {xs : List A} → x ∈ xs → (i : ℕ) × (i < length xs) × (get_or xs i d ≡ x)
  at_member d (Memᴰ.head q) = (0, zero-lt-suc _, sym q)
  at_member d (Memᴰ.tail m) = let r = at_member d m in (suc r.0, suc-le-suc r.1, r.2)

  -- ---- some, every one, the first that passes

  -- some one passes: there is one of the list that does
  pub any_true : (p : A → Bool) (xs : List A) → any p xs ≡ true → (x : A) × (x ∈ xs) × (p x ≡ true)
  unfolding any
  any_true p [] h = absurd (false≢true h)
  any_true p (y ∷ ys) h = go (p y) refl h (any_true p ys)
    where
      go : (b : Bool) → p y ≡ b → (b || any p ys) ≡ true → (any p ys ≡ true → (x : A) × (x ∈ ys) × (p x ≡ true))
          → (x : A) × (x ∈ (y ∷ ys)) × (p x ≡ true)
      go true e h ih = (y, Memᴰ.head refl, e)
      go false e h ih = let r = ih h in (r.0, Memᴰ.tail r.1, r.2)

  -- one of the list passes: some one does
  pub true_any : (p : A → Bool) {x : A} {xs : List A} → x ∈ xs → p x ≡ true → any p xs ≡ true
  unfolding any
  true_any p {xs = []} m t = elim m [ ]
  true_any p {xs = y ∷ ys} (Memᴰ.head q) t = rw (ap p (sym q) ∙ t)
  true_any p {xs = y ∷ ys} (Memᴰ.tail m) t = rw (true_any p m t) (or-true (p y))

  -- none passes: each one of the list fails
  pub any_false : (p : A → Bool) {x : A} {xs : List A} → any p xs ≡ false → x ∈ xs → p x ≡ false
  unfolding any
  any_false p {xs = []} h m = elim m [ ]
  any_false p {xs = y ∷ ys} h (Memᴰ.head q) = ap p q ∙ (either_false h).0
  any_false p {xs = y ∷ ys} h (Memᴰ.tail m) = any_false p (either_false {a = p y} h).1 m

  -- each one of the list fails: none passes
  pub none_any : (p : A → Bool) (xs : List A) → ((x : A) → x ∈ xs → p x ≡ false) → any p xs ≡ false
  unfolding any
  none_any p [] h = refl
  none_any p (y ∷ ys) h = rw (h y (Memᴰ.head refl)) (none_any p ys (λ x m. h x (Memᴰ.tail m)))

  -- of two lists end to end some one passes if some one of either does
  pub any_append : (p : A → Bool) (xs ys : List A) → any p (xs ++ ys) ≡ (any p xs || any p ys)
  unfolding any
  any_append p [] ys = refl
  any_append p (x ∷ xs) ys = rw (any_append p xs ys) (sym (or_assoc (p x) (any p xs) (any p ys)))

  -- every one passes: each one of the list does
  pub all_true : (p : A → Bool) {x : A} {xs : List A} → all p xs ≡ true → x ∈ xs → p x ≡ true
  unfolding all
  all_true p {xs = []} h m = elim m [ ]
  all_true p {xs = y ∷ ys} h (Memᴰ.head q) = ap p q ∙ (both_true h).0
  all_true p {xs = y ∷ ys} h (Memᴰ.tail m) = all_true p (both_true {a = p y} h).1 m

  -- each one of the list passes: every one does
  pub true_all : (p : A → Bool) (xs : List A) → ((x : A) → x ∈ xs → p x ≡ true) → all p xs ≡ true
  unfolding all
  true_all p [] h = refl
  true_all p (y ∷ ys) h = rw (h y (Memᴰ.head refl)) (true_all p ys (λ x m. h x (Memᴰ.tail m)))

  -- what holds of every one of two lists holds of every one of both end to end
  pub all_append : (p : A → Bool) (xs ys : List A) → all p xs ≡ true → all p ys ≡ true → all p (xs ++ ys) ≡ true
  all_append p xs ys h l = true_all p (xs ++ ys) (λ x m. ⊎_elim (λ i. all_true p h i) (λ i. all_true p l i) (Memᴰ.append_cases xs m))

  -- where every one passes, every one is kept
  pub all_keep : (p : A → Bool) (xs : List A) → all p xs ≡ true → keep p xs ≡ xs
  unfolding all keep
  all_keep p [] h = refl
  all_keep p (y ∷ ys) h = let b = both_true {a = p y} h in rw b.0 (ap (λ (l : List A). y ∷ l) (all_keep p ys b.1))

  -- where none passes, none is kept
  pub none_keep : (p : A → Bool) (xs : List A) → ((x : A) → x ∈ xs → p x ≡ false) → keep p xs ≡ []
  unfolding keep
  none_keep p [] h = refl
  none_keep p (y ∷ ys) h = rw (h y (Memᴰ.head refl)) (none_keep p ys (λ x m. h x (Memᴰ.tail m)))

  -- where none passes, none is counted
  pub none_count : (p : A → Bool) (xs : List A) → ((x : A) → x ∈ xs → p x ≡ false) → count p xs ≡ 0
  unfolding count
  none_count p [] h = refl
  none_count p (y ∷ ys) h = rw (h y (Memᴰ.head refl)) (omega (arith, none_count p ys (λ x m. h x (Memᴰ.tail m))))

  -- nothing is kept exactly when none passes
  pub empty_keep : (p : A → Bool) (xs : List A) → is_nil (keep p xs) ≡ not (any p xs)
  unfolding keep any is_nil
  empty_keep p [] = refl
  empty_keep p (y ∷ ys) = go (p y) (empty_keep p ys)
    where
      go : (b : Bool) → is_nil (keep p ys) ≡ not (any p ys) → is_nil (cond b (y ∷ keep p ys) (keep p ys)) ≡ not (b || any p ys)
      go true e = refl
      go false e = e

  -- x is the first of the list that passes: it is of the list, it passes, and all before it fail
  pub record FirstOf (p : A → Bool) (xs : List A) (x : A) : Type 0 where
    pub before : List A
    pub after : List A
    pub split : xs ≡ before ++ x ∷ after
    pub passes : p x ≡ true
    pub failed : (y : A) → y ∈ before → p y ≡ false

  -- the first that is kept is the first that passes
  pub first_keep : (p : A → Bool) (xs : List A) {x : A} → first (keep p xs) ≡ some x → FirstOf p xs x
  unfolding first keep
  first_keep p [] h = absurd (let z : ◌≡◌ {A = ℕ} 0 1 = cc in omega arith)
  first_keep p (y ∷ ys) {x = x} h = go (p y) refl h (λ e. first_keep p ys e)
    where
      go : (b : Bool) → p y ≡ b → first (cond b (y ∷ keep p ys) (keep p ys)) ≡ some x → (first (keep p ys) ≡ some x → FirstOf p ys x)
          → FirstOf p (y ∷ ys) x
      go true e h ih =
          let q : y ≡ x = cc in
          record { before = []; after = ys; split = ap (λ (z : A). z ∷ ys) q; passes = ap p (sym q) ∙ e; failed = λ z m. absurd (Memᴰ.not-nil m) }
      go false e h ih =
          let r = ih h in
          record {
            before = y ∷ r.before;
            after = r.after;
            split = ap (λ (l : List A). y ∷ l) r.split;
            passes = r.passes;
            failed = λ z m. ⊎_elim (λ q. ap p q ∙ e) (λ n. r.failed z n) (Memᴰ.cases_cons m);
          }

  -- and the other way: the first that passes is the first that is kept
  pub keep_first : {p : A → Bool} {xs : List A} {x : A} → FirstOf p xs x → first (keep p xs) ≡ some x
  unfolding first keep
  keep_first {p} {xs} {x} f = rw (f.split, keep_append p f.before (x ∷ f.after), none_keep p f.before f.failed, f.passes)

  -- of two lists end to end the first has the first, if it has one, and else the second
  pub first_append : (xs ys : List A) {x : A} → first xs ≡ some x → first (xs ++ ys) ≡ some x
  unfolding first
  first_append [] ys e = absurd (let z : ◌≡◌ {A = ℕ} 0 1 = cc in omega arith)
  first_append (y ∷ xs) ys e = e

  pub none_append : (xs ys : List A) → first xs ≡ none → first (xs ++ ys) ≡ first ys
  unfolding first
  none_append [] ys e = refl
  none_append (y ∷ xs) ys e = absurd (let z : ◌≡◌ {A = ℕ} 0 1 = cc in omega arith)

  -- the first that passes is one of the list
  pub first_member : {p : A → Bool} {xs : List A} {x : A} → FirstOf p xs x → x ∈ xs
  first_member {x = x} f = subst (λ (l : List A). x ∈ l) (sym f.split) (Memᴰ.append_right f.before (Memᴰ.head refl))

  -- there is no first that passes exactly when none passes
  pub first_none : (p : A → Bool) (xs : List A) → (first (keep p xs) ≡ none) ↔ (any p xs ≡ false)
  unfolding first keep any
  first_none p [] = (λ e. refl, λ e. refl)
  first_none p (y ∷ ys) = go (p y) (first_none p ys)
    where
      go : (b : Bool) → (first (keep p ys) ≡ none) ↔ (any p ys ≡ false)
          → (first (cond b (y ∷ keep p ys) (keep p ys)) ≡ none) ↔ ((b || any p ys) ≡ false)
      go true ih = (λ e. absurd (let z : ◌≡◌ {A = ℕ} 0 1 = cc in omega arith), λ e. absurd (true≢false e))
      go false ih = ih

  -- a list that is not empty has a first
  pub first_some : (xs : List A) (d : A) → is_nil xs ≡ false → first xs ≡ some (first_or xs d)
  unfolding first first_or is_nil
  first_some [] d h = absurd (true≢false h)
  first_some (y ∷ ys) d h = refl

-- an entry that is in the list is the same whatever stands for none
pub entry_same : (xs : List ℕ) (i a b : ℕ) → i < length xs → get_or xs i a ≡ get_or xs i b
entry_same [] i a b h = absurd (omega arith)
entry_same (x ∷ xs) zero a b h = refl
entry_same (x ∷ xs) (suc i) a b h = entry_same xs i a b (omega arith)

-- an entry that is not what stands for none is in the table
pub in_table_lem : (ledger : List ℕ) (p d v : ℕ) → get_or ledger p d ≡ v → v ≢ d → p < length ledger
in_table_lem [] p d v e n = absurd (n (sym e))
in_table_lem (x ∷ xs) zero d v e n = omega arith
in_table_lem (x ∷ xs) (suc p) d v e n = omega (arith, in_table_lem xs p d v e n)

-- ---- the last of a list

module _ {A : Type 0} where
  -- it stands in the last entry
  pub last_at : (x : A) (xs : List A) (d : A) → last_or (x ∷ xs) d ≡ get_or (x ∷ xs) (length xs) d
  unfolding last_or
  last_at x [] d = refl
  last_at x (y ∷ ys) d = last_at y ys d

  -- without its last a list is one shorter
  pub but_last_take : (x : A) (xs : List A) → but_last (x ∷ xs) ≡ take (length xs) (x ∷ xs)
  unfolding but_last
  but_last_take x [] = refl
  but_last_take x (y ∷ ys) = ap (λ (l : List A). x ∷ l) (but_last_take y ys)

-- ---- members of the lists that are made

module _ {A B : Type 0} where
  -- one of the lists f x, end to end, is of f x for some x
  pub each_member : (f : A → List B) (xs : List A) {y : B} → y ∈ each f xs → (x : A) × (x ∈ xs) × (y ∈ f x)
  unfolding each
  each_member f [] h = absurd (Memᴰ.not-nil h)
  each_member f (x ∷ xs) h =
      ⊎_elim
      (λ m. (x, Memᴰ.head refl, m))
      (λ m. let r = each_member f xs m in (r.0, Memᴰ.tail r.1, r.2))
      (Memᴰ.append_cases (f x) h)

  -- one of f x, for an x of the list, is of the lists end to end
  pub member_each : (f : A → List B) {x : A} {y : B} {xs : List A} → x ∈ xs → y ∈ f x → y ∈ each f xs
  unfolding each
  member_each f {xs = []} n m = elim n [ ]
  member_each f {y = y} {xs = z ∷ zs} (Memᴰ.head q) m = Memᴰ.append_left (each f zs) (subst (λ (x : A). y ∈ f x) q m)
  member_each f {xs = z ∷ zs} (Memᴰ.tail n) m = Memᴰ.append_right (f z) (member_each f n m)

  -- lists that are the same for each one of xs are the same end to end
  pub each_same : (f g : A → List B) (xs : List A) → ((x : A) → x ∈ xs → f x ≡ g x) → each f xs ≡ each g xs
  unfolding each
  each_same f g [] h = refl
  each_same f g (x ∷ xs) h = ap₂ (λ (a b : List B). a ++ b) (h x (Memᴰ.head refl)) (each_same f g xs (λ y m. h y (Memᴰ.tail m)))

  -- where each one's list is empty there is nothing
  pub each_none : (f : A → List B) (xs : List A) → ((x : A) → x ∈ xs → f x ≡ []) → each f xs ≡ []
  unfolding each
  each_none f [] h = refl
  each_none f (x ∷ xs) h = rw (h x (Memᴰ.head refl)) (each_none f xs (λ y m. h y (Memᴰ.tail m)))

  -- those of xs whose list is empty need not be kept
  pub each_keep : (f : A → List B) (p : A → Bool) (xs : List A) → ((x : A) → x ∈ xs → p x ≡ false → f x ≡ []) → each f (keep p xs) ≡ each f xs
  unfolding each keep
  each_keep f p [] h = refl
  each_keep f p (x ∷ xs) h = go (p x) refl (each_keep f p xs (λ y m. h y (Memᴰ.tail m)))
    where
      go : (b : Bool) → p x ≡ b → each f (keep p xs) ≡ each f xs → each f (cond b (x ∷ keep p xs) (keep p xs)) ≡ f x ++ each f xs
      go true e ih = ap (λ (l : List B). f x ++ l) ih
      go false e ih = rw (h x (Memᴰ.head refl) e) ih

  -- one of map f xs is f x for some x
  pub map_member : (f : A → B) (xs : List A) {y : B} → y ∈ map f xs → (x : A) × (x ∈ xs) × (y ≡ f x)
  map_member f xs h = let r = Memᴰ.of_map f xs h in (r.0, r.1, sym r.2)

  -- as many of map f xs pass as there are x of which f x passes
  pub count_map : (p : B → Bool) (f : A → B) (xs : List A) → count p (map f xs) ≡ count (λ x. p (f x)) xs
  unfolding count
  count_map p f [] = refl
  count_map p f (x ∷ xs) = ap (λ (k : ℕ). cond (p (f x)) 1 0 + k) (count_map p f xs)

-- there are k of a, a + 1, ..
pub length_from : (a k : ℕ) → length (from a k) ≡ k
unfolding from
length_from a zero = refl
length_from a (suc k) = ap suc (length_from (suc a) k)

-- entry i of a, a + 1, ..
pub entry_from_lem : (a k i d : ℕ) → i < k → get_or (from a k) i d ≡ a + i
unfolding from
entry_from_lem a zero i d h = absurd (omega arith)
entry_from_lem a (suc k) zero d h = omega arith
entry_from_lem a (suc k) (suc i) d h = omega (arith, entry_from_lem (suc a) k i d (omega arith))

-- entry i of the list f a, f (a + 1), ..
pub entry_map_from : (f : ℕ → ℕ) (a k i : ℕ) → i < k → get_or (map f (from a k)) i 0 ≡ f (a + i)
unfolding from
entry_map_from f a zero i h = absurd (omega arith)
entry_map_from f a (suc k) zero h = ap f (omega arith)
entry_map_from f a (suc k) (suc i) h = entry_map_from f (suc a) k i (omega arith) ∙ ap f (omega arith)

-- a number in from a k is from a on below a + k
pub from_member : (a k : ℕ) {n : ℕ} → n ∈ from a k → (a ≤ n) × (n < a + k)
unfolding from
from_member a zero h = absurd (Memᴰ.not-nil h)
from_member a (suc k) h =
    ⊎_elim (λ e. (omega arith, omega arith)) (λ m. let r = from_member (suc a) k m in (omega arith, omega arith)) (Memᴰ.cases_cons h)

-- each number from a on below a + k is in from a k
pub member_from : (a k n : ℕ) → a ≤ n → n < a + k → n ∈ from a k
unfolding from
member_from a zero n h l = absurd (omega arith)
member_from a (suc k) n h l =
    ⊎_elim (λ e. Memᴰ.head (sym e)) (λ m. Memᴰ.tail (member_from (suc a) k n m (omega arith))) (eq-or-lt_of_le h)

-- the lists of numbers that are each a more
pub each_shift : {A : Type 0} (f : ℕ → List A) (a b k : ℕ) → each (λ i. f (a + i)) (from b k) ≡ each f (from (a + b) k)
unfolding each from
each_shift f a b zero = refl
each_shift {A} f a b (suc k) = ap (λ (l : List A). f (a + b) ++ l) (each_shift f a (suc b) k ∙ ap (λ (c : ℕ). each f (from c k)) (add-suc a b))

-- the lists of the numbers of two parts
pub each_from_add : {A : Type 0} (f : ℕ → List A) (a j k : ℕ) → each f (from a (j + k)) ≡ each f (from a j) ++ each f (from (a + j) k)
unfolding each from
each_from_add f a zero k = rw (zero-add k, add-zero a)
each_from_add {A} f a (suc j) k =
    rw (suc-add j k) (ap (λ (l : List A). f a ++ l) (each_from_add f (suc a) j k ∙ ap (λ (c : ℕ). each f (from (suc a) j) ++ each f (from c k)) (omega arith)))
    ∙ sym (append_assoc (f a) (each f (from (suc a) j)) (each f (from (a + suc j) k)))

-- the lists of one number more, at the end
pub each_from_suc : {A : Type 0} (f : ℕ → List A) (a k : ℕ) → each f (from a (suc k)) ≡ each f (from a k) ++ f (a + k)
unfolding each from
each_from_suc f a zero = append-nil (f a) ∙ ap f (sym (add-zero a))
each_from_suc {A} f a (suc k) =
    ap (λ (l : List A). f a ++ l) (each_from_suc f (suc a) k ∙ ap (λ (j : ℕ). each f (from (suc a) k) ++ f j) (omega arith))
    ∙ sym (append_assoc (f a) (each f (from (suc a) k)) (f (a + suc k)))

-- the values at one number more
pub map_from_suc : {A : Type 0} (f : ℕ → A) (a k : ℕ) → map f (from a (suc k)) ≡ map f (from a k) ++ (f (a + k) ∷ [])
unfolding from
map_from_suc f a zero = ap (λ (x : ℕ). f x ∷ []) (sym (add-zero a))
map_from_suc {A} f a (suc k) =
    ap (λ (l : List A). f a ∷ l) (map_from_suc f (suc a) k ∙ ap (λ (j : ℕ). map f (from (suc a) k) ++ (f j ∷ [])) (omega arith))

-- values that are the same at each number
pub map_from_same : {A : Type 0} (f g : ℕ → A) (a k : ℕ) → ((i : ℕ) → i < a + k → f i ≡ g i) → map f (from a k) ≡ map g (from a k)
unfolding from
map_from_same f g a zero h = refl
map_from_same {A} f g a (suc k) h = ap₂ (λ (x : A) (xs : List A). x ∷ xs) (h a (omega arith)) (map_from_same f g (suc a) k (λ i l. h i (omega arith)))

-- a position in around n c k is that of one of the k numbers from c on
around_member : (n c k : ℕ) {x : ℕ} → x ∈ around n c k → (i : ℕ) × (i < k) × (x ≡ (c + i) % n)
unfolding around
around_member n c zero h = absurd (Memᴰ.not-nil h)
around_member n c (suc k) h =
    ⊎_elim
    (λ e. (0, omega arith, e ∙ ap (λ (y : ℕ). y % n) (sym (add-zero c))))
    (λ m. let r = around_member n (suc c) k m in (suc r.0, omega (arith, r.1), r.2 ∙ ap (λ (y : ℕ). y % n) (omega arith)))
    (Memᴰ.cases_cons h)

-- once round n positions, each is below n
pub around_below : (n c : ℕ) {x : ℕ} → x ∈ around n c n → x < n
around_below n c h = let i = around_member n c n h in rw i.2 (mod-lt (c + i.0) (omega (arith, i.1)))

-- ---- a test of each entry with its number

-- a test that holds of each entry holds of the entry of each place
pub all_at_true : (p : ℕ → ℕ → Bool) (k : ℕ) (xs : List ℕ) → all_at p k xs ≡ true → (i : ℕ) → i < length xs → p (k + i) (get_or xs i 0) ≡ true
unfolding all_at
all_at_true p k [] h i l = absurd (not-suc-le-zero l)
all_at_true p k (x ∷ xs) h zero l = rw add-zero (both_true h).0
all_at_true p k (x ∷ xs) h (suc i) l =
    ap (λ (n : ℕ). p n (get_or xs i 0)) (omega arith) ∙ all_at_true p (suc k) xs (both_true {a = p k x} h).1 i (le_of_suc-le-suc l)

-- a test that holds of the entry of each place holds of each entry
pub true_all_at : (p : ℕ → ℕ → Bool) (k : ℕ) (xs : List ℕ) → ((i : ℕ) → i < length xs → p (k + i) (get_or xs i 0) ≡ true) → all_at p k xs ≡ true
unfolding all_at
true_all_at p k [] h = refl
true_all_at p k (x ∷ xs) h =
    both_hold
    (ap (λ (n : ℕ). p n x) (sym (add-zero k)) ∙ h 0 (zero-lt-suc _))
    (true_all_at p (suc k) xs (λ i l. ap (λ (n : ℕ). p n (get_or xs i 0)) (omega arith) ∙ h (suc i) (suc-le-suc l)))

-- ---- sums

-- the sum of two lists end to end
pub sum_append : (xs ys : List ℕ) → sum (xs ++ ys) ≡ sum xs + sum ys
unfolding sum
sum_append [] ys = omega arith
sum_append (x ∷ xs) ys = omega (arith, sum_append xs ys)

-- a sum is that of the first n and that of the rest
pub sum_take_drop : (n : ℕ) (xs : List ℕ) → sum xs ≡ sum (take n xs) + sum (drop n xs)
sum_take_drop n xs = ap sum (sym (take-append-drop n xs)) ∙ sum_append (take n xs) (drop n xs)

-- the first n make no more than all
pub sum_take_le : (n : ℕ) (xs : List ℕ) → sum (take n xs) ≤ sum xs
sum_take_le n xs = omega (arith, sum_take_drop n xs)

-- the sum of one more, also where there is none
pub sum_take_suc : (n : ℕ) (xs : List ℕ) → sum (take (suc n) xs) ≡ sum (take n xs) + get_or xs n 0
unfolding sum
sum_take_suc zero [] = refl
sum_take_suc zero (x ∷ xs) = omega arith
sum_take_suc (suc n) [] = refl
sum_take_suc (suc n) (x ∷ xs) = omega (arith, sum_take_suc n xs)

-- ---- a test over the numbers below n, one by one

module _ (p : ℕ → Bool) where
  -- one number more is tested
  pub all_from_step : (n i : ℕ) (ok : Bool) → i < n
      → (ok && all p (from i (n - i))) ≡ ((ok && p i) && all p (from (i + 1) (n - (i + 1))))
  unfolding all from
  all_from_step n i ok h =
      let e : n - i ≡ suc (n - suc i) = omega arith in
      rw (add-one i, e, and_assoc)

  -- and all of them are
  pub all_from_end : (n i : ℕ) (ok : Bool) → n ≤ i → (ok && all p (from i (n - i))) ≡ ok
  unfolding all from
  all_from_end n i ok h =
      let e : n - i ≡ 0 = omega arith in
      rw e (and-true ok)

-- ---- two lists of numbers that are the same

-- a list is the same as itself
pub same_self : (xs : List ℕ) → same xs xs ≡ true
unfolding same
same_self [] = refl
same_self (x ∷ xs) = both_hold (eq-eqb x x refl) (same_self xs)

-- two that are found the same are equal
pub same_lists : (xs ys : List ℕ) → same xs ys ≡ true → xs ≡ ys
unfolding same
same_lists [] [] e = refl
same_lists [] (y ∷ ys) e = absurd (false≢true e)
same_lists (x ∷ xs) [] e = absurd (false≢true e)
same_lists (x ∷ xs) (y ∷ ys) e =
    let b = both_true {a = eqb x y} e in
    ap₂ (λ (z : ℕ) (zs : List ℕ). z ∷ zs) (eqb-true x y b.0) (same_lists xs ys b.1)
