-- Laws of node-list text: numbers, and a text by its parts.
-- Assumes nothing.
use mathlib.Core.Path.{◌≡◌, refl, sym, ap, ap₂, ◌∙◌}
use mathlib.Core.Bool.{Bool, true, false, not, ◌&&◌, ◌||◌, cond, false≢true, and-false, and-true, or-false, or-true}
use mathlib.Core.List.Memᴰ
use mathlib.Core.List.{List, [], ◌∷◌, ◌++◌, append-nil}
use Prim.Native.Nat.{ℕ, ◌+◌, ◌-◌, ◌*◌, ◌≤◌, ◌<◌}
use native.Mathlib.Nat.{le_antisymm, le_refl, zero-lt-suc, lt_irrefl}
use native.Mathlib.Omega.{arith}
use lib.ListN.{length, get_or, length-append, get_or-append}
use lib.Dec.{eqb, leb, lit<}
use borrow.Author.Tests.{eqb-true, eq-eqb, ne_eqb, ltb-true, lt-ltb, not-true}
use Rattle.rules.specs.Basics.{all, any, is_nil, between}
use Rattle.rules.specs.Text.{comma, dash, split, onto, value_from, value, is_number, is_item, item_has, items_of, is_items, names}
use Rattle.rules.proofs.Lists.{both_true, both_hold, same_test, fails, between_true, true_between, any_true, all_true, true_all, all_append}

-- ---- a text by its parts

-- no byte of the text is c
abbrev pub free : ℕ → List ℕ → Bool
free c xs = all (λ x. not (eqb x c)) xs

-- a text has a first part
pub split_parts : (c : ℕ) (xs : List ℕ) → (h : List ℕ) × (t : List (List ℕ)) × (split c xs ≡ h ∷ t)
unfolding split onto
split_parts c [] = ([], [], refl)
split_parts c (x ∷ xs) = go (eqb x c) (split c xs) (split_parts c xs)
  where
    go : (b : Bool) (ps : List (List ℕ)) → (h : List ℕ) × (t : List (List ℕ)) × (ps ≡ h ∷ t)
        → (h : List ℕ) × (t : List (List ℕ)) × (cond b ([] ∷ ps) (onto x ps) ≡ h ∷ t)
    go true ps r = ([], ps, refl)
    go false ps r = (x ∷ r.0, r.1, ap (onto x) r.2)

-- bytes other than c in front belong to the first part
pub split_free : (c : ℕ) (p q h : List ℕ) (t : List (List ℕ)) → free c p ≡ true → split c q ≡ h ∷ t → split c (p ++ q) ≡ (p ++ h) ∷ t
unfolding split onto all
split_free c [] q h t f e = e
split_free c (x ∷ p) q h t f e =
    let b = both_true {a = not (eqb x c)} f in
    rw (not-true (eqb x c) b.0, split_free c p q h t b.1 e)

-- a text without c is one part
pub split_one : (c : ℕ) (p : List ℕ) → free c p ≡ true → split c p ≡ p ∷ []
unfolding split
split_one c p f = rw append-nil at (split_free c p [] [] [] f refl)

-- c ends the first part
pub split_at : (c : ℕ) (p q : List ℕ) → free c p ≡ true → split c (p ++ c ∷ q) ≡ p ∷ split c q
unfolding split
split_at c p q f = rw (append-nil p) at (split_free c p (c ∷ q) [] (split c q) f (rw (eq-eqb c c refl)))

-- ---- numbers

-- one number is the range from it to itself
pub between_one : (v k : ℕ) → eqb k v ≡ between v v k
between_one v k =
    same_test
    (λ t. true_between v v k (omega (arith, eqb-true k v t)) (omega (arith, eqb-true k v t)))
    (λ t. let b = between_true v v k t in eq-eqb k v (le_antisymm b.1 b.0))

abbrev digits_only : List ℕ → Bool
digits_only ds = all (between 48 57) ds

abbrev no_leading_zero : List ℕ → Bool
no_leading_zero ds = eqb (length ds) 1 || not (eqb (get_or ds 0 0) 48)

-- "Numbers have no leading zero (0 itself is fine) and lie below N": digits, at least one, below the limit
pub record Number (limit : ℕ) (ds : List ℕ) : Type 0 where
  pub digits : digits_only ds ≡ true
  pub some : 0 < length ds
  pub plain : no_leading_zero ds ≡ true
  pub small : value ds < limit

-- a text that passes the test is a number
pub number_is : (limit : ℕ) (ds : List ℕ) → is_number limit ds ≡ true → Number limit ds
unfolding is_number is_nil
number_is limit [] h = absurd (false≢true h)
number_is limit (d ∷ ds) h =
    let a = both_true {a = digits_only (d ∷ ds) && no_leading_zero (d ∷ ds)} h in
    let b = both_true {a = digits_only (d ∷ ds)} a.0 in
    record { digits = b.0; some = zero-lt-suc (length ds); plain = b.1; small = ltb-true (value (d ∷ ds)) limit a.1 }

-- a number passes the test
pub is_number_lem : (limit : ℕ) (ds : List ℕ) → Number limit ds → is_number limit ds ≡ true
unfolding is_number is_nil
is_number_lem limit [] n = absurd (omega (arith, n.some))
is_number_lem limit (d ∷ ds) n = both_hold (both_hold n.digits n.plain) (lt-ltb (value (d ∷ ds)) limit n.small)

-- the value of a text read on
pub value_append : (v : ℕ) (xs ys : List ℕ) → value_from v (xs ++ ys) ≡ value_from (value_from v xs) ys
unfolding value_from
value_append v [] ys = refl
value_append v (x ∷ xs) ys = value_append (v * 10 + (x - 48)) xs ys

-- a value does not shrink as it is read on
pub value_grows : (v : ℕ) (xs : List ℕ) → v ≤ value_from v xs
unfolding value_from
value_grows v [] = le_refl v
value_grows v (x ∷ xs) = omega (arith, value_grows (v * 10 + (x - 48)) xs)

-- digits are neither commas nor dashes
pub digits_free : (c : ℕ) (ds : List ℕ) → c < 48 → digits_only ds ≡ true → free c ds ≡ true
digits_free c ds l d =
    true_all (λ x. not (eqb x c)) ds
    (λ x m. ap not (ne_eqb x c (λ e. lt_irrefl c (omega (arith, (between_true 48 57 x (all_true (between 48 57) d m)).0)))))

-- ---- a number and one digit more

-- one digit
pub number_one : (limit x : ℕ) → between 48 57 x ≡ true → x - 48 < limit → Number limit (x ∷ [])
unfolding all value_from
number_one limit x d l = record { digits = both_hold d refl; some = zero-lt-suc 0; plain = refl; small = omega arith }

-- the value with one digit more
pub value_snoc : (ds : List ℕ) (x : ℕ) → value (ds ++ x ∷ []) ≡ value ds * 10 + (x - 48)
unfolding value_from
value_snoc ds x = value_append 0 ds (x ∷ [])

-- two digits or more that start with 0 are no number
leading : (ds : List ℕ) → 1 < length ds → get_or ds 0 0 ≡ 48 → no_leading_zero ds ≡ true → ⊥
leading ds l e h =
    false≢true (sym (ap₂ (λ (a b : Bool). a || not b) (ne_eqb (length ds) 1 (λ q. lt_irrefl 1 (omega arith))) (eq-eqb (get_or ds 0 0) 48 e)) ∙ h)

-- a number that is not 0 does not start with 0
first_not_zero : (limit : ℕ) (ds : List ℕ) → Number limit ds → (value ds ≡ 0 → ⊥) → get_or ds 0 0 ≡ 48 → ⊥
unfolding value_from
first_not_zero limit [] n v e = v refl
first_not_zero limit (d ∷ []) n v e = v (omega arith)
first_not_zero limit (d ∷ x ∷ ds) n v e = leading (d ∷ x ∷ ds) (omega arith) e n.plain

-- a number, not 0, and a digit more are a number if they stay below the limit
pub number_more : (limit : ℕ) (ds : List ℕ) (x : ℕ) → Number limit ds → (value ds ≡ 0 → ⊥) → between 48 57 x ≡ true
    → value ds * 10 + (x - 48) < limit → Number limit (ds ++ x ∷ [])
unfolding all
number_more limit ds x n v d l = record {
  digits = all_append (between 48 57) ds (x ∷ []) n.digits (both_hold d refl);
  some = simp length-append (omega arith);
  plain = rw (get_or-append ds (x ∷ []) 0 0 n.some, ne_eqb (get_or ds 0 0) 48 (first_not_zero limit ds n v)) (or-true (eqb (length (ds ++ x ∷ [])) 1));
  small = rw (value_snoc ds x) l;
}

-- ---- texts that no number starts with

-- no number starts with p
abbrev pub NoNumber : ℕ → List ℕ → Type 0
NoNumber limit p = (q : List ℕ) → is_number limit (p ++ q) ≡ false

no_number : (limit : ℕ) (p : List ℕ) → ((q : List ℕ) → Number limit (p ++ q) → ⊥) → NoNumber limit p
no_number limit p f q = fails (λ e. f q (number_is limit (p ++ q) e))

-- a byte that is no digit
pub not_digit : (limit : ℕ) (ds : List ℕ) (x : ℕ) → between 48 57 x ≡ false → NoNumber limit (ds ++ x ∷ [])
not_digit limit ds x e =
    no_number limit (ds ++ x ∷ [])
    (λ q n. false≢true (sym e ∙ all_true (between 48 57) n.digits (Memᴰ.append_left q (Memᴰ.append_right ds (Memᴰ.head refl)))))

-- a value at the limit or above
pub too_large : (limit : ℕ) (ds : List ℕ) → limit ≤ value ds → NoNumber limit ds
too_large limit ds l =
    no_number limit ds (λ q n. lt_irrefl limit (omega (arith, n.small, value_append 0 ds q, value_grows (value ds) q)))

-- a number 0 starts with 0
first_zero_lem : (ds : List ℕ) → digits_only ds ≡ true → 0 < length ds → value ds ≡ 0 → get_or ds 0 0 ≡ 48
unfolding all value_from
first_zero_lem [] d l v = absurd (omega arith)
first_zero_lem (x ∷ xs) d l v =
    omega (arith, between_true 48 57 x (both_true {a = between 48 57 x} d).0, value_grows (0 * 10 + (x - 48)) xs)

-- 0 and a digit more
pub leading_zero : (limit : ℕ) (ds : List ℕ) (x : ℕ) → Number limit ds → value ds ≡ 0 → NoNumber limit (ds ++ x ∷ [])
leading_zero limit ds x n v = no_number limit (ds ++ x ∷ []) (λ q m. leading (ds ++ x ∷ [] ++ q) (long q) (first q) m.plain)
  where
    long : (q : List ℕ) → 1 < length (ds ++ x ∷ [] ++ q)
    long q = simp length-append (omega (arith, n.some))

    first : (q : List ℕ) → get_or (ds ++ x ∷ [] ++ q) 0 0 ≡ 48
    first q =
        get_or-append (ds ++ x ∷ []) q 0 0 (simp length-append (omega arith))
        ∙ get_or-append ds (x ∷ []) 0 0 n.some
        ∙ first_zero_lem ds n.digits n.some v

-- ---- items

-- a number has no dash
pub number_free : {limit : ℕ} {a : List ℕ} → Number limit a → free dash a ≡ true
number_free {a = a} n = digits_free dash a (lit< tt) n.digits

-- so it is one part between dashes
pub split_number : {limit : ℕ} {a : List ℕ} → Number limit a → split dash a ≡ a ∷ []
split_number {a = a} n = split_one dash a (number_free n)

-- and two numbers with a dash between them are two
pub split_range : {limit : ℕ} {a b : List ℕ} → Number limit a → Number limit b → split dash (a ++ dash ∷ b) ≡ a ∷ b ∷ []
split_range {a = a} {b = b} n m = split_at dash a b (number_free n) ∙ ap (λ (t : List (List ℕ)). a ∷ t) (split_number m)

-- they are an item if the first is at most the second
pub item_range : {limit : ℕ} {a b : List ℕ} → Number limit a → Number limit b
    → is_item limit (split dash (a ++ dash ∷ b)) ≡ leb (value a) (value b)
unfolding is_item
item_range {limit} {a} {b} n m = rw (split_range n m, is_number_lem limit a n, is_number_lem limit b m)

-- an item whose first part is no number
pub item_first : (limit : ℕ) (a : List ℕ) (ps : List (List ℕ)) → is_number limit a ≡ false → is_item limit (a ∷ ps) ≡ false
unfolding is_item
item_first limit a [] e = e
item_first limit a (b ∷ []) e = rw e
item_first limit a (b ∷ c ∷ ps) e = refl

-- or whose second is none
pub item_second : (limit : ℕ) (a b : List ℕ) (ps : List (List ℕ)) → is_number limit b ≡ false → is_item limit (a ∷ b ∷ ps) ≡ false
unfolding is_item
item_second limit a b [] e = rw (e, and-false (is_number limit a))
item_second limit a b (c ∷ ps) e = refl

-- a text without a comma is one item
pub items_one : (limit : ℕ) (p : List ℕ) → free comma p ≡ true → is_items limit p ≡ is_item limit (split dash p)
unfolding is_items items_of all
items_one limit p f = rw (split_one comma p f) (and-true (is_item limit (split dash p)))

-- and names what that item names
pub names_one : (p : List ℕ) (k : ℕ) → free comma p ≡ true → names p k ≡ item_has k (split dash p)
unfolding names items_of any
names_one p k f = rw (split_one comma p f) (or-false (item_has k (split dash p)))

-- a comma ends the first item
pub items_more : (limit : ℕ) (p q : List ℕ) → free comma p ≡ true → is_items limit (p ++ comma ∷ q) ≡ (is_item limit (split dash p) && is_items limit q)
unfolding is_items items_of all
items_more limit p q f = rw (split_at comma p q f)

-- and the text names what the first item and the rest name
pub names_more : (p q : List ℕ) (k : ℕ) → free comma p ≡ true → names (p ++ comma ∷ q) k ≡ (item_has k (split dash p) || names q k)
unfolding names items_of any
names_more p q k f = rw (split_at comma p q f)

-- an item names numbers below the limit only
item_below : (limit : ℕ) (ps : List (List ℕ)) (k : ℕ) → is_item limit ps ≡ true → item_has k ps ≡ true → k < limit
unfolding is_item item_has
item_below limit [] k e h = absurd (false≢true e)
item_below limit (a ∷ []) k e h = omega (arith, eqb-true k (value a) h, (number_is limit a e).small)
item_below limit (a ∷ b ∷ []) k e h =
    let n = both_true {a = is_number limit a} (both_true {a = is_number limit a && is_number limit b} e).0 in
    omega (arith, (between_true (value a) (value b) k h).1, (number_is limit b n.1).small)
item_below limit (a ∷ b ∷ c ∷ ps) k e h = absurd (false≢true e)

-- "Numbers .. lie below N": so do all that items name
pub names_below : (limit : ℕ) (text : List ℕ) (k : ℕ) → is_items limit text ≡ true → names text k ≡ true → k < limit
unfolding is_items names items_of
names_below limit text k e h =
    let r = any_true (item_has k) (items_of text) h in item_below limit r.0 k (all_true (is_item limit) e r.1) r.2
