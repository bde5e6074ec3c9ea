-- The reader that goes a byte at a time reads what document 01 says of the whole text.
-- Assumes nothing.
use mathlib.Core.Path.{◌≡◌, refl, sym, ap, subst, ◌∙◌}
use mathlib.Core.Bool.{Bool, true, false, ◌||◌, cond, and-false, or_assoc}
use mathlib.Core.List.{List, [], ◌∷◌, ◌++◌, append-nil, append_assoc}
use mathlib.Core.Option.{Option, none, some}
use Prim.Native.Nat.{ℕ, ◌+◌, ◌-◌, ◌*◌, ◌^◌, ◌≤◌, ◌<◌}
use native.Mathlib.Numerals.{add-one}
use native.Mathlib.Omega.{arith}
use native.Mathlib.Nat.{le_refl, lt_irrefl, lt_of_lt_of_le, lt_of_le_of_lt, sub-le}
use native.Mathlib.Decide.{dec_lt}
use lib.Dec.{eqb, leb, ltb}
use lib.Seq.{append_snoc, drop-cons, drop-length}
use lib.ListN.{length, get_or, drop}
use lib.Pow.{ones_lt, pow_mono, pow_pos}
use lib.Bits.{or_lt}
use borrow.Author.Tests.{eqb-true, eqb-false, ne_eqb, ltb-true, ltb-false, leb-true, lt-leb}
use Rattle.rules.specs.Basics.{all, is_nil, between}
use Rattle.rules.specs.Masks.{most_nodes, has, all_nodes, mask_of}
use Rattle.rules.specs.Text.{comma, dash, split, value_from, value, is_number, is_item, item_has, is_items, names}
use Rattle.rules.proofs.Lists.{all_append, true_between}
use Rattle.rules.proofs.Masks.{none_in, bit_above, bit_others, bit_below, bit_below_out, has_or, mask_of_is, mask_of_same}
use Rattle.nodelist.proofs.Items.{free, between_one, Number, is_number_lem, NoNumber, number_one, number_more, not_digit, too_large, leading_zero}
use Rattle.nodelist.proofs.Items.{value_snoc, split_parts, split_free, split_at, number_free, split_number, split_range, item_range}
use Rattle.nodelist.proofs.Items.{item_first, item_second, items_one, names_one, items_more, names_more}
use Rattle.nodelist.specs.declared.reader.Item.{Item}
use Rattle.nodelist.specs.declared.reader.Item.TheVariants.{Empty, Number as NumberItem, Dashed, Range, Broken}
use Rattle.nodelist.specs.declared.reader.Progress.{Progress}
use Rattle.nodelist.specs.declared.reader.Numbers.{Numbers}
use Rattle.nodelist.specs.Reader.{items_read, span, progress, with_span, read_on, answer, ended, Fits, grown, number_below, range_below, with_digit}
use Rattle.nodelist.specs.Reader.{with_dash}
use Rattle.nodelist.specs.Reader.{with_byte, closed, stepped}

-- ---- no dash

other_free : (x : ℕ) → (x ≡ dash → ⊥) → free dash (x ∷ []) ≡ true
unfolding all
other_free x e = rw (ne_eqb x dash e)

more_free : {limit : ℕ} {a : List ℕ} (x : ℕ) → Number limit a → (x ≡ dash → ⊥) → free dash (a ++ x ∷ []) ≡ true
more_free {a = a} x n e = all_append _ a (x ∷ []) (number_free n) (other_free x e)

-- ---- a text that no item starts with

abbrev NoItem : ℕ → List ℕ → Type 0
NoItem limit p = (q : List ℕ) → is_item limit (split dash (p ++ q)) ≡ false

-- its first part starts no number
broken_first : (limit : ℕ) (a : List ℕ) → free dash a ≡ true → NoNumber limit a → NoItem limit a
broken_first limit a f n q =
    let s = split_parts dash q in
    ap (is_item limit) (split_free dash a q s.0 s.1 f s.2) ∙ item_first limit (a ++ s.0) s.1 (n s.0)

-- its second part starts no number
broken_second : (limit : ℕ) (a b : List ℕ) → free dash a ≡ true → free dash b ≡ true → NoNumber limit b → NoItem limit (a ++ dash ∷ b)
broken_second limit a b f g n q =
    let s = split_parts dash q in
    rw (append_assoc a (dash ∷ b) q, split_at dash a (b ++ q) f, split_free dash b q s.0 s.1 g s.2)
    (item_second limit a (b ++ s.0) s.1 (n s.0))

-- it has a third part
broken_third : (limit : ℕ) (a b : List ℕ) → free dash a ≡ true → free dash b ≡ true → NoItem limit (a ++ dash ∷ b ++ dash ∷ [])
unfolding is_item
broken_third limit a b f g q =
    rw (append_assoc (a ++ dash ∷ b) (dash ∷ []) q, append_assoc a (dash ∷ b) (dash ∷ q), split_at dash a (b ++ dash ∷ q) f, split_at dash b q g)
    (ap (λ (t : List (List ℕ)). is_item limit (a ∷ b ∷ t)) (split_parts dash q).2)

-- ---- what is known of the item that is being read

-- the bytes p of an item, read so far, leave this
data Reads (limit : ℕ) : Item → List ℕ → Type 0 where
  nothing : Reads limit Empty []
  number : {a : List ℕ} → Number limit a → Reads limit (NumberItem (value a)) a
  dashed : {a : List ℕ} → Number limit a → Reads limit (Dashed (value a)) (a ++ dash ∷ [])
  range : {a b : List ℕ} → Number limit a → Number limit b → Reads limit (Range (value a) (value b)) (a ++ dash ∷ b)
  broken : {p : List ℕ} → NoItem limit p → Reads limit Broken p

-- the digits a have the value v if that is below the limit, else no number starts with them
record Digits (limit : ℕ) (a : List ℕ) (v : ℕ) : Type 0 where
  good : v < limit → Number limit a × (value a ≡ v)
  bad : limit ≤ v → NoNumber limit a

first_digit : (limit x : ℕ) → between 48 57 x ≡ true → Digits limit (x ∷ []) (x - 48)
unfolding value_from
first_digit limit x d = record { good = λ l. (number_one limit x d l, omega arith); bad = λ l. too_large limit (x ∷ []) (omega arith) }

more_digits : (limit : ℕ) (a : List ℕ) (x : ℕ) → Number limit a → between 48 57 x ≡ true → Digits limit (a ++ x ∷ []) (grown limit (value a) (x - 48))
unfolding grown
more_digits limit a x n d = go (eqb (value a) 0) refl
  where
    go : (b : Bool) → eqb (value a) 0 ≡ b → Digits limit (a ++ x ∷ []) (cond b limit (value a * 10 + (x - 48)))
    go true e = record { good = λ l. absurd (lt_irrefl limit l); bad = λ l. leading_zero limit a x n (eqb-true (value a) 0 e) }
    go false e = record {
      good = λ l. (number_more limit a x n (eqb-false (value a) 0 e) d l, value_snoc a x);
      bad = λ l. too_large limit (a ++ x ∷ []) (rw (value_snoc a x) l);
    }

as_number : (limit v : ℕ) (a : List ℕ) → free dash a ≡ true → Digits limit a v → Reads limit (number_below limit v) a
unfolding number_below
as_number limit v a f d = go (ltb v limit) refl
  where
    go : (b : Bool) → ltb v limit ≡ b → Reads limit (cond b (NumberItem v) Broken) a
    go true e = let g = d.good (ltb-true v limit e) in subst (λ (x : ℕ). Reads limit (NumberItem x) a) g.1 (number g.0)
    go false e = broken (broken_first limit a f (d.bad (ltb-false v limit e)))

as_range : (limit v : ℕ) (a b : List ℕ) → Number limit a → free dash b ≡ true → Digits limit b v
    → Reads limit (range_below limit (value a) v) (a ++ dash ∷ b)
unfolding range_below
as_range limit v a b n f d = go (ltb v limit) refl
  where
    go : (t : Bool) → ltb v limit ≡ t → Reads limit (cond t (Range (value a) v) Broken) (a ++ dash ∷ b)
    go true e = let g = d.good (ltb-true v limit e) in subst (λ (x : ℕ). Reads limit (Range (value a) x) (a ++ dash ∷ b)) g.1 (range n g.0)
    go false e = broken (broken_second limit a b (number_free n) f (d.bad (ltb-false v limit e)))

-- ---- one byte more

-- what is broken stays broken
still_broken : (limit : ℕ) (p : List ℕ) (x : ℕ) → NoItem limit p → NoItem limit (p ++ x ∷ [])
still_broken limit p x n q = ap (λ (t : List ℕ). is_item limit (split dash t)) (append_snoc p x q) ∙ n (x ∷ q)

reads_dash : {limit : ℕ} {item : Item} {p : List ℕ} → Reads limit item p → Reads limit (with_dash item) (p ++ dash ∷ [])
unfolding with_dash is_number is_nil all
reads_dash {limit} nothing = broken (λ q. ap (is_item limit) (split_at dash [] q refl) ∙ item_first limit [] (split dash q) refl)
reads_dash (number n) = dashed n
reads_dash {limit} (dashed {a = a} n) = broken (broken_third limit a [] (number_free n) refl)
reads_dash {limit} (range {a = a} {b = b} n m) = broken (broken_third limit a b (number_free n) (number_free m))
reads_dash {limit} (broken {p = p} n) = broken (still_broken limit p dash n)

reads_digit : {limit : ℕ} {item : Item} {p : List ℕ} (x : ℕ) → between 48 57 x ≡ true → (x ≡ dash → ⊥) → Reads limit item p
    → Reads limit (with_digit limit item (x - 48)) (p ++ x ∷ [])
unfolding with_digit
reads_digit {limit} x d e nothing = as_number limit (x - 48) (x ∷ []) (other_free x e) (first_digit limit x d)
reads_digit {limit} x d e (number {a = a} n) =
    as_number limit (grown limit (value a) (x - 48)) (a ++ x ∷ []) (more_free x n e) (more_digits limit a x n d)
reads_digit {limit} x d e (dashed {a = a} n) =
    rw append_assoc (as_range limit (x - 48) a (x ∷ []) n (other_free x e) (first_digit limit x d))
reads_digit {limit} x d e (range {a = a} {b = b} n m) =
    rw append_assoc (as_range limit (grown limit (value b) (x - 48)) a (b ++ x ∷ []) n (more_free x m e) (more_digits limit b x m d))
reads_digit {limit} x d e (broken {p = p} n) = broken (still_broken limit p x n)

-- any other byte breaks the item
reads_other : {limit : ℕ} {item : Item} {p : List ℕ} (x : ℕ) → between 48 57 x ≡ false → (x ≡ dash → ⊥) → Reads limit item p
    → Reads limit Broken (p ++ x ∷ [])
reads_other {limit} x d e nothing = broken (broken_first limit (x ∷ []) (other_free x e) (not_digit limit [] x d))
reads_other {limit} x d e (number {a = a} n) = broken (broken_first limit (a ++ x ∷ []) (more_free x n e) (not_digit limit a x d))
reads_other {limit} x d e (dashed {a = a} n) =
    rw append_assoc (broken (broken_second limit a (x ∷ []) (number_free n) (other_free x e) (not_digit limit [] x d)))
reads_other {limit} x d e (range {a = a} {b = b} n m) =
    rw append_assoc (broken (broken_second limit a (b ++ x ∷ []) (number_free n) (more_free x m e) (not_digit limit b x d)))
reads_other {limit} x d e (broken {p = p} n) = broken (still_broken limit p x n)

reads_byte : {limit : ℕ} {item : Item} {p : List ℕ} (x : ℕ) → Reads limit item p → Reads limit (with_byte limit item x) (p ++ x ∷ [])
unfolding with_byte
reads_byte {limit} {item} {p} x r = go (eqb x dash) refl (between 48 57 x) refl
  where
    go : (b : Bool) → eqb x dash ≡ b → (d : Bool) → between 48 57 x ≡ d
        → Reads limit (cond b (with_dash item) (cond d (with_digit limit item (x - 48)) Broken)) (p ++ x ∷ [])
    go true e d f = subst (λ (y : ℕ). Reads limit (with_dash item) (p ++ y ∷ [])) (sym (eqb-true x dash e)) (reads_dash r)
    go false e true f = reads_digit x f (eqb-false x dash e) r
    go false e false f = reads_other x f (eqb-false x dash e) r

-- ---- an item ends

-- the span from low to high has high + 1 bits
span_lt : (low high : ℕ) → span low high < 2 ^ (high + 1)
span_lt low high = lt_of_le_of_lt (sub-le (all_nodes (high + 1)) (all_nodes low)) (ones_lt (high + 1))

-- and the nodes from low to high
span_has : (low high k : ℕ) → low ≤ high → has (span low high) k ≡ between low high k
span_has low high k l = go (dec_lt high k) (dec_lt k low)
  where
    low_lt : all_nodes low < 2 ^ (high + 1)
    low_lt = lt_of_lt_of_le (ones_lt low) (pow_mono (omega arith))

    go : Dec (high < k) → Dec (k < low) → has (span low high) k ≡ between low high k
    go (yes h) d =
        rw (bit_above (high + 1) (span low high) k (span_lt low high) (omega arith), lt-leb k high h) (sym (and-false (leb low k)))
    go (no h) (yes q) = rw (bit_others (high + 1) (all_nodes low) k low_lt (omega arith), bit_below low k q, lt-leb low k q)
    go (no h) (no q) =
        rw (bit_others (high + 1) (all_nodes low) k low_lt (omega arith), bit_below_out low k (omega arith))
        (sym (true_between low high k (omega arith) (omega arith)))

-- where a reader stands after the bytes p of an item: the item was good and its nodes are in, or it was not
data Closes (limit : ℕ) (m : Numbers) (p : List ℕ) (r : Progress) : Type 0 where
  well : (n : Numbers) → is_item limit (split dash p) ≡ true → r ≡ progress n Empty → n.0 < 2 ^ most_nodes
      → ((k : ℕ) → has n.0 k ≡ (has m.0 k || item_has k (split dash p))) → Closes limit m p r
  ill : is_item limit (split dash p) ≡ false → r ≡ progress m Broken → Closes limit m p r

closes_span : (limit : ℕ) (m : Numbers) (p : List ℕ) (low high : ℕ) → is_item limit (split dash p) ≡ true → low ≤ high → high < most_nodes
    → m.0 < 2 ^ most_nodes → ((k : ℕ) → item_has k (split dash p) ≡ between low high k) → Closes limit m p (progress (with_span m low high) Empty)
closes_span limit m p low high e l s h f =
    well (with_span m low high) e refl (or_lt most_nodes m.0 (span low high) h (lt_of_lt_of_le (span_lt low high) (pow_mono {j = most_nodes} (omega arith))))
    (λ k. has_or m.0 (span low high) k ∙ ap (λ (b : Bool). has m.0 k || b) (span_has low high k l ∙ sym (f k)))

closes : {limit : ℕ} {item : Item} {p : List ℕ} (m : Numbers) → limit ≤ most_nodes → m.0 < 2 ^ most_nodes → Reads limit item p → Closes limit m p
    (closed m item)
unfolding closed split is_item item_has is_number is_nil
closes m l h nothing = ill refl refl
closes {limit} m l h (number {a = a} n) =
    closes_span limit m a (value a) (value a) (rw (split_number n) (is_number_lem limit a n)) (le_refl (value a)) (omega (arith, n.small)) h
    (λ k. rw (split_number n) (between_one (value a) k))
closes {limit} m l h (dashed {a = a} n) = ill (ap (is_item limit) (split_at dash a [] (number_free n)) ∙ item_second limit a [] [] refl) refl
closes {limit} m l h (range {a = a} {b = b} n o) = go (leb (value a) (value b)) refl
  where
    go : (t : Bool) → leb (value a) (value b) ≡ t
        → Closes limit m (a ++ dash ∷ b) (cond t (progress (with_span m (value a) (value b)) Empty) (progress m Broken))
    go true t =
        closes_span limit m (a ++ dash ∷ b) (value a) (value b) (item_range n o ∙ t) (leb-true (value a) (value b) t) (omega (arith, o.small)) h
        (λ k. ap (item_has k) (split_range n o))
    go false t = ill (item_range n o ∙ t) refl
closes {limit} m l h (broken {p = p} n) = ill (ap (λ (t : List ℕ). is_item limit (split dash t)) (sym (append-nil p)) ∙ n []) refl

-- ---- the whole text

-- what the items of a text name, with what is named already
abbrev known : ℕ → Numbers → List ℕ → Option ℕ
known limit m text = cond (is_items limit text) (some (mask_of most_nodes (λ k. has m.0 k || names text k))) none

-- a broken item stays broken
stepped_broken : (limit : ℕ) (m : Numbers) (x : ℕ) → stepped limit (progress m Broken) x ≡ progress m Broken
unfolding closed stepped with_byte with_dash with_digit
stepped_broken limit m x = go (eqb x comma) (eqb x dash) (between 48 57 x)
  where
    go : (a b c : Bool) → cond a (progress m Broken) (progress m (cond b Broken (cond c Broken Broken))) ≡ progress m Broken
    go true b c = refl
    go false true c = refl
    go false false true = refl
    go false false false = refl

broken_stays : (limit : ℕ) (m : Numbers) (xs : List ℕ) → ended (read_on limit (progress m Broken) xs) ≡ none
unfolding read_on ended closed
broken_stays limit m [] = refl
broken_stays limit m (x ∷ xs) = ap (λ (r : Progress). ended (read_on limit r xs)) (stepped_broken limit m x) ∙ broken_stays limit m xs

-- the item ends and the text with it
known_last : {limit : ℕ} {m : Numbers} {p : List ℕ} {r : Progress} → free comma p ≡ true → Closes limit m p r → answer r.named r.item ≡ known limit m p
known_last {limit} {m} {p} f (well n e q h g) =
    rw (q, items_one limit p f, e)
    (ap some (mask_of_is most_nodes n.0 (λ k. has m.0 k || names p k) h (λ k l. g k ∙ ap (λ (b : Bool). has m.0 k || b) (sym (names_one p k f)))))
known_last {limit} {m} {p} f (ill e q) = rw (q, items_one limit p f, e)

-- the item ends at a comma
known_more : (limit : ℕ) (m n : Numbers) (p q : List ℕ) → free comma p ≡ true → is_item limit (split dash p) ≡ true
    → ((k : ℕ) → has n.0 k ≡ (has m.0 k || item_has k (split dash p))) → known limit n q ≡ known limit m (p ++ comma ∷ q)
known_more limit m n p q f e g =
    rw (items_more limit p q f, e)
    (ap (λ (x : ℕ). cond (is_items limit q) (some x) none)
    (mask_of_same most_nodes (λ k. has n.0 k || names q k) (λ k. has m.0 k || names (p ++ comma ∷ q) k)
    (λ k l. rw (g k, names_more p q k f) (or_assoc (has m.0 k) (item_has k (split dash p)) (names q k)))))

-- a text is read as document 01 says, from wherever a reader stands in it
reads_rest : (limit : ℕ) → limit ≤ most_nodes → (rest : List ℕ) {item : Item} {p : List ℕ} (m : Numbers) → m.0 < 2 ^ most_nodes → free comma p ≡ true
    → Reads limit item p → ended (read_on limit (progress m item) rest) ≡ known limit m (p ++ rest)
unfolding read_on stepped ended all
reads_rest limit l [] {item} {p} m h f r = rw (append-nil p) (known_last f (closes m l h r))
reads_rest limit l (x ∷ xs) {item} {p} m h f r =
    go (eqb x comma) refl (closes m l h r)
    (λ n g. reads_rest limit l xs n g refl nothing)
    (λ e. reads_rest limit l xs m h (all_append _ p (x ∷ []) f (rw e)) (reads_byte x r))
  where
    go : (b : Bool) → eqb x comma ≡ b → Closes limit m p (closed m item)
        → ((n : Numbers) → n.0 < 2 ^ most_nodes → ended (read_on limit (progress n Empty) xs) ≡ known limit n xs)
        → (eqb x comma ≡ false → ended (read_on limit (progress m (with_byte limit item x)) xs) ≡ known limit m (p ++ x ∷ [] ++ xs))
        → ended (read_on limit (cond b (closed m item) (progress m (with_byte limit item x))) xs) ≡ known limit m (p ++ x ∷ xs)
    go true e (well n i q g k) next more =
        rw (q, eqb-true x comma e) (next n g ∙ known_more limit m n p xs f i k)
    go true e (ill i q) next more = rw (q, eqb-true x comma e, items_more limit p xs f, i) (broken_stays limit m xs)
    go false e c next more = more e ∙ ap (known limit m) (append_snoc p x xs)

-- "one or more items split by single commas": the reader reads them all
pub reads_items : (limit : ℕ) (text : List ℕ) → limit ≤ most_nodes → ended (read_on limit (progress (record { 0 = 0 }) Empty) text) ≡ items_read limit text
unfolding items_read all
reads_items limit text l =
    reads_rest limit l text (record { 0 = 0 }) (pow_pos most_nodes) refl nothing
    ∙ ap (λ (x : ℕ). cond (is_items limit text) (some x) none)
    (mask_of_same most_nodes (λ k. has 0 k || names text k) (names text) (λ k h. rw (none_in k)))

-- ---- the numbers that a reader holds stay below the limit

below_fits : (limit v : ℕ) (item : Item) → (v < limit → Fits limit item) → Fits limit (cond (ltb v limit) item Broken)
below_fits limit v item f = go (ltb v limit) refl
  where
    go : (b : Bool) → ltb v limit ≡ b → Fits limit (cond b item Broken)
    go true e = f (ltb-true v limit e)
    go false e = tt

digit_fits : (limit : ℕ) (item : Item) (d : ℕ) → Fits limit item → Fits limit (with_digit limit item d)
unfolding with_digit number_below range_below
digit_fits limit Empty d f = below_fits limit d (NumberItem d) (λ l. l)
digit_fits limit (NumberItem v) d f = below_fits limit (grown limit v d) (NumberItem (grown limit v d)) (λ l. l)
digit_fits limit (Dashed a) d f = below_fits limit d (Range a d) (λ l. (f, l))
digit_fits limit (Range a b) d f = below_fits limit (grown limit b d) (Range a (grown limit b d)) (λ l. (f.0, l))
digit_fits limit Broken d f = tt

dash_fits : (limit : ℕ) (item : Item) → Fits limit item → Fits limit (with_dash item)
unfolding with_dash
dash_fits limit Empty f = tt
dash_fits limit (NumberItem v) f = f
dash_fits limit (Dashed a) f = tt
dash_fits limit (Range a b) f = tt
dash_fits limit Broken f = tt

closed_fits : (limit : ℕ) (m : Numbers) (item : Item) → Fits limit (closed m item).item
unfolding closed
closed_fits limit m Empty = tt
closed_fits limit m (NumberItem v) = tt
closed_fits limit m (Dashed a) = tt
closed_fits limit m (Range a b) = go (leb a b)
  where
    go : (t : Bool) → Fits limit (cond t (progress (with_span m a b) Empty) (progress m Broken)).item
    go true = tt
    go false = tt
closed_fits limit m Broken = tt

-- so they do at each step
pub stepped_fits : (limit : ℕ) (r : Progress) (x : ℕ) → Fits limit r.item → Fits limit (stepped limit r x).item
unfolding stepped with_byte
stepped_fits limit r x f = go (eqb x comma) (eqb x dash) (between 48 57 x)
  where
    item : Bool → Bool → Item
    item b c = cond b (with_dash r.item) (cond c (with_digit limit r.item (x - 48)) Broken)

    go : (a b c : Bool) → Fits limit (cond a (closed r.named r.item) (progress r.named (item b c))).item
    go true b c = closed_fits limit r.named r.item
    go false true c = dash_fits limit r.item f
    go false false true = digit_fits limit r.item (x - 48) f
    go false false false = tt

-- one turn of a loop that reads on
pub reads_byte_at : (limit : ℕ) (text : List ℕ) (i : ℕ) (r : Progress) → i < length text
    → read_on limit r (drop i text) ≡ read_on limit (stepped limit r (get_or text i 0)) (drop (i + 1) text)
unfolding read_on
reads_byte_at limit text i r h = rw (add-one, drop-cons text i 0)

-- at the end there is nothing to read
pub read_end : (limit : ℕ) (text : List ℕ) (r : Progress) (i : ℕ) → i ≡ length text → read_on limit r (drop i text) ≡ r
unfolding read_on
read_end limit text r i e = ap (read_on limit r) (ap (λ (x : ℕ). drop x text) e ∙ drop-length text)
