-- "reading that back gives the same mask": the text of a mask is read as that mask.
-- Assumes nothing.
use mathlib.Core.Path.{◌≡◌, refl, sym, ap, ap₂, ◌∙◌}
use mathlib.Core.Bool.{Bool, true, false, ◌&&◌, ◌||◌, cond, false≢true, or_assoc, or-false}
use mathlib.Core.List.Memᴰ
use mathlib.Core.List.{List, [], ◌∷◌, ◌++◌, map}
use Prim.Native.Nat.{ℕ, suc, ◌+◌, ◌/◌, ◌%◌, ◌^◌, ◌≤◌, ◌<◌, zero-le}
use native.Mathlib.Nat.{le_refl, lt_irrefl, lt_of_lt_of_le}
use native.Mathlib.Decide.{ℕ_discrete}
use native.Mathlib.Omega.{arith}
use lib.ListN.{length, get_or}
use lib.Dec.{eqb, leb, ltb, lit<}
use borrow.Author.Tests.{eqb-true, eq-eqb, ne_eqb, ltb-true, ltb-false, leb-true, le-leb}
use Rattle.rules.specs.Basics.{all, any, keep, from, between, same}
use Rattle.rules.specs.Machine.{nodes_ok}
use Rattle.rules.specs.Masks.{most_nodes, bit, has, below, mask_of}
use Rattle.rules.specs.Decisions.{accept}
use Rattle.rules.specs.Text.{comma, dash, split, value_from, value, is_item, item_has, is_items, names, form_by, form_of, form_ok, form_mask, items, read_text}
use Rattle.rules.specs.Text.{longest_text, Run, joined, runs, decimal, run_text, commas, text_of}
use Rattle.rules.proofs.Lists.{both_true, both_hold, same_test, between_true, true_between, all_append, ◌∈◌, true_any, none_any}
use Rattle.rules.proofs.Lists.{keep_member, member_keep, member_from}
use Rattle.rules.proofs.Masks.{below_width, mask_of_is, mask_of_narrow}
use Rattle.rules.proofs.Kept.{nodes_few}
use Rattle.nodelist.specs.Writer.{run_of}
use Rattle.nodelist.proofs.Items.{free, between_one, Number, is_number_lem, digits_free, split_number, split_range, item_range}
use Rattle.nodelist.proofs.Items.{items_one, names_one, items_more, names_more}
use Rattle.nodelist.proofs.LineLaws.{line_short}
use Rattle.nodelist.proofs.WriteLaws.{text_length}

-- ---- a node number in decimal digits

-- a number below 100 in digits is a number of that value
decimal_number : (limit v : ℕ) → v < limit → v < 100 → Number limit (decimal v) × (value (decimal v) ≡ v)
unfolding decimal value_from all
decimal_number limit v l h = go (ltb v 10) refl
  where
    digit : (d : ℕ) → d < 10 → between 48 57 (48 + d) ≡ true
    digit d q = true_between 48 57 (48 + d) (omega arith) (omega arith)

    go : (b : Bool) → ltb v 10 ≡ b
        → let t = cond b ((48 + v) ∷ []) ((48 + v / 10) ∷ (48 + v % 10) ∷ []) in Number limit t × (value t ≡ v)
    go true e =
        (record { digits = both_hold (digit v (ltb-true v 10 e)) refl; some = omega arith; plain = refl; small = omega arith }, omega arith)
    go false e =
        let t : 10 ≤ v = ltb-false v 10 e in
        let first = ne_eqb (48 + v / 10) 48 (λ q. lt_irrefl 48 (omega arith)) in (
          record {
            digits = both_hold (digit (v / 10) (omega arith)) (both_hold (digit (v % 10) (omega arith)) refl);
            some = omega arith;
            plain = rw first;
            small = omega arith;
          },
          omega arith,
        )

-- ---- one run

-- the text starts with a digit
abbrev starts : List ℕ → Bool
starts t = between 48 57 (get_or t 0 0)

starts_append : (t u : List ℕ) → starts t ≡ true → starts (t ++ u) ≡ true
starts_append [] u s = absurd (false≢true s)
starts_append (x ∷ xs) u s = s

starts_number : {limit : ℕ} (ds : List ℕ) → Number limit ds → starts ds ≡ true
unfolding all
starts_number [] n = absurd (omega (arith, n.some))
starts_number (x ∷ xs) n = (both_true {a = between 48 57 x} n.digits).0

-- the text t of a run is an item that names its nodes, and starts with a digit
record Readable (limit : ℕ) (r : Run) (t : List ℕ) : Type 0 where
  no_comma : free comma t ≡ true
  item : is_item limit (split dash t) ≡ true
  nodes : (k : ℕ) → item_has k (split dash t) ≡ between r.low r.high k
  digit : starts t ≡ true

readable : (limit : ℕ) (r : Run) → r.low ≤ r.high → r.high < limit → limit ≤ most_nodes → Readable limit r (run_text r)
unfolding run_text is_item item_has all
readable limit r o h w = go (eqb r.low r.high) refl
  where
    a : List ℕ
    a = decimal r.low

    b : List ℕ
    b = decimal r.high

    low : Number limit a × (value a ≡ r.low)
    low = decimal_number limit r.low (omega arith) (omega arith)

    high : Number limit b × (value b ≡ r.high)
    high = decimal_number limit r.high h (omega arith)

    no_commas : {ds : List ℕ} → Number limit ds → free comma ds ≡ true
    no_commas {ds} n = digits_free comma ds (lit< tt) n.digits

    go : (t : Bool) → eqb r.low r.high ≡ t → Readable limit r (cond t a (a ++ dash ∷ b))
    go true e = record {
      no_comma = no_commas low.0;
      item = rw (split_number low.0) (is_number_lem limit a low.0);
      nodes = λ k. rw (split_number low.0, low.1, ← eqb-true r.low r.high e) (between_one r.low k);
      digit = starts_number a low.0;
    }
    go false e = record {
      no_comma = all_append _ a (dash ∷ b) (no_commas low.0) (both_hold refl (no_commas high.0));
      item = item_range low.0 high.0 ∙ le-leb (value a) (value b) (omega (arith, low.1, high.1));
      nodes = λ k. rw (split_range low.0 high.0, low.1, high.1);
      digit = starts_append a (dash ∷ b) (starts_number a low.0);
    }

-- ---- all runs

-- node k is in the run
abbrev in_run : ℕ → Run → Bool
in_run k r = between r.low r.high k

-- each run goes upwards and stays below the limit
abbrev Good : ℕ → List Run → Type 0
Good limit [] = Unit {0}
Good limit (r ∷ rs) = (r.low ≤ r.high) × (r.high < limit) × Good limit rs

-- a run of one node more in front
between_more : (n h k : ℕ) → n < h → between n h k ≡ (eqb k n || between (suc n) h k)
between_more n h k l = go (ℕ_discrete k n)
  where
    go : Dec (k ≡ n) → between n h k ≡ (eqb k n || between (suc n) h k)
    go (yes e) = rw (eq-eqb k n e) (true_between n h k (omega arith) (omega arith))
    go (no e) =
        rw (ne_eqb k n e)
        (ap (λ (b : Bool). b && leb k h)
        (same_test (λ t. le-leb (suc n) k (omega (arith, leb-true n k t))) (λ t. le-leb n k (omega (arith, leb-true (suc n) k t)))))

-- a node in front of good runs: they stay good, and have that node too
joined_good : (limit n : ℕ) (rs : List Run) → n < limit → Good limit rs
    → Good limit (joined n rs) × ((k : ℕ) → any (in_run k) (joined n rs) ≡ (eqb k n || any (in_run k) rs))
unfolding joined any
joined_good limit n [] l g = ((le_refl n, l, tt), λ k. ap (λ (b : Bool). b || false) (sym (between_one n k)))
joined_good limit n (r ∷ rs) l g = go (eqb (suc n) r.low) refl
  where
    go : (b : Bool) → eqb (suc n) r.low ≡ b → let js = cond b (run_of n r.high ∷ rs) (run_of n n ∷ r ∷ rs) in
        Good limit js × ((k : ℕ) → any (in_run k) js ≡ (eqb k n || (in_run k r || any (in_run k) rs)))
    go true e =
        let q : suc n ≡ r.low = eqb-true (suc n) r.low e in (
          (omega (arith, q, g.0), g.1, g.2),
          λ k. rw (between_more n r.high k (omega (arith, q, g.0)), q) (or_assoc (eqb k n) (in_run k r) (any (in_run k) rs)),
        )
    go false e = ((le_refl n, l, g), λ k. ap (λ (b : Bool). b || (in_run k r || any (in_run k) rs)) (sym (between_one n k)))

-- the runs of some nodes are good, and have these nodes
runs_good : (limit : ℕ) (ns : List ℕ) → ((k : ℕ) → k ∈ ns → k < limit)
    → Good limit (runs ns) × ((k : ℕ) → any (in_run k) (runs ns) ≡ any (eqb k) ns)
unfolding runs any
runs_good limit [] f = (tt, λ k. refl)
runs_good limit (n ∷ ns) f =
    let r = runs_good limit ns (λ k m. f k (Memᴰ.tail m)) in
    let j = joined_good limit n (runs ns) (f n (Memᴰ.head refl)) r.0 in
    (j.0, λ k. j.1 k ∙ ap (λ (b : Bool). eqb k n || b) (r.1 k))

-- ---- the text of the runs

-- it is one of items that name the nodes of the runs, and starts with a digit
commas_read : (limit : ℕ) → limit ≤ most_nodes → (r : Run) (rs : List Run) → Good limit (r ∷ rs) → let t = commas (map run_text (r ∷ rs)) in
    (is_items limit t ≡ true) × ((k : ℕ) → names t k ≡ any (in_run k) (r ∷ rs)) × (starts t ≡ true)
unfolding commas any
commas_read limit w r [] g =
    let x = readable limit r g.0 g.1 w in (
      items_one limit (run_text r) x.no_comma ∙ x.item,
      λ k. names_one (run_text r) k x.no_comma ∙ x.nodes k ∙ sym (or-false (in_run k r)),
      x.digit,
    )
commas_read limit w r (s ∷ rs) g =
    let x = readable limit r g.0 g.1 w in
    let t = commas (map run_text (s ∷ rs)) in
    let ih = commas_read limit w s rs g.2 in (
      items_more limit (run_text r) t x.no_comma ∙ both_hold x.item ih.0,
      λ k. names_more (run_text r) t k x.no_comma ∙ ap₂ (λ (a b : Bool). a || b) (x.nodes k) (ih.1 k),
      starts_append (run_text r) (comma ∷ t) x.digit,
    )

-- a text that starts with a digit is one of items
form_digit : (t : List ℕ) → starts t ≡ true → form_of t ≡ items t
unfolding form_of form_by same
form_digit [] d = absurd (false≢true d)
form_digit (x ∷ xs) d =
    let b = between_true 48 57 x d in
    rw (ne_eqb x 97 (λ e. lt_irrefl x (omega arith)), ne_eqb x 33 (λ e. lt_irrefl x (omega arith)), ne_eqb x 43 (λ e. lt_irrefl x (omega arith)))

-- ---- the whole mask

-- the text of a mask is short enough to be read
pub text_short : (m : ℕ) → length (text_of m) ≤ longest_text
text_short m = omega (arith, text_length m, line_short m)

-- node k is one of the nodes that pass if it passes
kept_any : (p : ℕ → Bool) (w k : ℕ) → k < w → any (eqb k) (keep p (from 0 w)) ≡ p k
kept_any p w k l = go (p k) refl
  where
    go : (b : Bool) → p k ≡ b → any (eqb k) (keep p (from 0 w)) ≡ b
    go true e = true_any (eqb k) (member_keep p (member_from 0 w k zero-le (omega arith)) e) (eq-eqb k k refl)
    go false e =
        none_any (eqb k) (keep p (from 0 w))
        (λ x m. ne_eqb k x (λ q. false≢true (sym e ∙ ap p q ∙ (keep_member p (from 0 w) m).1)))

module _ (n allowed m : ℕ) (o : nodes_ok n ≡ true) (b : below n allowed ≡ true) (h : m < 2 ^ n) where
  nodes : List ℕ
  nodes = keep (has m) (from 0 most_nodes)

  nodes_below : (k : ℕ) → k ∈ nodes → k < n
  unfolding nodes
  nodes_below k i = below_width n m k h (eqb-true (bit m k) 1 (keep_member (has m) (from 0 most_nodes) i).1)

  node_has : (k : ℕ) → k < n → has m k ≡ any (in_run k) (runs nodes)
  unfolding nodes
  node_has k l = sym ((runs_good n nodes nodes_below).1 k ∙ kept_any (has m) most_nodes k (lt_of_lt_of_le l (nodes_few n o)))

  -- a text that is in order is read as its mask
  read_form : (text : List ℕ) → length text ≤ longest_text → form_ok n allowed (form_of text) ≡ true → form_mask n allowed (form_of text) ≡ m
      → read_text n allowed text ≡ accept m
  unfolding read_text
  read_form text l f e = rw (o, b, le-leb (length text) longest_text l, f, e)

  read_runs : (rs : List Run) → Good n rs → ((k : ℕ) → k < n → has m k ≡ any (in_run k) rs) → length (commas (map run_text rs)) ≤ longest_text
      → read_text n allowed (commas (map run_text rs)) ≡ accept m
  unfolding form_ok form_mask any commas form_of mask_of
  read_runs [] g f l =
      read_form [] l refl (sym (mask_of_is n m (λ k. false) h f ∙ mask_of_narrow {n = 0} {w = n} (λ k. false) zero-le (λ k q. refl)))
  read_runs (r ∷ rs) g f l =
      let t = commas (map run_text (r ∷ rs)) in
      let c = commas_read n (nodes_few n o) r rs g in
      let e : form_of t ≡ items t = form_digit t c.2 in
      read_form t l (rw e c.0) (rw e (sym (mask_of_is n m (names t) h (λ k q. f k q ∙ sym (c.1 k)))))

  -- "reading that back gives the same mask", for every N and every mask below it
  pub read_back : read_text n allowed (text_of m) ≡ accept m
  unfolding text_of nodes
  read_back = read_runs (runs nodes) (runs_good n nodes nodes_below).0 node_has (text_short m)
