-- M-100: what the free counts count, and what a write in the page table does to them.
-- Assumes nothing.
use Prim.Native.Nat.{ℕ, zero, suc, ◌+◌, ◌-◌, ◌≤◌, ◌<◌}
use mathlib.Core.Path.{◌≡◌, refl, sym, ap, ◌∙◌}
use mathlib.Core.Logic.{◌≢◌}
use mathlib.Core.Bool.{Bool, true, false, not, cond}
use mathlib.Core.List.{List, [], ◌∷◌, ◌++◌, map}
use native.Mathlib.Decide.{ℕ_discrete, dec_le}
use native.Mathlib.Omega.{arith}
use borrow.Author.Tests.{eq-eqb, ne_eqb, lt-ltb}
use lib.Dec.{ltb, eqb}
use lib.ListN.{length, get_or, drop, set, replicate, length-set, length-map}
use lib.Seq.{get_or-set_same, get_or-set_other, ext_get_or}
use Rattle.rules.specs.Basics.{keep, first, is_nil, count, from, sum}
use Rattle.rules.specs.Machine.{first_page, pages_of}
use Rattle.rules.specs.SearchOrder.{Try, free_pages, has_room, free_counts, counted, chosen}
use Rattle.rules.specs.Calls.{write, after_writes}
use Rattle.rules.specs.FreeCounts.{first_with_room}
use Rattle.rules.proofs.Lists.{keep_same, length_from, entry_map_from}
use Rattle.rules.proofs.Admission.{is_free}
use Rattle.rules.proofs.Pages.{PageOf, page_lt, page_node, page_node_lt}

-- ---- tables that are made node by node

-- there is none past the end of the list f a, f (a + 1), ..
entry_past : (f : ℕ → ℕ) (a k i : ℕ) → k ≤ i → get_or (map f (from a k)) i 0 ≡ 0
unfolding from
entry_past f a zero i h = refl
entry_past f a (suc k) zero h = absurd (omega arith)
entry_past f a (suc k) (suc i) h = entry_past f (suc a) k i (omega arith)

past_end : (xs : List ℕ) (i : ℕ) → length xs ≤ i → get_or xs i 0 ≡ 0
past_end [] i h = refl
past_end (x ∷ xs) zero h = absurd (omega arith)
past_end (x ∷ xs) (suc i) h = past_end xs i (omega arith)

-- ---- what the counts count

-- the number of free pages of node n
abbrev pub free_count : List ℕ → List ℕ → ℕ → ℕ
free_count counts ledger n = length (free_pages counts ledger n)

-- there is a count for each node
pub free_counts_length : (counts ledger : List ℕ) → length (free_counts counts ledger) ≡ length counts
unfolding free_counts
free_counts_length counts ledger = length-map (from 0 (length counts)) (free_count counts ledger) ∙ length_from 0 (length counts)

-- the count of each node is the number of its free pages; a node that the machine has not has none
pub count_is : (counts ledger : List ℕ) (n : ℕ) → get_or (free_counts counts ledger) n 0 ≡ free_count counts ledger n
unfolding free_counts free_pages pages_of
count_is counts ledger n = go (dec_le (suc n) (length counts))
  where
    go : Dec (suc n ≤ length counts) → get_or (free_counts counts ledger) n 0 ≡ free_count counts ledger n
    go (yes l) = entry_map_from (free_count counts ledger) 0 (length counts) n l ∙ ap (free_count counts ledger) (omega arith)
    go (no l) = entry_past (free_count counts ledger) 0 (length counts) n (omega arith) ∙ sym (none_there (past_end counts n (omega arith)))
      where
        none_there : get_or counts n 0 ≡ 0 → free_count counts ledger n ≡ 0
        none_there e = unfold keep in unfold from in rw e

some_length : {A : Type 0} (xs : List A) → ltb 0 (length xs) ≡ not (is_nil xs)
unfolding is_nil
some_length [] = refl
some_length (x ∷ xs) = lt-ltb 0 (suc (length xs)) (omega arith)

-- with counts that match a node is counted above 0 exactly if it has a free page
pub counted_room : (counts ledger : List ℕ) (n : ℕ) → counted (free_counts counts ledger) n ≡ has_room counts ledger n
unfolding counted has_room
counted_room counts ledger n = ap (ltb 0) (count_is counts ledger n) ∙ some_length (free_pages counts ledger n)

-- and the first node in an order that is counted above 0 is the first with a free page
pub chosen_with_room : (counts ledger : List ℕ) (ts : List Try) → chosen (free_counts counts ledger) ts ≡ first_with_room counts ledger ts
unfolding chosen first_with_room
chosen_with_room counts ledger ts = ap first (keep_same _ _ ts (λ t. counted_room counts ledger t.node))

-- ---- two page tables that differ at one page

pub length_keep : {A : Type 0} (p : A → Bool) (xs : List A) → length (keep p xs) ≡ count p xs
unfolding keep count
length_keep p [] = refl
length_keep p (x ∷ xs) = go (p x) (length_keep p xs)
  where
    go : (b : Bool) → length (keep p xs) ≡ count p xs → length (cond b (x ∷ keep p xs) (keep p xs)) ≡ cond b 1 0 + count p xs
    go true ih = omega arith
    go false ih = omega arith

module _ (P Q : ℕ → Bool) (p : ℕ) (same : (q : ℕ) → q ≢ p → P q ≡ Q q) where
  -- two tests that differ at p alone pass as many of the numbers without p
  as_many : (a k : ℕ) → ((q : ℕ) → a ≤ q → q < a + k → q ≢ p) → count P (from a k) ≡ count Q (from a k)
  unfolding count from
  as_many a zero h = refl
  as_many a (suc k) h = rw (same a (h a (omega arith) (omega arith)), as_many (suc a) k (λ q l m. h q (omega arith) (omega arith)))

  -- and one passes one more of those with p
  pub one_more : (a k : ℕ) → a ≤ p → p < a + k → P p ≡ true → Q p ≡ false → count P (from a k) ≡ suc (count Q (from a k))
  unfolding count from
  one_more a zero l m t f = absurd (omega arith)
  one_more a (suc k) l m t f = go (ℕ_discrete a p) (λ s. one_more (suc a) k s (omega arith) t f)
    where
      go : Dec (a ≡ p) → (suc a ≤ p → count P (from (suc a) k) ≡ suc (count Q (from (suc a) k)))
          → cond (P a) 1 0 + count P (from (suc a) k) ≡ suc (cond (Q a) 1 0 + count Q (from (suc a) k))
      go (yes e) ih = rw (ap P e ∙ t, ap Q e ∙ f) (omega (arith, as_many (suc a) k (λ q l m z. omega arith)))
      go (no e) ih = rw (same a e) (omega (arith, ih (omega arith)))

module _ (counts before after : List ℕ) (p n : ℕ) (page : PageOf counts n p) (same : (q : ℕ) → q ≢ p → get_or before q 1 ≡ get_or after q 1) where
  same_free : (q : ℕ) → q ≢ p → is_free before q ≡ is_free after q
  same_free q d = ap (λ (b : ℕ). eqb b 0) (same q d)

  -- the other nodes have as many free pages
  others_same : (k : ℕ) → k ≢ n → free_count counts before k ≡ free_count counts after k
  unfolding free_pages pages_of
  others_same k d =
      length_keep (is_free before) (pages_of counts k)
      ∙ as_many (is_free before) (is_free after) p same_free (first_page counts k) (get_or counts k 0) (λ q l m e. d (apart q l m e))
      ∙ sym (length_keep (is_free after) (pages_of counts k))
    where
      apart : (q : ℕ) → first_page counts k ≤ q → q < first_page counts k + get_or counts k 0 → q ≡ p → k ≡ n
      apart q l m e =
          let here : PageOf counts k p = record { start = omega arith; end = omega arith } in
          sym (page_node here) ∙ page_node page

  -- the node of a page that was free and is not has one free page less
  node_less : is_free before p ≡ true → is_free after p ≡ false → free_count counts before n ≡ suc (free_count counts after n)
  unfolding free_pages pages_of
  node_less t f =
      let a = length_keep (is_free before) (pages_of counts n) in
      let b = length_keep (is_free after) (pages_of counts n) in
      let c = one_more (is_free before) (is_free after) p same_free (first_page counts n) (get_or counts n 0) page.start page.end t f in
      omega arith

-- the counts of another page table, where one node alone has another number of free pages
recount : (counts before after : List ℕ) (n v : ℕ) → n < length counts → free_count counts after n ≡ v
    → ((k : ℕ) → k ≢ n → free_count counts before k ≡ free_count counts after k)
    → set (free_counts counts before) n v ≡ free_counts counts after
recount counts before after n v l e same =
    ext_get_or 0 _ _ (length-set (free_counts counts before) n v ∙ free_counts_length counts before ∙ sym (free_counts_length counts after))
    (λ i h. go i (ℕ_discrete i n) ∙ sym (count_is counts after i))
  where
    go : (i : ℕ) → Dec (i ≡ n) → get_or (set (free_counts counts before) n v) i 0 ≡ free_count counts after i
    go i (yes q) =
        rw q (get_or-set_same (free_counts counts before) n v 0 (rw (free_counts_length counts before) l) ∙ sym e)
    go i (no q) = get_or-set_other (free_counts counts before) n i v 0 q ∙ count_is counts before i ∙ same i q

set_elsewhere : (ledger : List ℕ) (p b : ℕ) (q : ℕ) → q ≢ p → get_or ledger q 1 ≡ get_or (set ledger p b) q 1
set_elsewhere ledger p b q d = sym (get_or-set_other ledger p q b 1 d)

few_of : (P : ℕ → Bool) (a k : ℕ) → count P (from a k) ≤ k
unfolding count from
few_of P a zero = omega arith
few_of P a (suc k) = go (P a) (few_of P (suc a) k)
  where
    go : (b : Bool) → count P (from (suc a) k) ≤ k → cond b 1 0 + count P (from (suc a) k) ≤ suc k
    go true ih = omega arith
    go false ih = omega arith

-- a node has no more free pages than pages
pub count_most : (counts ledger : List ℕ) (n : ℕ) → free_count counts ledger n ≤ get_or counts n 0
unfolding free_pages pages_of
count_most counts ledger n =
    let a = length_keep (is_free ledger) (pages_of counts n) in
    let b = few_of (is_free ledger) (first_page counts n) (get_or counts n 0) in
    omega arith

-- a free page of node n that a job gets: the count goes down by one
pub count_granted : (counts ledger : List ℕ) (n p j : ℕ) → PageOf counts n p → p < length ledger → get_or ledger p 1 ≡ 0
    → set (free_counts counts ledger) n (get_or (free_counts counts ledger) n 0 - 1) ≡ free_counts counts (set ledger p (j + 1))
count_granted counts ledger n p j o l z =
    let after = set ledger p (j + 1) in
    let less = node_less counts ledger after p n o (set_elsewhere ledger p (j + 1)) (eq-eqb (get_or ledger p 1) 0 z)
    (ne_eqb (get_or after p 1) 0 (λ e. let w = get_or-set_same ledger p (j + 1) 1 l in omega arith)) in
    recount counts ledger after n _ (page_node_lt o) (let c = count_is counts ledger n in omega arith)
    (others_same counts ledger after p n o (set_elsewhere ledger p (j + 1)))

-- a held page of node n that is released: the count goes up by one, and stays within the node's pages
module _ (counts ledger : List ℕ) (n p : ℕ) (o : PageOf counts n p) (l : p < length ledger) (held : get_or ledger p 1 ≢ 0) where
  more : free_count counts (set ledger p 0) n ≡ suc (free_count counts ledger n)
  more =
      node_less counts (set ledger p 0) ledger p n o (λ q d. sym (set_elsewhere ledger p 0 q d))
      (eq-eqb (get_or (set ledger p 0) p 1) 0 (get_or-set_same ledger p 0 1 l)) (ne_eqb (get_or ledger p 1) 0 held)

  pub count_released : set (free_counts counts ledger) n (get_or (free_counts counts ledger) n 0 + 1) ≡ free_counts counts (set ledger p 0)
  count_released =
      recount counts ledger (set ledger p 0) n _ (page_node_lt o) (let c = count_is counts ledger n in omega (arith, more))
      (others_same counts ledger (set ledger p 0) p n o (set_elsewhere ledger p 0))

  pub count_within : get_or (free_counts counts ledger) n 0 + 1 ≤ get_or counts n 0
  count_within = omega (arith, more, count_is counts ledger n, count_most counts (set ledger p 0) n)

-- ---- the fresh table

-- the numbers that are written from index 1 on leave the first entry
writes_shift : (f : ℕ → ℕ) (x : ℕ) (xs : List ℕ) (a k : ℕ)
    → after_writes (x ∷ xs) (map (λ i. write i (f i)) (from (suc a) k)) ≡ x ∷ after_writes xs (map (λ i. write i (f (suc i))) (from a k))
unfolding after_writes from
writes_shift f x xs a zero = refl
writes_shift f x xs a (suc k) = writes_shift f x (set xs a (f (suc a))) (suc a) k

-- "it frees every page of the machine": zeros at the front, and what was behind them
pub zeros_written : (table : List ℕ) (k : ℕ) → k ≤ length table → after_writes table (map (λ p. write p 0) (from 0 k)) ≡ replicate k 0 ++ drop k table
unfolding after_writes from
zeros_written table zero h = refl
zeros_written [] (suc k) h = absurd (omega arith)
zeros_written (x ∷ xs) (suc k) h = writes_shift (λ i. 0) 0 xs 0 k ∙ ap (λ (l : List ℕ). 0 ∷ l) (zeros_written xs k (omega arith))

-- "and its counts": a count for each node, the number of its pages
pub counts_written : (counts table : List ℕ) → length table ≡ length counts
    → after_writes table (map (λ n. write n (get_or counts n 0)) (from 0 (length counts))) ≡ counts
unfolding after_writes from
counts_written [] [] e = refl
counts_written [] (x ∷ xs) e = absurd (omega arith)
counts_written (c ∷ cs) [] e = absurd (omega arith)
counts_written (c ∷ cs) (x ∷ xs) e =
    writes_shift (λ n. get_or (c ∷ cs) n 0) c xs 0 (length cs) ∙ ap (λ (l : List ℕ). c ∷ l) (counts_written cs xs (omega arith))

all_of : (P : ℕ → Bool) (a k : ℕ) → ((q : ℕ) → a ≤ q → q < a + k → P q ≡ true) → count P (from a k) ≡ k
unfolding count from
all_of P a zero h = refl
all_of P a (suc k) h = rw (h a (omega arith) (omega arith)) (omega (arith, all_of P (suc a) k (λ q l m. h q (omega arith) (omega arith))))

zero_front : (k : ℕ) (rest : List ℕ) (q : ℕ) → q < k → get_or (replicate k 0 ++ rest) q 1 ≡ 0
zero_front zero rest q h = absurd (omega arith)
zero_front (suc k) rest zero h = refl
zero_front (suc k) rest (suc q) h = zero_front k rest q (omega arith)

-- where every page of the machine is free, the counts are the page counts
pub all_free : (counts rest : List ℕ) → free_counts counts (replicate (sum counts) 0 ++ rest) ≡ counts
unfolding free_pages pages_of
all_free counts rest =
    ext_get_or 0 _ _ (free_counts_length counts (replicate (sum counts) 0 ++ rest))
    (λ n h. count_is counts (replicate (sum counts) 0 ++ rest) n
    ∙ length_keep (is_free (replicate (sum counts) 0 ++ rest)) (pages_of counts n)
    ∙ all_of (is_free (replicate (sum counts) 0 ++ rest)) (first_page counts n) (get_or counts n 0)
    (λ q l m. let o : PageOf counts n q = record { start = l; end = m } in eq-eqb _ 0 (zero_front (sum counts) rest q (page_lt o))))
