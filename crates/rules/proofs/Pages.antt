-- "Pages are numbered through: node 0 first, then node 1": each page below their number is of one node, and node_of_page finds it.
-- Assumes nothing.
use Prim.Native.Nat.{ℕ, zero, suc, ◌+◌, ◌-◌, ◌≤◌, ◌<◌}
use mathlib.Core.Path.{◌≡◌, refl, ap}
use mathlib.Core.Bool.{Bool, true, false, cond}
use mathlib.Core.List.{List, [], ◌∷◌}
use native.Mathlib.Omega.{arith}
use borrow.Author.Tests.{ltb-true, ltb-false, lt-ltb, le-ltb}
use lib.ListN.{length, get_or, take}
use lib.Dec.{ltb}
use Rattle.rules.specs.Basics.{sum}
use Rattle.rules.specs.Machine.{first_page, pages_of, node_of_page}
use Rattle.rules.proofs.Lists.{◌∈◌, from_member, member_from, sum_take_le, sum_take_suc}

-- page p is one of node n's
pub record PageOf (counts : List ℕ) (n p : ℕ) : Type 0 where
  pub start : first_page counts n ≤ p
  pub end : p < first_page counts n + get_or counts n 0

-- the pages of node n are those from its first on, as many as it has
pub member_page : (counts : List ℕ) (n : ℕ) {p : ℕ} → p ∈ pages_of counts n → PageOf counts n p
unfolding pages_of
member_page counts n h =
    let f = from_member (first_page counts n) (get_or counts n 0) h in
    record { start = f.0; end = f.1 }

-- and each page of node n is listed
pub page_member : {counts : List ℕ} {n p : ℕ} → PageOf counts n p → p ∈ pages_of counts n
unfolding pages_of
page_member {counts} {n} {p} o = member_from (first_page counts n) (get_or counts n 0) p o.start o.end

-- a node's page is below the number of pages
pub page_lt : {counts : List ℕ} {n p : ℕ} → PageOf counts n p → p < sum counts
unfolding first_page
page_lt {counts} {n} o = omega (arith, o.end, sum_take_suc n counts, sum_take_le (suc n) counts)

some_below : (xs : List ℕ) (n : ℕ) → 0 < get_or xs n 0 → n < length xs
some_below [] n h = absurd (omega arith)
some_below (x ∷ xs) zero h = omega arith
some_below (x ∷ xs) (suc n) h = omega (arith, some_below xs n h)

-- a node that has a page is a node of the machine
pub page_node_lt : {counts : List ℕ} {n p : ℕ} → PageOf counts n p → n < length counts
page_node_lt {counts} {n} o = some_below counts n (omega (arith, o.start, o.end))

node_found : (counts : List ℕ) (n p : ℕ) → sum (take n counts) ≤ p → p < sum (take n counts) + get_or counts n 0 → node_of_page counts p ≡ n
unfolding node_of_page sum
node_found [] zero p s e = absurd (omega arith)
node_found [] (suc n) p s e = absurd (omega arith)
node_found (c ∷ cs) zero p s e = rw (lt-ltb p c (omega arith))
node_found (c ∷ cs) (suc n) p s e = rw (le-ltb p c (omega arith)) (ap suc (node_found cs n (p - c) (omega arith) (omega arith)))

-- node_of_page finds the node that has the page
pub page_node : {counts : List ℕ} {n p : ℕ} → PageOf counts n p → node_of_page counts p ≡ n
unfolding first_page
page_node {counts} {n} {p} o = node_found counts n p o.start o.end

-- each page below the number of pages is of the node that node_of_page finds
pub node_page : (counts : List ℕ) (p : ℕ) → p < sum counts → PageOf counts (node_of_page counts p) p
unfolding sum first_page node_of_page
node_page [] p h = absurd (omega arith)
node_page (c ∷ cs) p h = go (ltb p c) refl (node_page cs (p - c))
  where
    go : (b : Bool) → ltb p c ≡ b → (p - c < sum cs → PageOf cs (node_of_page cs (p - c)) (p - c))
        → PageOf (c ∷ cs) (cond b 0 (suc (node_of_page cs (p - c)))) p
    go true e ih = record { start = omega arith; end = omega (arith, ltb-true p c e) }
    go false e ih =
        let l : c ≤ p = ltb-false p c e in
        let r = ih (omega arith) in
        record { start = omega (arith, r.start); end = omega (arith, r.end) }
