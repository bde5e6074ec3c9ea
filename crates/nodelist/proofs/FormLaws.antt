-- What each form of a node-list text gives is what document 01 says of it.
-- Assumes nothing.
use mathlib.Core.Path.{◌≡◌, refl, sym, ap, subst, ◌∙◌}
use mathlib.Core.Bool.{Bool, true, false, not, ◌&&◌, cond, false≢true}
use mathlib.Core.List.{List, [], ◌∷◌}
use mathlib.Core.Option.{none, some}
use Prim.Native.Nat.{ℕ, ◌-◌, ◌^◌, ◌≤◌, ◌<◌}
use native.Mathlib.Nat.{le_refl, lt_irrefl}
use native.Mathlib.Omega.{arith}
use lib.ListN.{length, get_or, take, drop, length-drop}
use lib.Seq.{take_all}
use lib.Dec.{eqb}
use lib.Pointwise.{pointwise}
use borrow.Author.Tests.{eq-eqb, ne_eqb, le-leb, lt-leb}
use Rattle.rules.specs.Basics.{same}
use Rattle.rules.specs.Machine.{nodes_ok}
use Rattle.rules.specs.Decisions.{refuse, accept, unless}
use Rattle.rules.specs.Masks.{most_nodes, below, has, all_nodes, rank, size, mask_of}
use Rattle.rules.specs.Text.{bang, plus, all_word, longest_text, is_items, names, no_text, allText, items, except, ranks, form_by, form_of, form_ok}
use Rattle.rules.specs.Text.{form_mask}
use Rattle.rules.specs.Text.{read_text}
use Rattle.rules.proofs.Lists.{fails}
use Rattle.rules.proofs.Masks.{not_in, bit_above, rank_le, mask_of_lt, has_mask_of, mask_of_same, mask_of_narrow, mask_of_not}
use Rattle.nodelist.proofs.Items.{names_below}
use Rattle.nodemask.specs.Ranks.{ranked_in}
use Rattle.nodelist.specs.Reader.{items_read}
use Rattle.nodelist.specs.Forms.{Below, except_for, ranked_for, form_read, decided}

-- ---- the word `all`

-- texts that are compared byte by byte
pub same_pointwise : (xs ys : List ℕ) → pointwise eqb xs ys ≡ same xs ys
unfolding same
same_pointwise [] [] = refl
same_pointwise [] (y ∷ ys) = refl
same_pointwise (x ∷ xs) [] = refl
same_pointwise (x ∷ xs) (y ∷ ys) = ap (λ (t : Bool). eqb x y && t) (same_pointwise xs ys)

-- ---- which form a text has

-- "Empty text is the empty set"
pub form_none : (text : List ℕ) → length text ≡ 0 → form_of text ≡ no_text
unfolding form_of
form_none [] e = refl
form_none (x ∷ xs) e = absurd (omega arith)

-- "`all` is the allowed set"
pub form_all : (text : List ℕ) → same text all_word ≡ true → form_of text ≡ allText
unfolding form_of form_by same
form_all [] e = absurd (false≢true e)
form_all (x ∷ xs) e = rw e

-- "an optional `!`"
pub form_except : (text : List ℕ) → 0 < length text → same text all_word ≡ false → get_or text 0 0 ≡ bang → form_of text ≡ except (drop 1 text)
unfolding form_of form_by
form_except [] l e b = absurd (omega arith)
form_except (x ∷ xs) l e b = rw (e, eq-eqb x bang b)

-- "or `+`"
pub form_ranks : (text : List ℕ) → 0 < length text → same text all_word ≡ false → get_or text 0 0 ≡ plus → form_of text ≡ ranks (drop 1 text)
unfolding form_of form_by
form_ranks [] l e p = absurd (omega arith)
form_ranks (x ∷ xs) l e p = rw (e, ne_eqb x bang (λ b. omega arith), eq-eqb x plus p)

-- "then one or more items"
pub form_items : (text : List ℕ) → 0 < length text → same text all_word ≡ false → (get_or text 0 0 ≡ bang → ⊥) → (get_or text 0 0 ≡ plus → ⊥)
    → form_of text ≡ items text
unfolding form_of form_by
form_items [] l e b p = absurd (omega arith)
form_items (x ∷ xs) l e b p = rw (e, ne_eqb x bang b, ne_eqb x plus p)

-- ---- what a form gives

-- where all are items, their mask needs no more bits than the limit
named_narrow : (n : ℕ) (text : List ℕ) → n ≤ most_nodes → is_items n text ≡ true → mask_of most_nodes (names text) ≡ mask_of n (names text)
named_narrow n text l e = mask_of_narrow (names text) l (λ k h. fails (λ t. lt_irrefl n (omega (arith, names_below n text k e t))))

-- numbers read below n make a mask of n bits
pub items_below : (n : ℕ) (text : List ℕ) → n ≤ most_nodes → Below n (items_read n text)
unfolding items_read
items_below n text l = go (is_items n text) refl
  where
    go : (b : Bool) → is_items n text ≡ b → Below n (cond b (some (mask_of most_nodes (names text))) none)
    go true e = subst (λ (x : ℕ). x < 2 ^ n) (sym (named_narrow n text l e)) (mask_of_lt n (names text))
    go false e = tt

-- items
pub read_plain : (n allowed : ℕ) (text : List ℕ) → n ≤ most_nodes → items_read n text ≡ form_read n allowed (items text)
unfolding items_read form_read form_ok form_mask
read_plain n allowed text l = go (is_items n text) refl
  where
    go : (b : Bool) → is_items n text ≡ b → cond b (some (mask_of most_nodes (names text))) none ≡ cond b (some (mask_of n (names text))) none
    go true e = ap some (named_narrow n text l e)
    go false e = refl

-- "`!` takes all nodes below N not named"
pub read_except : (n allowed : ℕ) (text : List ℕ) → n ≤ most_nodes → except_for n (items_read n text) ≡ form_read n allowed (except text)
unfolding items_read form_read form_ok form_mask
read_except n allowed text l = go (is_items n text) refl
  where
    go : (b : Bool) → is_items n text ≡ b
        → except_for n (cond b (some (mask_of most_nodes (names text))) none) ≡ cond b (some (mask_of n (λ k. not (names text k)))) none
    go true e = ap some (ap (λ (x : ℕ). all_nodes n - x) (named_narrow n text l e) ∙ mask_of_not n (names text))
    go false e = refl

-- "after `+` they are ranks in the allowed set, below its size"
pub read_ranks : (n allowed : ℕ) (text : List ℕ) → n ≤ most_nodes → allowed < 2 ^ n
    → ranked_for allowed (items_read (size most_nodes allowed) text) ≡ form_read n allowed (ranks text)
unfolding items_read form_read form_ok form_mask ranked_in
read_ranks n allowed text l small = go (is_items (size most_nodes allowed) text)
  where
    member : (k : ℕ) → k < most_nodes → (has allowed k && has (mask_of most_nodes (names text)) (rank allowed k)) ≡
        (has allowed k && names text (rank allowed k))
    member k h = ap (λ (t : Bool). has allowed k && t) (has_mask_of most_nodes (names text) (rank allowed k) (omega (arith, rank_le allowed k)))

    -- no node from N on is allowed
    past : (k : ℕ) → n ≤ k → (has allowed k && names text (rank allowed k)) ≡ false
    past k h = ap (λ (t : Bool). t && names text (rank allowed k)) (not_in allowed k (bit_above n allowed k small h))

    go : (b : Bool)
        → ranked_for allowed (cond b (some (mask_of most_nodes (names text))) none)
        ≡ cond b (some (mask_of n (λ k. has allowed k && names text (rank allowed k)))) none
    go true =
        ap some
        (mask_of_same most_nodes (λ k. has allowed k && has (mask_of most_nodes (names text)) (rank allowed k))
        (λ k. has allowed k && names text (rank allowed k)) member
        ∙ mask_of_narrow (λ k. has allowed k && names text (rank allowed k)) l past)
    go false = refl

-- the part of a text past its first byte
pub past_mark : (text : List ℕ) → take (length text - 1) (drop 1 text) ≡ drop 1 text
past_mark text = take_all (length text - 1) (drop 1 text) (simp length-drop (le_refl (length text - 1)))

-- ---- "N outside 1 to 64 is refusal 1, allowed .. bits at N or above 6, both tested first"

module _ (n allowed : ℕ) (text : List ℕ) where
  -- N is not in order
  pub refused_nodes : nodes_ok n ≡ false → read_text n allowed text ≡ refuse 1
  unfolding read_text
  refused_nodes e = rw e

  -- the allowed mask has bits at N or above
  pub refused_allowed : nodes_ok n ≡ true → below n allowed ≡ false → read_text n allowed text ≡ refuse 6
  unfolding read_text
  refused_allowed e f = rw (e, f)

  -- "Up to 255 bytes, longer is 12"
  pub refused_length : nodes_ok n ≡ true → below n allowed ≡ true → longest_text < length text → read_text n allowed text ≡ refuse 12
  unfolding read_text
  refused_length e f l = rw (e, f, lt-leb (length text) longest_text l)

  -- else the form decides
  pub decided_form : nodes_ok n ≡ true → below n allowed ≡ true → length text ≤ longest_text
      → read_text n allowed text ≡ decided (form_read n allowed (form_of text))
  unfolding read_text form_read
  decided_form e f l = rw (e, f, le-leb (length text) longest_text l) (go (form_ok n allowed (form_of text)))
    where
      go : (b : Bool) → unless b 12 (accept (form_mask n allowed (form_of text))) ≡ decided (cond b (some (form_mask n allowed (form_of text))) none)
      go true = refl
      go false = refl
