-- M-105, "Page colours": the page that a node grants is free, its own, of the job's colour whenever it has a free page of it, and the lowest such.
-- Assumes nothing.
use Prim.Native.Nat.{ℕ, ◌≤◌}
use mathlib.Core.Path.{◌≡◌, refl, sym, ap, subst, ◌∙◌}
use mathlib.Core.Bool.{Bool, true, false, ◌&&◌, true≢false}
use mathlib.Core.List.Memᴰ
use mathlib.Core.List.{List, [], ◌∷◌}
use mathlib.Core.Option.{some}
use borrow.Author.Tests.{eqb-true, eq-eqb, not-true}
use Rattle.rules.specs.Basics.{keep, first, first_or}
use Rattle.rules.specs.Machine.{pages_of}
use Rattle.rules.specs.SearchOrder.{free_pages, has_room, has_colour, pick_page}
use Rattle.rules.specs.Uncoloured.{lowest_page}
use Rattle.rules.proofs.Admission.{FreePage, is_free}
use Rattle.rules.proofs.Lists.{◌∈◌, both_true, both_hold, keep_keep, member_keep, FirstOf, first_keep, first_member, first_some}
use Rattle.rules.proofs.Pages.{member_page, page_member}
use Rattle.rules.proofs.Sorted.{first_least}

-- "its lowest free page"
pub record LowestFree (counts ledger : List ℕ) (n p : ℕ) : Type 0 where
  pub page : FreePage counts ledger n p
  pub lowest : (q : ℕ) → FreePage counts ledger n q → p ≤ q

-- "the lowest free page whose offset in its node, mod 4, equals the job number mod 4; failing that, the lowest free page"
pub record PickedPage (counts ledger : List ℕ) (j n p : ℕ) : Type 0 where
  pub page : FreePage counts ledger n p
  pub coloured : (q : ℕ) → FreePage counts ledger n q → has_colour counts j n q ≡ true → (has_colour counts j n p ≡ true) × (p ≤ q)
  pub other : has_colour counts j n p ≡ false → LowestFree counts ledger n p

module _ (counts ledger : List ℕ) (n : ℕ) where
  first_lowest : (p : ℕ) → FirstOf (is_free ledger) (pages_of counts n) p → LowestFree counts ledger n p
  unfolding pages_of
  first_lowest p f = record {
    page = record { of_node = member_page counts n (first_member f); free = eqb-true _ 0 f.passes };
    lowest = λ q g. first_least _ _ f q (page_member g.of_node) (eq-eqb _ 0 g.free);
  }

  -- 01's page, whichever job asks
  pub lowest_page_lem : has_room counts ledger n ≡ true → LowestFree counts ledger n (lowest_page counts ledger n)
  unfolding has_room free_pages lowest_page
  lowest_page_lem e = first_lowest _ (first_keep (is_free ledger) (pages_of counts n) (first_some (free_pages counts ledger n) 0 (not-true _ e)))

  -- a free page of the job's colour is one of those that are looked at first
  coloured_member : (j q : ℕ) → FreePage counts ledger n q → has_colour counts j n q ≡ true
      → q ∈ keep (has_colour counts j n) (free_pages counts ledger n)
  unfolding free_pages
  coloured_member j q g c = member_keep (has_colour counts j n) (member_keep (is_free ledger) (page_member g.of_node) (eq-eqb _ 0 g.free)) c

  -- the first of them is the lowest
  first_coloured : (j x : ℕ) → first (keep (has_colour counts j n) (free_pages counts ledger n)) ≡ some x → PickedPage counts ledger j n x
  unfolding free_pages pages_of
  first_coloured j x e =
      let f : FirstOf test (pages_of counts n) x =
      first_keep test (pages_of counts n) (ap first (sym (keep_keep (is_free ledger) (has_colour counts j n) (pages_of counts n))) ∙ e) in
      let b = both_true {a = is_free ledger x} {b = has_colour counts j n x} f.passes in
      record {
        page = record { of_node = member_page counts n (first_member f); free = eqb-true _ 0 b.0 };
        coloured = λ q g c. (b.1, first_least _ _ f q (page_member g.of_node) (both_hold (eq-eqb _ 0 g.free) c));
        other = λ c. absurd (true≢false (sym b.1 ∙ c));
      }
    where
      test : ℕ → Bool
      test p = is_free ledger p && has_colour counts j n p

  -- a node with room gives that page
  pub picked_page : (j : ℕ) → has_room counts ledger n ≡ true → PickedPage counts ledger j n (pick_page counts ledger j n)
  unfolding pick_page lowest_page first first_or
  picked_page j room = go (keep (has_colour counts j n) (free_pages counts ledger n)) refl
    where
      low : LowestFree counts ledger n (lowest_page counts ledger n)
      low = lowest_page_lem room

      go : (l : List ℕ) → keep (has_colour counts j n) (free_pages counts ledger n) ≡ l
          → PickedPage counts ledger j n (first_or l (lowest_page counts ledger n))
      go [] e = record {
        page = low.page;
        coloured = λ q g c. absurd (Memᴰ.not-nil (subst (λ (l : List ℕ). q ∈ l) e (coloured_member j q g c)));
        other = λ c. low;
      }
      go (x ∷ xs) e = first_coloured j x (ap first e)
