-- The counts match: node by node.
-- Assumes nothing.
use Prim.Native.Nat.{ℕ, ◌+◌, ◌-◌, ◌<◌}
use mathlib.Core.Path.{◌≡◌, sym, ap, ◌∙◌}
use mathlib.Core.Logic.{◌≢◌}
use mathlib.Core.Bool.{true, false}
use mathlib.Core.List.{List}
use native.Mathlib.Omega.{arith}
use lib.ListN.{length, get_or, take, drop}
use lib.Seq.{ext_get_or}
use Rattle.rules.specs.Basics.{same}
use Rattle.rules.specs.Machine.{first_page, pages_of}
use Rattle.rules.specs.SearchOrder.{free_pages, free_counts}
use Rattle.rules.proofs.Lists.{fails, same_self, same_lists}
use Rattle.rules.proofs.FreeCounts.{free_counts_length, count_is}
use Rattle.pages.specs.FirstZero.{zeros}
use Rattle.pages.proofs.Zeros.{zeros_free}
use Rattle.placement.specs.Grants.{Paged}
use Rattle.placement.proofs.Grants.{first_is, end_is, inside}

-- as many of a node's pages are free as bytes of its part are 0
pub free_is : {counts starts ledger : List ℕ} (p : Paged counts starts ledger) (n : ℕ) → n < length counts
    → zeros (take (get_or starts (n + 1) 0 - get_or starts n 0) (drop (get_or starts n 0) ledger)) ≡ length (free_pages counts ledger n)
unfolding free_pages pages_of
free_is {counts} {starts} {ledger} p n l =
    let f = first_is p n l in
    let e = end_is p n l in
    let i = inside p n l in
    let size : get_or starts (n + 1) 0 - get_or starts n 0 ≡ get_or counts n 0 = omega arith in
    rw (size, f) (sym (zeros_free ledger (first_page counts n) (get_or counts n 0) (omega (arith, e, i.1))))

module _ (counts ledger free : List ℕ) where
  -- every count is right
  pub match_all : length free ≡ length counts → ((k : ℕ) → k < length counts → get_or free k 0 ≡ length (free_pages counts ledger k))
      → same free (free_counts counts ledger) ≡ true
  match_all long h =
      let equal : free ≡ free_counts counts ledger =
      ext_get_or 0 free (free_counts counts ledger) (long ∙ sym (free_counts_length counts ledger))
      (λ k l. h k (omega (arith, long)) ∙ sym (count_is counts ledger k)) in
      rw equal (same_self (free_counts counts ledger))

  -- one is wrong
  pub match_not : (k : ℕ) → get_or free k 0 ≢ length (free_pages counts ledger k) → same free (free_counts counts ledger) ≡ false
  match_not k d = fails (λ e. d (ap (λ (f : List ℕ). get_or f k 0) (same_lists free (free_counts counts ledger) e) ∙ count_is counts ledger k))
