-- One move: the page that is left, the page that is taken, the page table and the hints after both are written.
-- Assumes nothing.
use Prim.Native.Nat.{ℕ, ◌+◌, ◌-◌, ◌%◌, ◌≤◌, ◌<◌}
use mathlib.Core.Path.{◌≡◌, refl, sym, ap, subst, ◌∙◌}
use mathlib.Core.Logic.{◌≢◌}
use mathlib.Core.Bool.{true≢false, cond}
use mathlib.Core.List.{List}
use mathlib.Core.Option.{none, some}
use native.Mathlib.Omega.{arith}
use lib.Dec.{eqb}
use lib.ListN.{length, get_or, set, length-set}
use lib.Seq.{set_comm}
use Rattle.rules.specs.Machine.{node_of_page}
use Rattle.rules.specs.Masks.{most_nodes}
use Rattle.rules.specs.SearchOrder.{colour_of, has_colour, pick_page}
use Rattle.rules.specs.Calls.{after_writes}
use Rattle.rules.specs.Drain.{move_writes}
use Rattle.rules.proofs.Pages.{PageOf, page_lt, page_node, page_node_lt}
use Rattle.rules.proofs.Picked.{PickedPage, picked_page}
use Rattle.placement.specs.Grants.{page_for, Ready, Paged}
use Rattle.placement.specs.Hints.{hint_at, all_pages, Hints, lowered}
use Rattle.placement.proofs.Grants.{page_room, none_room, first_is, end_is}
use Rattle.placement.proofs.Hints.{granted_hint, released_hint}
use Rattle.drain.specs.Moving.{Carries}
use Rattle.drain.specs.Reached.{move_by}

-- where each node's pages are, by what a grant may count on
pub ready_paged : {counts starts ledger : List ℕ} {j : ℕ} → Ready counts starts ledger j → Paged counts starts ledger
ready_paged r = record { few = r.few; pages = r.pages; begin = r.begin; fits = r.fits }

-- a page of a node, where each node's pages are
pub page_named : {counts starts ledger : List ℕ} {n p : ℕ} → Paged counts starts ledger → PageOf counts n p
    → (n < most_nodes) × (get_or starts n 0 ≤ p) × (p < 1048576)
page_named {n = n} g o =
    let l = page_node_lt o in
    (omega (arith, l, g.few), omega (arith, first_is g n l, o.start), omega (arith, page_lt o, g.pages))

-- the hints after a grant of the picked page, by where the nodes' pages start
pub granted_hints : {counts starts ledger hints : List ℕ} {j n p : ℕ} → Paged counts starts ledger → Hints counts ledger hints
    → PickedPage counts ledger j n p
    → Hints counts (set ledger p (j + 1))
    (cond (eqb ((p - get_or starts n 0) % 4) (j % 4))
    (set hints (hint_at n (j % 4)) (p + 1))
    (set (set hints (hint_at n all_pages) (p + 1)) (hint_at n (j % 4)) (get_or starts (n + 1) 0)))
unfolding has_colour colour_of
granted_hints {counts} {starts} {ledger} {hints} {j} {n} {p} g h f =
    let l = page_node_lt f.page.of_node in
    rw (first_is g n l, end_is g n l) (granted_hint counts ledger hints h j n p (j + 1) f (omega arith) _ refl)

-- and after a release
pub released_hints : {counts starts ledger hints : List ℕ} {n p : ℕ} → Paged counts starts ledger → Hints counts ledger hints → PageOf counts n p
    → Hints counts (set ledger p 0) (lowered (lowered hints (hint_at n all_pages) p) (hint_at n ((p - get_or starts n 0) % 4)) p)
unfolding colour_of
released_hints {counts} {starts} {ledger} {hints} {n} {p} g h o =
    rw (first_is g n (page_node_lt o)) (rw (page_node o) at (released_hint counts ledger hints h p (page_lt o)))

module _ {counts starts ledger free : List ℕ} {x p k byte : ℕ} (a : Carries counts starts ledger free x p k byte) where
  paged : Paged counts starts ledger
  paged = ready_paged a.ready

  -- the page that is left
  pub old_page : PageOf counts x p
  old_page = record { start = a.start; end = a.end }

  pub old_inside : p < length ledger
  old_inside = omega (arith, page_lt old_page, a.ready.fits)

  pub old_named : (x < most_nodes) × (get_or starts x 0 ≤ p) × (p < 1048576)
  old_named = page_named paged old_page

  -- there is one to take
  pub never_full : none ≡ page_for counts ledger (byte - 1) k → ⊥
  never_full e = true≢false (sym a.room ∙ none_room counts ledger (byte - 1) k e)

  module _ {new : ℕ} (e : some new ≡ page_for counts ledger (byte - 1) k) where
    -- the page that is taken
    pub taken : pick_page counts ledger (byte - 1) k ≡ new
    taken = (page_room counts ledger (byte - 1) k e).1

    new_picked : PickedPage counts ledger (byte - 1) k new
    new_picked = subst (PickedPage counts ledger (byte - 1) k) taken (picked_page counts ledger k (byte - 1) a.room)

    pub new_named : (k < most_nodes) × (get_or starts k 0 ≤ new) × (new < 1048576)
    new_named = page_named paged new_picked.page.of_node

    -- it is another page
    apart : new ≢ p
    apart q = a.other (sym (page_node new_picked.page.of_node) ∙ ap (node_of_page counts) q ∙ page_node old_page)

    -- the page table after both are written
    pub both_written : set (set ledger new (byte - 1 + 1)) p 0 ≡ after_writes ledger (move_writes (move_by counts ledger p k byte))
    unfolding after_writes
    both_written = rw taken (set_comm ledger new p (byte - 1 + 1) 0 apart)

    -- and the hints
    pub both_hinted : {hints mid last after : List ℕ} → Hints counts ledger hints
        → mid ≡ cond (eqb ((new - get_or starts k 0) % 4) ((byte - 1) % 4))
        (set hints (hint_at k ((byte - 1) % 4)) (new + 1))
        (set (set hints (hint_at k all_pages) (new + 1)) (hint_at k ((byte - 1) % 4)) (get_or starts (k + 1) 0))
        → last ≡ lowered (lowered mid (hint_at x all_pages) p) (hint_at x ((p - get_or starts x 0) % 4)) p
        → after ≡ after_writes ledger (move_writes (move_by counts ledger p k byte)) → Hints counts after last
    both_hinted {hints} {mid} h m l w =
        let marked = set ledger new (byte - 1 + 1) in
        let still : Paged counts starts marked = record {
          few = paged.few;
          pages = paged.pages;
          begin = paged.begin;
          fits = rw (length-set ledger new (byte - 1 + 1)) paged.fits;
        } in
        let then : Hints counts marked mid = rw m (granted_hints paged h new_picked) in
        rw (w, l, ← both_written) (released_hints still then old_page)
