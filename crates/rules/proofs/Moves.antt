-- M-107: what one move of a drain says, and what some moves leave: the pages that are still to move, and counts that match.
-- Assumes nothing.
use Prim.Native.Nat.{ℕ, ◌+◌, ◌-◌, ◌<◌, ◌≤◌}
use mathlib.Core.Path.{◌≡◌, refl, sym, ap, ap₂, subst, ◌∙◌}
use mathlib.Core.Logic.{◌≢◌, ⊎_elim}
use mathlib.Core.Bool.{Bool, true, not, ◌&&◌}
use mathlib.Core.Option.{Option, none, some}
use mathlib.Core.List.Memᴰ
use mathlib.Core.List.{List, [], ◌∷◌}
use native.Mathlib.Omega.{arith}
use borrow.Author.Tests.{eqb-true, eqb-false, not-true}
use lib.Dec.{eqb}
use lib.ListN.{length, get_or, set, length-set}
use lib.Seq.{get_or-set_other}
use Rattle.rules.specs.Basics.{keep, first, each, from, sum}
use Rattle.rules.specs.Machine.{first_page, pages_of, node_of_page}
use Rattle.rules.specs.Masks.{most_nodes, has, mask_of}
use Rattle.rules.specs.SearchOrder.{has_room, free_counts, pick_page}
use Rattle.rules.specs.Decisions.{accept}
use Rattle.rules.specs.Calls.{Tables, after_writes, limit_of}
use Rattle.rules.specs.Drain.{Move, held_pages, without, targets, is_movable, goal, move_to, move_of, move_writes, moved, moves, recounts_of}
use Rattle.rules.specs.FreeCounts.{Matches}
use Rattle.rules.proofs.Decisions.{not_accepted, passed, went_on}
use Rattle.rules.proofs.FreeCounts.{count_granted, count_released}
use Rattle.rules.proofs.Lists.{◌∈◌, both_true, keep_member, entry_same, in_table_lem, FirstOf, first_keep, first_member}
use Rattle.rules.proofs.Masks.{below_width, mask_of_lt, has_mask_of}
use Rattle.rules.proofs.Near.{near_members}
use Rattle.rules.proofs.Pages.{PageOf, member_page, page_lt, page_node}
use Rattle.rules.proofs.Picked.{PickedPage, picked_page}
use Rattle.rules.proofs.Sorted.{Sorted, sorted_head, sorted_tail, sorted_keep, sorted_from}

-- ---- the targets

-- "without x": a node of the set, and another than x
pub without_has : (set x k : ℕ) → has (without set x) k ≡ true → (has set k ≡ true) × (k ≢ x)
unfolding without
without_has set x k h =
    let test : ℕ → Bool = λ k. has set k && not (eqb k x) in
    let l = below_width most_nodes (mask_of most_nodes test) k (mask_of_lt most_nodes test) (eqb-true _ _ h) in
    let b = both_true {a = has set k} (sym (has_mask_of most_nodes test k l) ∙ h) in
    (b.0, eqb-false k x (not-true (eqb k x) b.1))

-- a node that a page of x may go to
pub record Target (n limit x k : ℕ) : Type 0 where
  pub other : k ≢ x
  pub node : k < n
  pub allowed : has limit k ≡ true

pub target_is : (n : ℕ) (distances : List ℕ) (limit x k : ℕ) → k ∈ targets n distances limit x → Target n limit x k
unfolding targets
target_is n distances limit x k h =
    ⊎_elim
    (λ q. absurd ((without_has limit x x q.1).1 refl))
    (λ r. let w = without_has limit x k r.allowed in record { other = w.1; node = r.is_node; allowed = w.0 })
    ((near_members n distances (without limit x) x k).0 h)

-- ---- one move

-- What the move of page p of node x says.
pub record MoveIs (counts distances : List ℕ) (t : Tables) (x p : ℕ) (v : Move) : Type 0 where
  pub old : v.old ≡ p
  pub job : v.job ≡ get_or t.ledger p 0 - 1
  pub movable : is_movable (length counts) t v.job ≡ true
  pub first_room : FirstOf (has_room counts t.ledger) (targets (length counts) distances (limit_of t v.job) x) v.node
  pub target : Target (length counts) (limit_of t v.job) x v.node
  pub new : v.new ≡ pick_page counts t.ledger v.job v.node
  pub picked : PickedPage counts t.ledger v.job v.node v.new

module _ (counts distances : List ℕ) (t : Tables) (x p : ℕ) where
  pub move_is : {v : Move} → move_of counts distances t x p ≡ accept v → MoveIs counts distances t x p v
  unfolding move_of move_to goal
  move_is {v} e =
      let j = get_or t.ledger p 0 - 1 in
      let a = passed (is_movable (length counts) t j) 17 _ e in
      go (first (keep (has_room counts t.ledger) (targets (length counts) distances (limit_of t j) x))) refl a.0 a.1
    where
      go : (o : Option ℕ) → goal counts distances t x (get_or t.ledger p 0 - 1) ≡ o → is_movable (length counts) t (get_or t.ledger p 0 - 1) ≡ true
          → move_to counts t p (get_or t.ledger p 0 - 1) o ≡ accept v → MoveIs counts distances t x p v
      go none g m e = absurd (not_accepted 17 _ refl e)
      go (some n) g m e =
          let j = get_or t.ledger p 0 - 1 in
          let f = first_keep (has_room counts t.ledger) (targets (length counts) distances (limit_of t j) x) g in
          let is : v ≡ record { old = p; new = pick_page counts t.ledger j n; node = n; job = j } = cc in
          rw is record {
            old = refl;
            job = refl;
            movable = m;
            first_room = f;
            target = target_is (length counts) distances (limit_of t j) x n (first_member f);
            new = refl;
            picked = picked_page counts t.ledger n j f.passes;
          }

-- a held page of node x that is in the table
pub record HeldPage (counts ledger : List ℕ) (x p : ℕ) : Type 0 where
  pub of_node : PageOf counts x p
  pub in_table : p < length ledger
  pub held : get_or ledger p 0 ≢ 0

module _ {counts distances : List ℕ} {t : Tables} {x p : ℕ} {v : Move} (h : HeldPage counts t.ledger x p) (m : MoveIs counts distances t x p v) where
  -- the page that is taken is in the table
  pub new_in_table : v.new < length t.ledger
  new_in_table = in_table_lem t.ledger v.new 1 0 m.picked.page.free (λ z. omega arith)

  -- it is no page of x
  pub new_elsewhere : (q : ℕ) → PageOf counts x q → q ≢ v.new
  new_elsewhere q o e = m.target.other (sym (page_node m.picked.page.of_node) ∙ ap (λ (r : ℕ). node_of_page counts r) (sym e) ∙ page_node o)

  -- the table keeps its length
  pub moved_length : length (moved x t v).ledger ≡ length t.ledger
  unfolding moved after_writes
  moved_length = length-set (set t.ledger v.old 0) v.new (v.job + 1) ∙ length-set t.ledger v.old 0

  -- the other pages of x keep their bytes
  pub others_kept : (q : ℕ) → PageOf counts x q → q ≢ p → get_or (moved x t v).ledger q 0 ≡ get_or t.ledger q 0
  unfolding moved after_writes
  others_kept q o d =
      get_or-set_other (set t.ledger v.old 0) v.new q (v.job + 1) 0 (new_elsewhere q o)
      ∙ get_or-set_other t.ledger v.old q 0 0 (λ e. d (e ∙ m.old))

  -- "Under M-100 the counts follow each move": they match afterwards
  pub moved_matches : Matches counts t → Matches counts (moved x t v)
  unfolding moved after_writes
  moved_matches a =
      let left = set t.ledger v.old 0 in
      let there : v.old < length t.ledger = rw m.old h.in_table in
      let held : get_or t.ledger v.old 1 ≢ 0 = λ z. h.held (rw (sym m.old) (entry_same t.ledger v.old 0 1 there ∙ z)) in
      let page : PageOf counts x v.old = subst (PageOf counts x) (sym m.old) h.of_node in
      let freed : set t.free x (get_or t.free x 0 + 1) ≡ free_counts counts left =
      ap (λ (f : List ℕ). set f x (get_or f x 0 + 1)) a ∙ count_released counts t.ledger x v.old page there held in
      let same : get_or t.free v.node 0 ≡ get_or (free_counts counts left) v.node 0 =
      sym (get_or-set_other t.free x v.node (get_or t.free x 0 + 1) 0 m.target.other) ∙ ap (λ (f : List ℕ). get_or f v.node 0) freed in
      let free : get_or left v.new 1 ≡ 0 =
      get_or-set_other t.ledger v.old v.new 0 1 (λ e. new_elsewhere v.old page (sym e)) ∙ m.picked.page.free in
      ap₂ (λ (f : List ℕ) (c : ℕ). set f v.node (c - 1)) freed same
      ∙ count_granted counts left v.node v.new v.job m.picked.page.of_node (rw (length-set t.ledger v.old 0) new_in_table) free

-- ---- the pages that are still to move

-- Some pages of node x, each held, from the lowest up.
pub record Queue (counts ledger : List ℕ) (x : ℕ) (ps : List ℕ) : Type 0 where
  pub each_held : (p : ℕ) → p ∈ ps → HeldPage counts ledger x p
  pub rising : Sorted (λ p q. p < q) ps

-- "x's held pages from the lowest up" are so
pub held_queue : (counts ledger : List ℕ) (x : ℕ) → sum counts ≤ length ledger → Queue counts ledger x (held_pages counts ledger x)
unfolding held_pages pages_of
held_queue counts ledger x l = record {
  each_held = λ p i.
      let k = keep_member (λ p. not (eqb (get_or ledger p 0) 0)) (from (first_page counts x) (get_or counts x 0)) i in
      let o = member_page counts x (unfold pages_of in k.0) in
      record { of_node = o; in_table = omega (arith, page_lt o); held = eqb-false _ 0 (not-true _ k.1) };
  rising = sorted_keep _ (sorted_from (first_page counts x) (get_or counts x 0));
}

module _ {counts distances : List ℕ} {t : Tables} {x p : ℕ} {ps : List ℕ} {v : Move} (q : Queue counts t.ledger x (p ∷ ps))
    (m : MoveIs counts distances t x p v) where
  -- the first of them
  pub queue_first : HeldPage counts t.ledger x p
  queue_first = q.each_held p (Memᴰ.head refl)

  -- and those that are left after its move
  pub queue_rest : Queue counts (moved x t v).ledger x ps
  queue_rest = record {
    each_held = λ r i.
        let h = q.each_held r (Memᴰ.tail i) in
        let apart : r ≢ p = λ e. let l = sorted_head q.rising r i in omega arith in
        record {
          of_node = h.of_node;
          in_table = rw (moved_length queue_first m) h.in_table;
          held = λ z. h.held (sym (others_kept queue_first m r h.of_node apart) ∙ z);
        };
    rising = sorted_tail q.rising;
  }

-- ---- all moves

-- the first of some moves, and the others
pub moves_cons : (counts distances : List ℕ) (x : ℕ) (t : Tables) (p : ℕ) (ps : List ℕ) {vs : List Move}
    → moves counts distances x t (p ∷ ps) ≡ accept vs
    → (v : Move) × (ws : List Move) × (vs ≡ v ∷ ws) × (move_of counts distances t x p ≡ accept v) × (moves counts distances x (moved x t v) ps ≡ accept ws)
unfolding moves
moves_cons counts distances x t p ps {vs} e =
    let a = went_on (move_of counts distances t x p) _ e in
    let b = went_on (moves counts distances x (moved x t a.0) ps) _ a.2 in
    let is : vs ≡ a.0 ∷ b.0 = cc in
    (a.0, b.0, is, a.1, b.1)

-- no page, no move
pub moves_nil : (counts distances : List ℕ) (x : ℕ) (t : Tables) {vs : List Move} → moves counts distances x t [] ≡ accept vs → vs ≡ []
unfolding moves
moves_nil counts distances x t {vs} e = cc

-- "the counts follow each move": what they set is what the pages that were written count
pub moves_match : (counts distances : List ℕ) (x : ℕ) (t : Tables) (ps : List ℕ) (vs : List Move) → Queue counts t.ledger x ps
    → moves counts distances x t ps ≡ accept vs → Matches counts t
    → after_writes t.free (recounts_of x t.free vs) ≡ free_counts counts (after_writes t.ledger (each move_writes vs))
unfolding recounts_of each after_writes moved
moves_match counts distances x t [] vs q e a = rw (moves_nil counts distances x t e) a
moves_match counts distances x t (p ∷ ps) vs q e a =
    let c = moves_cons counts distances x t p ps e in
    let m = move_is counts distances t x p c.3 in
    let h = queue_first q m in
    rw c.2 (moves_match counts distances x (moved x t c.0) ps c.1 (queue_rest q m) c.4 (moved_matches h m a))
