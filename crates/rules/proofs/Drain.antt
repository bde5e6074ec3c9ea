-- M-107, "Drain a board": what a drain that is done leaves: the total of each job, node x empty, counts that match; and which pages it moved.
-- Assumes nothing.
use Prim.Native.Nat.{ℕ, suc, ◌+◌, ◌*◌, ◌<◌}
use mathlib.Core.Path.{◌≡◌, refl, sym, ap, ap₂, subst, ◌∙◌}
use mathlib.Core.Logic.{◌↔◌, ◌≢◌, ⊎_elim}
use mathlib.Core.Bool.{Bool, true, not}
use mathlib.Core.List.Memᴰ
use mathlib.Core.List.{List, [], ◌∷◌, map}
use native.Mathlib.Decide.{ℕ_discrete}
use native.Mathlib.Omega.{arith}
use borrow.Author.Tests.{eq-eqb, ne_eqb}
use lib.Dec.{eqb}
use lib.ListN.{length, get_or, set, length-set}
use lib.Seq.{get_or-set_same, get_or-set_other}
use Rattle.rules.specs.Basics.{each, from, sum, same}
use Rattle.rules.specs.Machine.{pages_of}
use Rattle.rules.specs.SearchOrder.{free_counts}
use Rattle.rules.specs.Decisions.{accept}
use Rattle.rules.specs.Calls.{Tables, after_writes, after_stores, after_remaps, applied}
use Rattle.rules.specs.Drain.{Move, held_pages, moved, moves, recounts_of, draining, pairs, counts_match, pages_held}
use Rattle.rules.specs.FreeCounts.{Matches}
use Rattle.rules.proofs.Calls.{DrainPasses}
use Rattle.rules.proofs.FreeCounts.{length_keep, one_more}
use Rattle.rules.proofs.InOrder.{pages_in_order_lem, drain_fresh_ok}
use Rattle.rules.proofs.Lists.{◌∈◌, keep_same, none_keep, member_keep, entry_same, same_self, same_lists}
use Rattle.rules.proofs.Moves.{MoveIs, move_is, HeldPage, new_in_table, new_elsewhere, others_kept, Queue, held_queue, queue_first, queue_rest}
use Rattle.rules.proofs.Moves.{moves_cons, moves_nil, moves_match}
use Rattle.rules.proofs.Pages.{PageOf, member_page, page_lt}

-- the tables after some moves of pages of node x
abbrev pub after_moves : ℕ → Tables → List Move → Tables
after_moves x t vs = (applied t (accept (draining x t vs))).tables

-- those after a move and some others are those after the others, from the tables that the move left
pub after_cons : (x : ℕ) (t : Tables) (v : Move) (vs : List Move) → after_moves x t (v ∷ vs) ≡ after_moves x (moved x t v) vs
unfolding applied after_writes after_stores after_remaps each recounts_of moved
after_cons x t v vs = refl

-- no move, no change
pub after_nil : (x : ℕ) (t : Tables) → after_moves x t [] ≡ t
unfolding applied after_writes after_stores after_remaps each recounts_of
after_nil x t = refl

-- ---- the pages of a job, where one byte of the page table changes

module _ (counts ledger : List ℕ) (p b j : ℕ) (there : p < length ledger) where
  after : List ℕ
  after = set ledger p b

  is_held : List ℕ → ℕ → Bool
  is_held table q = eqb (get_or table q 0) (j + 1)

  elsewhere : (q : ℕ) → q ≢ p → is_held ledger q ≡ is_held after q
  unfolding is_held after
  elsewhere q d = ap (λ (c : ℕ). eqb c (j + 1)) (sym (get_or-set_other ledger p q b 0 d))

  -- it was not the job's and is not: the job has as many
  as_many_held : get_or ledger p 0 ≢ j + 1 → b ≢ j + 1 → pages_held counts (set ledger p b) j ≡ pages_held counts ledger j
  unfolding pages_held is_held after
  as_many_held was is =
      sym (length_keep (is_held after) (from 0 (sum counts)))
      ∙ ap length (keep_same (is_held after) (is_held ledger) (from 0 (sum counts)) (λ q. sym (go q (ℕ_discrete q p))))
      ∙ length_keep (is_held ledger) (from 0 (sum counts))
    where
      go : (q : ℕ) → Dec (q ≡ p) → is_held ledger q ≡ is_held after q
      go q (yes e) =
          rw e (ne_eqb (get_or ledger p 0) (j + 1) was ∙ sym (ne_eqb (get_or after p 0) (j + 1) (λ z. is (sym (get_or-set_same ledger p b 0 there) ∙ z))))
      go q (no d) = elsewhere q d

  -- it was the job's and is not: one less
  one_less_held : p < sum counts → get_or ledger p 0 ≡ j + 1 → b ≢ j + 1 → pages_held counts ledger j ≡ suc (pages_held counts (set ledger p b) j)
  unfolding pages_held is_held after
  one_less_held l was is =
      one_more (is_held ledger) (is_held after) p elsewhere 0 (sum counts) (omega arith) (omega arith) (eq-eqb _ (j + 1) was)
      (ne_eqb (get_or after p 0) (j + 1) (λ z. is (sym (get_or-set_same ledger p b 0 there) ∙ z)))

  -- it was not the job's and is: one more
  one_more_held : p < sum counts → get_or ledger p 0 ≢ j + 1 → b ≡ j + 1 → pages_held counts (set ledger p b) j ≡ suc (pages_held counts ledger j)
  unfolding pages_held is_held after
  one_more_held l was is =
      one_more (is_held after) (is_held ledger) p (λ q d. sym (elsewhere q d)) 0 (sum counts) (omega arith) (omega arith)
      (eq-eqb _ (j + 1) (get_or-set_same ledger p b 0 there ∙ is)) (ne_eqb (get_or ledger p 0) (j + 1) was)

-- ---- one move

module _ {counts distances : List ℕ} {t : Tables} {x p : ℕ} {v : Move} (h : HeldPage counts t.ledger x p) (m : MoveIs counts distances t x p v) where
  -- "j + 1 is held by job j": the page's byte
  pub holder_byte : get_or t.ledger p 0 ≡ v.job + 1
  holder_byte = omega (arith, m.job, h.held)

  -- "The total held by each job stays the same": the job of the page has one less and then one more
  total_kept : (j : ℕ) → pages_held counts (moved x t v).ledger j ≡ pages_held counts t.ledger j
  unfolding moved after_writes
  total_kept j = go (ℕ_discrete v.job j)
    where
      left : List ℕ
      left = set t.ledger v.old 0

      there : v.old < length t.ledger
      there = rw m.old h.in_table

      new_there : v.new < length left
      new_there = rw (length-set t.ledger v.old 0) (new_in_table h m)

      was_free : get_or left v.new 0 ≡ 0
      was_free =
          get_or-set_other t.ledger v.old v.new 0 0 (λ e. new_elsewhere h m p h.of_node (sym m.old ∙ sym e))
          ∙ entry_same t.ledger v.new 0 1 (new_in_table h m) ∙ m.picked.page.free

      go : Dec (v.job ≡ j) → pages_held counts (moved x t v).ledger j ≡ pages_held counts t.ledger j
      go (yes e) =
          let byte : get_or t.ledger v.old 0 ≡ j + 1 = rw m.old (omega (arith, holder_byte)) in
          let less = one_less_held counts t.ledger v.old 0 j there (rw m.old (page_lt h.of_node)) byte (λ z. omega arith) in
          let more = one_more_held counts left v.new (v.job + 1) j new_there (page_lt m.picked.page.of_node) (λ z. omega (arith, was_free))
          (omega arith) in
          more ∙ sym less
      go (no d) =
          as_many_held counts left v.new (v.job + 1) j new_there (λ z. omega (arith, was_free)) (λ z. d (omega arith))
          ∙ as_many_held counts t.ledger v.old 0 j there (rw m.old (λ z. d (omega (arith, holder_byte)))) (λ z. omega arith)

  -- the page is free afterwards
  old_free : get_or (moved x t v).ledger p 0 ≡ 0
  unfolding moved after_writes
  old_free =
      get_or-set_other (set t.ledger v.old 0) v.new p (v.job + 1) 0 (new_elsewhere h m p h.of_node)
      ∙ ap (λ (q : ℕ). get_or (set t.ledger q 0) p 0) m.old ∙ get_or-set_same t.ledger p 0 0 h.in_table

  -- the page that is taken is the job's
  new_held : get_or (moved x t v).ledger v.new 0 ≡ v.job + 1
  unfolding moved after_writes
  new_held = get_or-set_same (set t.ledger v.old 0) v.new (v.job + 1) 0 (rw (length-set t.ledger v.old 0) (new_in_table h m))

  -- every other held page stays
  held_kept : (r : ℕ) → r ≢ p → get_or t.ledger r 0 ≢ 0 → get_or (moved x t v).ledger r 0 ≡ get_or t.ledger r 0
  unfolding moved after_writes
  held_kept r d held =
      get_or-set_other (set t.ledger v.old 0) v.new r (v.job + 1) 0
      (λ e. held (ap (λ (q : ℕ). get_or t.ledger q 0) e ∙ entry_same t.ledger v.new 0 1 (new_in_table h m) ∙ m.picked.page.free))
      ∙ get_or-set_other t.ledger v.old r 0 0 (λ e. d (e ∙ m.old))

-- ---- the moves of some pages of x, one after the other

module _ (counts distances : List ℕ) (x : ℕ) where
  totals_after : (j : ℕ) (t : Tables) (ps : List ℕ) (vs : List Move) → Queue counts t.ledger x ps → moves counts distances x t ps ≡ accept vs
      → pages_held counts (after_moves x t vs).ledger j ≡ pages_held counts t.ledger j
  totals_after j t [] vs q e = rw (moves_nil counts distances x t e, after_nil x t)
  totals_after j t (p ∷ ps) vs q e =
      let c = moves_cons counts distances x t p ps e in
      let m = move_is counts distances t x p c.3 in
      rw (c.2, after_cons x t c.0 c.1)
      (totals_after j (moved x t c.0) ps c.1 (queue_rest q m) c.4 ∙ total_kept (queue_first q m) m j)

  -- a page of x that is free or still to move is free afterwards
  free_after_lem : (t : Tables) (ps : List ℕ) (vs : List Move) → Queue counts t.ledger x ps → moves counts distances x t ps ≡ accept vs
      → (r : ℕ) → PageOf counts x r → (get_or t.ledger r 0 ≢ 0 → r ∈ ps) → get_or (after_moves x t vs).ledger r 0 ≡ 0
  free_after_lem t [] vs q e r o held = rw (moves_nil counts distances x t e, after_nil x t) (go (ℕ_discrete (get_or t.ledger r 0) 0))
    where
      go : Dec (get_or t.ledger r 0 ≡ 0) → get_or t.ledger r 0 ≡ 0
      go (yes z) = z
      go (no d) = absurd (Memᴰ.not-nil (held d))
  free_after_lem t (p ∷ ps) vs q e r o held =
      let c = moves_cons counts distances x t p ps e in
      let m = move_is counts distances t x p c.3 in
      let h = queue_first q m in
      rw (c.2, after_cons x t c.0 c.1) (free_after_lem (moved x t c.0) ps c.1 (queue_rest q m) c.4 r o (λ d. later h m d (ℕ_discrete r p)))
    where
      later : {v : Move} → HeldPage counts t.ledger x p → MoveIs counts distances t x p v → get_or (moved x t v).ledger r 0 ≢ 0 → Dec (r ≡ p) → r ∈ ps
      later {v} h m d (yes e) = absurd (d (ap (λ (i : ℕ). get_or (moved x t v).ledger i 0) e ∙ old_free h m))
      later h m d (no n) = ⊎_elim (λ e. absurd (n e)) (λ i. i) (Memᴰ.cases_cons (held (λ z. d (others_kept h m r o n ∙ z))))

  old_pages_of : (t : Tables) (ps : List ℕ) (vs : List Move) → moves counts distances x t ps ≡ accept vs → map (λ v. v.old) vs ≡ ps
  old_pages_of t [] vs e = rw (moves_nil counts distances x t e)
  old_pages_of t (p ∷ ps) vs e =
      let c = moves_cons counts distances x t p ps e in
      let m = move_is counts distances t x p c.3 in
      rw c.2 (ap₂ (λ (q : ℕ) (qs : List ℕ). q ∷ qs) m.old (old_pages_of (moved x t c.0) ps c.1 c.4))

  -- a held page that is not to move stays
  held_after : (t : Tables) (ps : List ℕ) (vs : List Move) → Queue counts t.ledger x ps → moves counts distances x t ps ≡ accept vs
      → (r : ℕ) → (r ∈ ps → ⊥) → get_or t.ledger r 0 ≢ 0 → get_or (after_moves x t vs).ledger r 0 ≡ get_or t.ledger r 0
  held_after t [] vs q e r out held = rw (moves_nil counts distances x t e, after_nil x t)
  held_after t (p ∷ ps) vs q e r out held =
      let c = moves_cons counts distances x t p ps e in
      let m = move_is counts distances t x p c.3 in
      let same = held_kept (queue_first q m) m r (λ z. out (Memᴰ.head z)) held in
      rw (c.2, after_cons x t c.0 c.1)
      (held_after (moved x t c.0) ps c.1 (queue_rest q m) c.4 r (λ i. out (Memᴰ.tail i)) (λ z. held (sym same ∙ z)) ∙ same)

  -- the pages that were taken are their jobs'
  taken_after : (t : Tables) (ps : List ℕ) (vs : List Move) → Queue counts t.ledger x ps → moves counts distances x t ps ≡ accept vs
      → (v : Move) → v ∈ vs → get_or (after_moves x t vs).ledger v.new 0 ≡ v.job + 1
  taken_after t [] vs q e v i = absurd (Memᴰ.not-nil (subst (λ (l : List Move). v ∈ l) (moves_nil counts distances x t e) i))
  taken_after t (p ∷ ps) vs q e v i =
      let c = moves_cons counts distances x t p ps e in
      let m = move_is counts distances t x p c.3 in
      let h = queue_first q m in
      let ih = taken_after (moved x t c.0) ps c.1 (queue_rest q m) c.4 v in
      let kept = held_after (moved x t c.0) ps c.1 (queue_rest q m) c.4 c.0.new
      (λ j. new_elsewhere h m c.0.new ((queue_rest q m).each_held c.0.new j).of_node refl) (λ z. omega (arith, new_held h m)) in
      rw (c.2, after_cons x t c.0 c.1)
      (⊎_elim (λ s. rw s (kept ∙ new_held h m)) ih (Memᴰ.cases_cons (subst (λ (l : List Move). v ∈ l) c.2 i)))

-- a page that no pair names keeps its byte
pub unnamed_kept : (x : ℕ) (t : Tables) (vs : List Move) (r d : ℕ) → (r ∈ pairs vs → ⊥) → get_or (after_moves x t vs).ledger r d ≡ get_or t.ledger r d
unfolding pairs each moved after_writes
unnamed_kept x t [] r d out = rw (after_nil x t)
unnamed_kept x t (v ∷ vs) r d out =
    rw (after_cons x t v vs)
    (unnamed_kept x (moved x t v) vs r d (λ i. out (Memᴰ.tail (Memᴰ.tail i)))
    ∙ get_or-set_other (set t.ledger v.old 0) v.new r (v.job + 1) d (λ e. out (Memᴰ.tail (Memᴰ.head e)))
    ∙ get_or-set_other t.ledger v.old r 0 d (λ e. out (Memᴰ.head e)))

-- ---- a drain that is done

-- "counts that don't match at entry": what the test finds
pub counts_match_lem : (counts : List ℕ) (t : Tables) → (counts_match counts t ≡ true) ↔ Matches counts t
unfolding counts_match
counts_match_lem counts t = (
  λ e. same_lists t.free (free_counts counts t.ledger) e,
  λ a. ap (λ (f : List ℕ). same f (free_counts counts t.ledger)) a ∙ same_self (free_counts counts t.ledger),
)

-- "Write the pairs": two numbers a move
pub pairs_length : (vs : List Move) → length (pairs vs) ≡ 2 * length vs
unfolding pairs each
pairs_length [] = refl
pairs_length (v ∷ vs) = let ih : length (each (λ v. v.old ∷ v.new ∷ []) vs) ≡ 2 * length vs = pairs_length vs in omega arith

module _ {counts distances : List ℕ} {x : ℕ} {t : Tables} {room : ℕ} {vs : List Move} (d : DrainPasses counts distances x t room vs) where
  -- "x's held pages from the lowest up", as they are at the start
  pub drain_queue : Queue counts t.ledger x (held_pages counts t.ledger x)
  drain_queue = held_queue counts t.ledger x (pages_in_order_lem counts _ _ (drain_fresh_ok counts distances t d.tables_ok)).fits

  -- "The total held by each job stays the same"
  pub totals_kept : (j : ℕ) → pages_held counts (after_moves x t vs).ledger j ≡ pages_held counts t.ledger j
  totals_kept j = totals_after counts distances x j t (held_pages counts t.ledger x) vs drain_queue d.moved_so

  -- "and x ends empty"
  pub x_empty : held_pages counts (after_moves x t vs).ledger x ≡ []
  unfolding held_pages
  x_empty =
      none_keep _ (pages_of counts x)
      (λ r i. ap not (eq-eqb _ 0 (free_after_lem counts distances x t (held_pages counts t.ledger x) vs drain_queue d.moved_so r (member_page counts x i)
      (λ n. member_keep (λ q. not (eqb (get_or t.ledger q 0) 0)) i (ap not (ne_eqb _ 0 n))))))

  -- "Go through x's held pages from the lowest up", "in the order moved"
  pub old_pages : map (λ v. v.old) vs ≡ held_pages counts t.ledger x
  old_pages = old_pages_of counts distances x t (held_pages counts t.ledger x) vs d.moved_so

  -- each page that was taken is held by the job of the page that was left
  pub taken_held : (v : Move) → v ∈ vs → get_or (after_moves x t vs).ledger v.new 0 ≡ v.job + 1
  taken_held = taken_after counts distances x t (held_pages counts t.ledger x) vs drain_queue d.moved_so

  -- a held page of another node stays
  pub others_held : (r : ℕ) → (PageOf counts x r → ⊥) → get_or t.ledger r 0 ≢ 0 → get_or (after_moves x t vs).ledger r 0 ≡ get_or t.ledger r 0
  others_held r out held =
      held_after counts distances x t (held_pages counts t.ledger x) vs drain_queue d.moved_so r (λ i. out (drain_queue.each_held r i).of_node) held

  -- "Under M-100 the counts follow each move"
  pub counts_after : Matches counts (after_moves x t vs)
  unfolding applied
  counts_after =
      moves_match counts distances x t (held_pages counts t.ledger x) vs drain_queue d.moved_so ((counts_match_lem counts t).0 d.matching)

-- "Cursors stay": records and maps are as they were
pub records_kept : (x : ℕ) (t : Tables) (vs : List Move) → (after_moves x t vs).records ≡ t.records
unfolding applied after_stores
records_kept x t vs = refl

pub maps_kept : (x : ℕ) (t : Tables) (vs : List Move) → (after_moves x t vs).maps ≡ t.maps
unfolding applied after_remaps
maps_kept x t vs = refl
