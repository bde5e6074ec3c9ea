-- All pages have somewhere to go: page by page, by the bytes and the counts; and that this is what the law says.
-- Assumes nothing.
use Prim.Native.Nat.{ℕ, zero, suc, ◌+◌, ◌-◌, ◌≤◌, ◌<◌}
use mathlib.Core.Path.{◌≡◌, refl, sym, ap, subst, ◌∙◌}
use mathlib.Core.Bool.{Bool, true, false, true≢false}
use mathlib.Core.List.{List}
use mathlib.Core.Option.{Option, none, some}
use native.Mathlib.Decide.{ℕ_discrete}
use native.Mathlib.Omega.{arith}
use borrow.Author.Tests.{eq-eqb, ne_eqb}
use lib.ListN.{length, get_or, take, drop, set, length-set, length-drop, drop_of_length-le}
use lib.Seq.{drop-cons, get_or-take, get_or-drop, length-take-le, get_or-set_same, get_or-set_other}
use Rattle.rules.specs.Basics.{sum}
use Rattle.rules.specs.Machine.{first_page}
use Rattle.rules.specs.Masks.{most_nodes}
use Rattle.rules.specs.Calls.{Tables}
use Rattle.rules.specs.Drain.{Move, held_pages, moved, moves}
use Rattle.placement.specs.Grants.{Paged}
use Rattle.placement.proofs.Grants.{first_is, end_is, inside}
use Rattle.drain.specs.Goals.{near_others, goal_by, Ordered, after_move, passes}
use Rattle.drain.specs.Reached.{Goes, Reached, move_by}
use Rattle.drain.proofs.Open.{goal_is_lem}
use Rattle.drain.proofs.Reached.{step_free, step_held, step_stuck, moved_is, end_reached}

-- ---- the counts after a move

module _ {n x : ℕ} {order free : List ℕ} (o : Ordered n x order free) where
  -- there is still one for each node
  pub ordered_moved : (k : ℕ) → Ordered n x order (after_move x free k)
  ordered_moved k = record {
    short = o.short;
    nodes = o.nodes;
    others = o.others;
    one_each = length-set (set free x (get_or free x 0 + 1)) k (get_or free k 0 - 1) ∙ length-set free x (get_or free x 0 + 1) ∙ o.one_each;
    node = o.node;
  }

  -- x has one more
  pub count_up : (k : ℕ) → (k ≡ x → ⊥) → get_or (after_move x free k) x 0 ≡ get_or free x 0 + 1
  count_up k d =
      get_or-set_other (set free x (get_or free x 0 + 1)) k x (get_or free k 0 - 1) 0 (λ e. d (sym e))
      ∙ get_or-set_same free x (get_or free x 0 + 1) 0 (omega (arith, o.node, o.one_each))

-- ---- page by page

module _ (n : ℕ) (order jobs maps : List ℕ) (x : ℕ) (part : List ℕ) (i : ℕ) (l : i < length part) (free : List ℕ) where
  -- a free page
  pub pass_free : get_or part i 0 ≡ 0 → passes n order jobs maps x free (drop i part) ≡ passes n order jobs maps x free (drop (i + 1) part)
  unfolding passes
  pass_free z = let s : i + 1 ≡ suc i = omega arith in rw (s, drop-cons part i 0 l, eq-eqb (get_or part i 0) 0 z)

  -- a page that goes to node k
  pub pass_to : 0 < get_or part i 0 → (k : ℕ) → goal_by n order jobs maps free (get_or part i 0 - 1) ≡ some k
      → passes n order jobs maps x free (drop i part) ≡ passes n order jobs maps x (after_move x free k) (drop (i + 1) part)
  unfolding passes
  pass_to h k e = let s : i + 1 ≡ suc i = omega arith in rw (s, drop-cons part i 0 l, ne_eqb (get_or part i 0) 0 (λ z. omega arith), e)

  -- a page that has nowhere to go
  pub pass_stuck : 0 < get_or part i 0 → goal_by n order jobs maps free (get_or part i 0 - 1) ≡ none → passes n order jobs maps x free (drop i part) ≡ false
  unfolding passes
  pass_stuck h e = rw (drop-cons part i 0 l, ne_eqb (get_or part i 0) 0 (λ z. omega arith), e)

-- no page is left
pub pass_end : (n : ℕ) (order jobs maps : List ℕ) (x : ℕ) (part : List ℕ) (i : ℕ) (free : List ℕ) → length part ≤ i
    → passes n order jobs maps x free (drop i part) ≡ true
unfolding passes
pass_end n order jobs maps x part i free l = rw (drop_of_length-le part l)

-- What is known after one page, of the answer r and the counts free'.
pub record AfterPage (n : ℕ) (order jobs maps : List ℕ) (x : ℕ) (part : List ℕ) (i : ℕ) (free free' : List ℕ) (r : Bool) : Type 0 where
  pub stopped : r ≡ false → passes n order jobs maps x free (drop i part) ≡ false
  pub went : r ≡ true → passes n order jobs maps x free (drop i part) ≡ passes n order jobs maps x free' (drop (i + 1) part)
  pub ordered : r ≡ true → Ordered n x order free'
  pub counted : r ≡ true → get_or free' x 0 ≤ get_or free x 0 + 1

pub after_page : (n : ℕ) (order jobs maps : List ℕ) (x : ℕ) (part : List ℕ) (i : ℕ) (free free' : List ℕ) (r : Bool) → i < length part
    → Ordered n x order free
    → (get_or part i 0 ≡ 0 → (r ≡ true) × (free' ≡ free))
    → (0 < get_or part i 0 → goal_by n order jobs maps free (get_or part i 0 - 1) ≡ none → r ≡ false)
    → (0 < get_or part i 0 → (k : ℕ) → goal_by n order jobs maps free (get_or part i 0 - 1) ≡ some k → (r ≡ true) × (free' ≡ after_move x free k))
    → AfterPage n order jobs maps x part i free free' r
after_page n order jobs maps x part i free free' r l o stays stuck goes =
    go (ℕ_discrete (get_or part i 0) 0) (goal_by n order jobs maps free (get_or part i 0 - 1)) refl
  where
    go : Dec (get_or part i 0 ≡ 0) → (g : Option ℕ) → goal_by n order jobs maps free (get_or part i 0 - 1) ≡ g
        → AfterPage n order jobs maps x part i free free' r
    go (yes z) g e =
        let s = stays z in
        record {
          stopped = λ f. absurd (true≢false (sym s.0 ∙ f));
          went = λ f. rw s.1 (pass_free n order jobs maps x part i l free z);
          ordered = λ f. rw s.1 o;
          counted = λ f. rw s.1 (omega arith);
        }
    go (no z) none e =
        let s = stuck (omega arith) e in
        record {
          stopped = λ f. pass_stuck n order jobs maps x part i l free (omega arith) e;
          went = λ f. absurd (true≢false (sym f ∙ s));
          ordered = λ f. absurd (true≢false (sym f ∙ s));
          counted = λ f. absurd (true≢false (sym f ∙ s));
        }
    go (no z) (some k) e =
        let s = goes (omega arith) k e in
        let g = goal_is_lem n x order jobs maps free (get_or part i 0 - 1) k o e in
        record {
          stopped = λ f. absurd (true≢false (sym s.0 ∙ f));
          went = λ f. rw s.1 (pass_to n order jobs maps x part i l free (omega arith) k e);
          ordered = λ f. rw s.1 (ordered_moved o k);
          counted = λ f. rw s.1 (omega (arith, count_up o k g.other));
        }

-- ---- what the law says

-- The pages of x as bytes: all of them go, or 17, as the moves do, from any page of x on.
module _ (counts distances : List ℕ) (x : ℕ) (start : Tables) (few : length counts ≤ most_nodes) (node : x < length counts)
    (room : sum counts ≤ length start.ledger) (part : List ℕ) (long : length part ≡ get_or counts x 0)
    (bytes : (i : ℕ) → i < get_or counts x 0 → get_or part i 0 ≡ get_or start.ledger (first_page counts x + i) 0) where
  abbrev goes_by : Bool → Type 0
  goes_by b = Goes b (moves counts distances x start (held_pages counts start.ledger x))

  abbrev left : List ℕ → ℕ → Bool
  left free i = passes (length counts) (near_others (length counts) distances x) start.records start.maps x free (drop i part)

  pub goes_from : (k i : ℕ) (now : Tables) (vs : List Move) → i + k ≡ get_or counts x 0 → Reached counts distances x start i now vs
      → goes_by (left now.free i)
  goes_from zero i now vs e r =
      let all : i ≡ get_or counts x 0 = omega arith in
      subst goes_by (sym (pass_end (length counts) _ start.records start.maps x part i now.free (omega (arith, long))))
      (vs, end_reached (subst (λ (i : ℕ). Reached counts distances x start i now vs) all r))
  goes_from (suc k) i now vs e r =
      go (ℕ_discrete (get_or part i 0) 0) (goal_by (length counts) order start.records start.maps now.free (get_or part i 0 - 1)) refl
      (λ later ws r. goes_from k (i + 1) later ws (omega arith) r)
    where
      order : List ℕ
      order = near_others (length counts) distances x

      here : i < get_or counts x 0
      here = omega arith

      go : Dec (get_or part i 0 ≡ 0) → (o : Option ℕ) → goal_by (length counts) order start.records start.maps now.free (get_or part i 0 - 1) ≡ o
          → ((later : Tables) (ws : List Move) → Reached counts distances x start (i + 1) later ws → goes_by (left later.free (i + 1)))
          → goes_by (left now.free i)
      go (yes z) o g ih =
          subst goes_by (sym (pass_free (length counts) order start.records start.maps x part i (omega (arith, long)) now.free z))
          (ih now vs (step_free r here (sym (bytes i here) ∙ z)))
      go (no z) none g ih =
          let byte = bytes i here in
          subst goes_by (sym (pass_stuck (length counts) order start.records start.maps x part i (omega (arith, long)) now.free (omega arith) g))
          (step_stuck r few node room here (omega (arith, byte)) (rw byte at g))
      go (no z) (some m) g ih =
          let byte = bytes i here in
          let v = move_by counts now.ledger (first_page counts x + i) m (get_or start.ledger (first_page counts x + i) 0) in
          let next = ih (moved x now v) _ (step_held r few node room here (omega (arith, byte)) m (rw byte at g)) in
          let free = (moved_is counts x now (first_page counts x + i) m (get_or start.ledger (first_page counts x + i) 0)).1 in
          subst goes_by (sym (pass_to (length counts) order start.records start.maps x part i (omega (arith, long)) now.free (omega arith) m g))
          (subst (λ (f : List ℕ). goes_by (left f (i + 1))) free next)

-- ---- the part of the page table that has a node's pages

module _ {counts starts ledger : List ℕ} (p : Paged counts starts ledger) (n : ℕ) (l : n < length counts) where
  abbrev pub part_of : List ℕ
  part_of = take (get_or starts (n + 1) 0 - get_or starts n 0) (drop (get_or starts n 0) ledger)

  size : get_or starts (n + 1) 0 - get_or starts n 0 ≡ get_or counts n 0
  size = let f = first_is p n l in let e = end_is p n l in omega arith

  pub part_long : length part_of ≡ get_or counts n 0
  part_long = let i = inside p n l in length-take-le _ (drop (get_or starts n 0) ledger) (simp length-drop (omega (arith, i.0, i.1))) ∙ size

  pub part_byte : (i : ℕ) → i < get_or counts n 0 → get_or part_of i 0 ≡ get_or ledger (first_page counts n + i) 0
  part_byte i h =
      get_or-take (get_or starts (n + 1) 0 - get_or starts n 0) (drop (get_or starts n 0) ledger) i 0 (omega (arith, h, size))
      ∙ get_or-drop (get_or starts n 0) ledger i 0 ∙ ap (λ (a : ℕ). get_or ledger (a + i) 0) (first_is p n l)
