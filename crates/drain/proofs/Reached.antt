-- How far a drain has come: one page of x after the other, what is said of the pages gone through, and what all of them come to.
-- Assumes nothing.
use Prim.Native.Nat.{ℕ, suc, ◌+◌, ◌-◌, ◌≤◌, ◌<◌}
use mathlib.Core.Path.{◌≡◌, refl, sym, ap, ap₂, ◌∙◌}
use mathlib.Core.Bool.{Bool, true, false, not, cond}
use mathlib.Core.List.{List, [], ◌∷◌, ◌++◌, append_assoc, append-nil}
use mathlib.Core.Option.{Option, none, some}
use native.Mathlib.Nat.{add-zero}
use native.Mathlib.Omega.{arith}
use borrow.Author.Tests.{eq-eqb, ne_eqb}
use lib.Dec.{eqb}
use lib.ListN.{length, get_or, set}
use Rattle.rules.specs.Basics.{keep, each, from, sum}
use Rattle.rules.specs.Machine.{first_page, pages_of}
use Rattle.rules.specs.Masks.{most_nodes}
use Rattle.rules.specs.SearchOrder.{free_pages, free_counts}
use Rattle.rules.specs.Decisions.{Decision, refuse, accept, unless, then}
use Rattle.rules.specs.Calls.{Tables, Write, after_writes, after_stores, after_remaps, applied}
use Rattle.rules.specs.Drain.{Move, held_pages, is_movable, goal, move_to, move_of, move_writes, move_recounts, moved, moves, recounts_of, draining}
use Rattle.rules.proofs.Decisions.{not_accepted}
use Rattle.rules.proofs.FreeCounts.{count_is}
use Rattle.rules.proofs.Lists.{keep_agree, entry_same, length_from, sum_take_le, sum_take_suc}
use Rattle.rules.proofs.Moves.{MoveIs, move_is, HeldPage, moved_length, others_kept, moved_matches, moves_cons, moves_nil}
use Rattle.rules.proofs.Pages.{PageOf, member_page, page_lt}
use Rattle.drain.specs.Goals.{near_others, goal_by, after_move}
use Rattle.drain.specs.Reached.{move_by, held_from, Reached}
use Rattle.drain.proofs.Targets.{goal_by_lem}

-- ---- lists and decisions

-- the lists of one more, at the end
each_snoc : {A B : Type 0} (f : A → List B) (xs : List A) (x : A) → each f (xs ++ (x ∷ [])) ≡ each f xs ++ f x
unfolding each
each_snoc f [] x = append-nil (f x)
each_snoc {B = B} f (y ∷ ys) x = ap (λ (l : List B). f y ++ l) (each_snoc f ys x) ∙ sym (append_assoc (f y) (each f ys) (f x))

-- some writes after others
writes_append : (table : List ℕ) (vs ws : List Write) → after_writes table (vs ++ ws) ≡ after_writes (after_writes table vs) ws
unfolding after_writes
writes_append table [] ws = refl
writes_append table (v ∷ vs) ws = writes_append (set table v.at v.value) vs ws

-- the counts after one move more
recounts_snoc : (x : ℕ) (free : List ℕ) (vs : List Move) (v : Move)
    → after_writes free (recounts_of x free (vs ++ (v ∷ [])))
    ≡ after_writes (after_writes free (recounts_of x free vs)) (move_recounts x (after_writes free (recounts_of x free vs)) v)
unfolding recounts_of after_writes
recounts_snoc x free [] v = refl
recounts_snoc x free (w ∷ vs) v = recounts_snoc x (after_writes free (move_recounts x free w)) vs v

-- what is accepted goes on as it is
then_same : {A : Type 0} (d : Decision A) (go : A → Decision A) → ((a : A) → go a ≡ accept a) → d ≡ then d go
then_same (refuse r) go h = refl
then_same (accept a) go h = sym (h a)

-- moves behind others: one more in front of those that are left is one more behind those that are made
then_behind : {A : Type 0} (d : Decision (List A)) (v : A) (vs : List A)
    → then (then d (λ ws. accept (v ∷ ws))) (λ ws. accept (vs ++ ws)) ≡ then d (λ ws. accept ((vs ++ (v ∷ [])) ++ ws))
then_behind (refuse r) v vs = refl
then_behind (accept ws) v vs = ap accept (sym (append_assoc vs (v ∷ []) ws))

-- a test that is passed to something, and one that is passed to nothing
some_passed : (b : Bool) (o : Option ℕ) {k : ℕ} → cond b o none ≡ some k → (b ≡ true) × (o ≡ some k)
some_passed true o e = (refl, e)
some_passed false o e = absurd (let z : ◌≡◌ {A = ℕ} 0 1 = cc in omega arith)

none_refused : (b : Bool) (counts : List ℕ) (t : Tables) (p j : ℕ) (o : Option ℕ) → cond b o none ≡ none
    → unless b 17 (move_to counts t p j o) ≡ refuse 17
unfolding move_to
none_refused true counts t p j none e = refl
none_refused true counts t p j (some k) e = absurd (let z : ◌≡◌ {A = ℕ} 0 1 = cc in omega arith)
none_refused false counts t p j o e = refl

-- ---- the pages of x that are left

module _ (counts ledger : List ℕ) (x : ℕ) where
  -- all of them
  held_all : held_pages counts ledger x ≡ held_from counts ledger x 0
  unfolding held_pages pages_of
  held_all =
      let all : get_or counts x 0 - 0 ≡ get_or counts x 0 = omega arith in
      rw (add-zero (first_page counts x), all)

  -- from a free page on, and from a held one on
  held_free : (i : ℕ) → i < get_or counts x 0 → get_or ledger (first_page counts x + i) 0 ≡ 0 → held_from counts ledger x i ≡ held_from counts ledger x (i + 1)
  unfolding keep from
  held_free i l z =
      let more : get_or counts x 0 - i ≡ suc (get_or counts x 0 - (i + 1)) = omega arith in
      let next : first_page counts x + (i + 1) ≡ suc (first_page counts x + i) = omega arith in
      rw (more, next, eq-eqb (get_or ledger (first_page counts x + i) 0) 0 z)

  held_next : (i : ℕ) → i < get_or counts x 0 → 0 < get_or ledger (first_page counts x + i) 0
      → held_from counts ledger x i ≡ (first_page counts x + i) ∷ held_from counts ledger x (i + 1)
  unfolding keep from
  held_next i l h =
      let more : get_or counts x 0 - i ≡ suc (get_or counts x 0 - (i + 1)) = omega arith in
      let next : first_page counts x + (i + 1) ≡ suc (first_page counts x + i) = omega arith in
      rw (more, next, ne_eqb (get_or ledger (first_page counts x + i) 0) 0 (λ e. omega arith))

  -- none at the end
  held_none : held_from counts ledger x (get_or counts x 0) ≡ []
  unfolding keep from
  held_none =
      let none_left : get_or counts x 0 - get_or counts x 0 ≡ 0 = omega arith in
      rw none_left

-- ---- the start

-- before the first page
pub start_reached : (counts distances : List ℕ) (x : ℕ) (start : Tables) → start.free ≡ free_counts counts start.ledger
    → Reached counts distances x start 0 start []
unfolding each after_writes recounts_of
start_reached counts distances x start a = record {
  left =
      ap (moves counts distances x start) (held_all counts start.ledger x)
      ∙ then_same (moves counts distances x start (held_from counts start.ledger x 0)) _ (λ ws. refl);
  records = refl;
  maps = refl;
  matches = a;
  ledger = refl;
  free = refl;
  long = refl;
  bytes = λ p l h. refl;
}

-- what a move does to the tables, by the move
pub moved_is : (counts : List ℕ) (x : ℕ) (now : Tables) (p k byte : ℕ) → let v = move_by counts now.ledger p k byte in
    ((moved x now v).ledger ≡ after_writes now.ledger (move_writes v)) × ((moved x now v).free ≡ after_move x now.free k)
unfolding moved after_writes
moved_is counts x now p k byte = (refl, refl)

module _ {counts distances : List ℕ} {x : ℕ} {start : Tables} {i : ℕ} {now : Tables} {vs : List Move} (r : Reached counts distances x start i now vs) where
  -- the byte of the next page
  abbrev byte : ℕ
  byte = get_or start.ledger (first_page counts x + i) 0

  -- where that page goes, if it is held
  abbrev goal_here : Option ℕ
  goal_here = goal_by (length counts) (near_others (length counts) distances x) start.records start.maps now.free (byte - 1)

  -- ---- one page

  -- a free page is passed over
  pub step_free : i < get_or counts x 0 → byte ≡ 0 → Reached counts distances x start (i + 1) now vs
  step_free l z = record {
    left =
        r.left
        ∙ ap (λ (ps : List ℕ). then (moves counts distances x now ps) (λ ws. accept (vs ++ ws))) (held_free counts start.ledger x i l z);
    records = r.records;
    maps = r.maps;
    matches = r.matches;
    ledger = r.ledger;
    free = r.free;
    long = r.long;
    bytes = λ p m h. r.bytes p (omega arith) h;
  }

  module _ (few : length counts ≤ most_nodes) (node : x < length counts) (room : sum counts ≤ length start.ledger) (l : i < get_or counts x 0)
      (h : 0 < byte) where
    -- the table still has the byte of the page
    same_byte : get_or now.ledger (first_page counts x + i) 0 ≡ byte
    same_byte = r.bytes (first_page counts x + i) (omega arith) (omega arith)

    -- it is a held page of x
    page : PageOf counts x (first_page counts x + i)
    page = record { start = omega arith; end = omega arith }

    held_here : HeldPage counts now.ledger x (first_page counts x + i)
    held_here = record {
      of_node = page;
      in_table = omega (arith, page_lt page, room, r.long);
      held = λ z. omega (arith, same_byte, z, h);
    }

    -- where it goes, by the law
    goal_is_lem : cond (is_movable (length counts) now (byte - 1)) (goal counts distances now x (byte - 1)) none ≡ goal_here
    goal_is_lem =
        goal_by_lem counts distances now x (byte - 1) few node r.matches
        ∙ ap₂ (λ (jobs maps : List ℕ). goal_by (length counts) (near_others (length counts) distances x) jobs maps now.free (byte - 1)) r.records r.maps

    -- what the moves come to, by the move of this page
    abbrev by : Decision Move → Decision (List Move)
    by d =
        then (then d (λ v. then (moves counts distances x (moved x now v) (held_from counts start.ledger x (i + 1))) (λ ws. accept (v ∷ ws))))
        (λ ws. accept (vs ++ ws))

    -- the moves that are left are that of this page and those of the pages behind it
    left_here : moves counts distances x start (held_pages counts start.ledger x) ≡ by (move_of counts distances now x (first_page counts x + i))
    unfolding moves
    left_here =
        r.left
        ∙ ap (λ (ps : List ℕ). then (moves counts distances x now ps) (λ ws. accept (vs ++ ws))) (held_next counts start.ledger x i l h)

    module _ (k : ℕ) (g : goal_here ≡ some k) where
      -- the move
      abbrev move : Move
      move = move_by counts now.ledger (first_page counts x + i) k byte

      move_here : move_of counts distances now x (first_page counts x + i) ≡ accept move
      unfolding move_of move_to
      move_here =
          let s = some_passed (is_movable (length counts) now (byte - 1)) (goal counts distances now x (byte - 1)) (goal_is_lem ∙ g) in
          rw (same_byte, s.0, s.1)

      is_move : MoveIs counts distances now x (first_page counts x + i) move
      is_move = move_is counts distances now x (first_page counts x + i) move_here

      -- a held page is moved
      pub step_held : Reached counts distances x start (i + 1) (moved x now move) (vs ++ (move ∷ []))
      unfolding moved
      step_held = record {
        left =
            left_here
            ∙ ap by move_here
            ∙ then_behind (moves counts distances x (moved x now move) (held_from counts start.ledger x (i + 1))) move vs;
        records = r.records;
        maps = r.maps;
        matches = moved_matches held_here is_move r.matches;
        ledger =
            ap (λ (t : List ℕ). after_writes t (move_writes move)) r.ledger
            ∙ sym (writes_append start.ledger (each move_writes vs) (move_writes move))
            ∙ ap (after_writes start.ledger) (sym (each_snoc move_writes vs move));
        free =
            ap (λ (f : List ℕ). after_writes f (move_recounts x f move)) r.free
            ∙ sym (recounts_snoc x start.free vs move);
        long = moved_length held_here is_move ∙ r.long;
        bytes = λ p m e.
            others_kept held_here is_move p (record { start = omega arith; end = e }) (λ q. omega arith)
            ∙ r.bytes p (omega arith) e;
      }

    -- a page that has nowhere to go is 17
    refused_here : goal_here ≡ none → move_of counts distances now x (first_page counts x + i) ≡ refuse 17
    unfolding move_of
    refused_here g =
        rw same_byte
        (none_refused (is_movable (length counts) now (byte - 1)) counts now (first_page counts x + i) (byte - 1) (goal counts distances now x (byte - 1))
        (goal_is_lem ∙ g))

    pub step_stuck : goal_here ≡ none → moves counts distances x start (held_pages counts start.ledger x) ≡ refuse 17
    step_stuck g = left_here ∙ ap by (refused_here g)

    -- where all moves are made, each page has somewhere to go
    pub goes_on : {ws : List Move} → moves counts distances x start (held_pages counts start.ledger x) ≡ accept ws
        → (k : ℕ) × (goal_here ≡ some k)
    goes_on {ws} e = go goal_here refl
      where
        go : (o : Option ℕ) → goal_here ≡ o → (k : ℕ) × (goal_here ≡ some k)
        go none g = absurd (not_accepted 17 _ (step_stuck g) e)
        go (some k) g = (k, g)

-- ---- the end

-- after the last page all moves are made
pub end_reached : {counts distances : List ℕ} {x : ℕ} {start now : Tables} {vs : List Move} → Reached counts distances x start (get_or counts x 0) now vs
    → moves counts distances x start (held_pages counts start.ledger x) ≡ accept vs
unfolding moves
end_reached {counts} {distances} {x} {start} {now} {vs} r =
    r.left
    ∙ ap (λ (ps : List ℕ). then (moves counts distances x now ps) (λ ws. accept (vs ++ ws))) (held_none counts start.ledger x)
    ∙ ap accept (append-nil vs)

-- and the tables are those of the drain
pub drained_tables : {counts distances : List ℕ} {x i : ℕ} {start now : Tables} {vs : List Move} → Reached counts distances x start i now vs
    → (applied start (accept (draining x start vs))).tables ≡ now
unfolding applied after_stores after_remaps
drained_tables r i = record { ledger = sym r.ledger i; records = sym r.records i; free = sym r.free i; maps = sym r.maps i }

-- ---- how many

-- those that are kept and those that are not are all
kept_and_not : {A : Type 0} (p : A → Bool) (xs : List A) → length (keep p xs) + length (keep (λ x. not (p x)) xs) ≡ length xs
unfolding keep
kept_and_not p [] = refl
kept_and_not {A} p (x ∷ xs) = go (p x) (kept_and_not p xs)
  where
    go : (b : Bool) → length (keep p xs) + length (keep (λ x. not (p x)) xs) ≡ length xs
        → length (cond b (x ∷ keep p xs) (keep p xs)) + length (cond (not b) (x ∷ keep (λ x. not (p x)) xs) (keep (λ x. not (p x)) xs)) ≡ suc (length xs)
    go true e = omega arith
    go false e = omega arith

module _ (counts ledger : List ℕ) (x : ℕ) where
  -- a node has no more free pages than pages
  free_most : get_or (free_counts counts ledger) x 0 ≤ get_or counts x 0
  unfolding free_pages pages_of
  free_most =
      let both = kept_and_not (λ p. eqb (get_or ledger p 1) 0) (from (first_page counts x) (get_or counts x 0)) in
      omega (arith, count_is counts ledger x, both, length_from (first_page counts x) (get_or counts x 0))

  -- the pages of a node are its free and its held ones
  held_count : sum counts ≤ length ledger → length (held_pages counts ledger x) ≡ get_or counts x 0 - get_or (free_counts counts ledger) x 0
  unfolding free_pages held_pages pages_of
  held_count room =
      let pages = from (first_page counts x) (get_or counts x 0) in
      let both = kept_and_not (λ p. eqb (get_or ledger p 0) 0) pages in
      let free : keep (λ p. eqb (get_or ledger p 1) 0) pages ≡ keep (λ p. eqb (get_or ledger p 0) 0) pages =
      keep_agree _ _ pages (λ p m. ap (λ (b : ℕ). eqb b 0) (entry_same ledger p 1 0 (omega (arith, page_lt (member_page counts x m), room)))) in
      omega (arith, count_is counts ledger x, both, ap length free, length_from (first_page counts x) (get_or counts x 0))

-- the count of x stays small
pub free_few : {counts distances : List ℕ} {x i : ℕ} {start now : Tables} {vs : List Move} → Reached counts distances x start i now vs
    → sum counts ≤ 1048576 → get_or now.free x 0 ≤ 1048576
free_few {counts} {x = x} {now = now} r few =
    let most = free_most counts now.ledger x in
    let same : get_or now.free x 0 ≡ get_or (free_counts counts now.ledger) x 0 = ap (λ (f : List ℕ). get_or f x 0) r.matches in
    omega (arith, most, same, sum_take_suc x counts, sum_take_le (suc x) counts)

-- a move for each page
moves_length : (counts distances : List ℕ) (x : ℕ) (t : Tables) (ps : List ℕ) {vs : List Move} → moves counts distances x t ps ≡ accept vs
    → length vs ≡ length ps
moves_length counts distances x t [] e = ap length (moves_nil counts distances x t e)
moves_length counts distances x t (p ∷ ps) e =
    let c = moves_cons counts distances x t p ps e in
    ap length c.2 ∙ ap suc (moves_length counts distances x (moved x t c.0) ps c.4)

-- as many moves as x has pages that are not free
pub moves_count : (counts distances : List ℕ) (x : ℕ) (start : Tables) {vs : List Move} → start.free ≡ free_counts counts start.ledger
    → sum counts ≤ length start.ledger → moves counts distances x start (held_pages counts start.ledger x) ≡ accept vs
    → length vs ≡ get_or counts x 0 - get_or start.free x 0
moves_count counts distances x start a room e =
    moves_length counts distances x start (held_pages counts start.ledger x) e
    ∙ held_count counts start.ledger x room
    ∙ ap (λ (f : List ℕ). get_or counts x 0 - get_or f x 0) (sym a)
