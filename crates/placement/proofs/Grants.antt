-- Laws of a grant: the page that a job gets of a node is the one that the picker finds in the node's part of the page table.
-- Assumes nothing.
use Prim.Native.Nat.{ℕ, zero, suc, ◌+◌, ◌-◌, ◌*◌, ◌/◌, ◌%◌, ◌≤◌, ◌<◌}
use mathlib.Core.Path.{◌≡◌, refl, sym, ap, ◌∙◌}
use mathlib.Core.Bool.{true, false, not}
use mathlib.Core.List.{List, [], ◌∷◌, ◌++◌}
use mathlib.Core.Option.{Option, none, some}
use native.Mathlib.Nat.{add-zero, zero-add, add-suc, suc-add}
use native.Mathlib.Omega.{arith}
use borrow.Author.Tests.{eqb-true, eq-eqb, ltb-true, le-leb, lt-leb, ne_eqb}
use borrow.Rule.Slice.PartMut.{set_mid_at, put_same}
use lib.Dec.{eqb}
use lib.ListN.{length, get_or, take, drop, set, length-take, length-drop}
use lib.Seq.{get_or-take, get_or-drop}
use Rattle.rules.specs.Basics.{keep, first, first_or, is_nil, from, sum}
use Rattle.rules.specs.Machine.{first_page, pages_of, node_of_page}
use Rattle.rules.specs.Records.{record_at, put_record, with_turn}
use Rattle.rules.specs.SearchOrder.{Try, free_pages, has_room, colour_of, has_colour, pick_page, counted, chosen}
use Rattle.rules.specs.Maps.{application_node}
use Rattle.rules.specs.Calls.{granted, refused, Tables, tables_of, outcome, after_writes, after_stores, after_remaps, applied, map_of, count_fits, serve}
use Rattle.rules.proofs.Lists.{same_test, keep_agree, keep_member, from_member, first_keep, in_table_lem, sum_take_suc, sum_take_le}
use Rattle.rules.proofs.Pages.{page_node}
use Rattle.rules.proofs.Picked.{picked_page}
use Rattle.pages.specs.FirstZero.{shift, mark}
use Rattle.pages.specs.Colours.{is_of, pick_of, HeldBefore}
use Rattle.pages.proofs.Picked.{pick_within}
use Rattle.pages.proofs.Part.{pick_part}
use Rattle.machine.proofs.Tables.{pages_step}
use Rattle.placement.specs.Grants.{page_for, part_colour, Chose, Paged, Ready}

-- ---- the page of one node

-- held pages before some pages are no free ones
held_front : (ledger : List ℕ) (m a k : ℕ) → ((p : ℕ) → a ≤ p → p < a + m → 0 < get_or ledger p 1)
    → keep (λ p. eqb (get_or ledger p 1) 0) (from a (m + k)) ≡ keep (λ p. eqb (get_or ledger p 1) 0) (from (a + m) k)
unfolding keep from
held_front ledger zero a k held = rw (add-zero a, zero-add k)
held_front ledger (suc m) a k held =
    let taken : eqb (get_or ledger a 1) 0 ≡ false = ne_eqb (get_or ledger a 1) 0 (λ e. omega (arith, held a (omega arith) (omega arith))) in
    rw (suc-add m k, taken, add-suc a m) (rw (suc-add a m) at (held_front ledger m (suc a) k (λ p l h. held p (omega arith) (omega arith))))

-- two remainders by 4 that differ by a multiple of 4
same_rest : (u t k l : ℕ) → u < 4 → t < 4 → u + 4 * k ≡ t + 4 * l → u ≡ t
same_rest u t k l a b e = omega arith

-- x past the start of the part, y past that of the node
there : (x y t : ℕ) → t < 4 → x % 4 ≡ (t + 3 * y) % 4 → (x + y) % 4 ≡ t
there x y t l e =
    same_rest ((x + y) % 4) t ((x + y) / 4 + (t + 3 * y) / 4) (x / 4 + y) (omega arith) l (omega (arith, e))

back : (x y t : ℕ) → t < 4 → (x + y) % 4 ≡ t → x % 4 ≡ (t + 3 * y) % 4
back x y t l e =
    same_rest (x % 4) ((t + 3 * y) % 4) (x / 4 + y) ((x + y) / 4 + (t + 3 * y) / 4) (omega arith) (omega arith) (omega (arith, e))

-- an index of the part is of that colour exactly where the offset in the node equals the job number, mod 4
same_colour : (j a s p : ℕ) → a ≤ s → s ≤ p → eqb ((p - s) % 4) (part_colour j a s) ≡ eqb ((p - a) % 4) (j % 4)
same_colour j a s p l m =
    let whole : p - a ≡ (p - s) + (s - a) = omega arith in
    same_test
    (λ e. rw whole (eq-eqb ((p - s + (s - a)) % 4) (j % 4) (there (p - s) (s - a) (j % 4) (omega arith) (eqb-true _ _ e))))
    (λ e. eq-eqb ((p - s) % 4) (part_colour j a s) (back (p - s) (s - a) (j % 4) (omega arith) (eqb-true _ _ (rw whole at e))))

-- an index found in a part of k bytes lies in it
abbrev pub Within : ℕ → Option ℕ → Type 0
Within k (some i) = i < k
Within k none = Unit {0}

pick_inside : (c : ℕ) (xs : List ℕ) (f : Option ℕ) → pick_of c xs ≡ f → Within (length xs) f
pick_inside c xs none e = tt
pick_inside c xs (some i) e = pick_within c xs i e

-- the part that comes back marked makes the whole table marked
marked_back : (xs : List ℕ) (a k holder : ℕ) (f : Option ℕ) → a + k ≤ length xs → Within k f
    → take a xs ++ (mark (take k (drop a xs)) f holder ++ drop k (drop a xs)) ≡ mark xs (shift a f) holder
marked_back xs a k holder (some i) l w = set_mid_at a k i xs holder (simp (length-take, length-drop) (omega arith))
marked_back xs a k holder none l w = put_same a k xs

-- a node's pages end at or before the last page
pub node_end : (counts : List ℕ) (n : ℕ) → first_page counts n + get_or counts n 0 ≤ sum counts
unfolding first_page
node_end counts n = omega (arith, sum_take_suc n counts, sum_take_le (suc n) counts)

-- What the picker does for job j in the part of node n: k bytes from s on, in which it finds f, and leaves the part `part`.
pub record Picked (counts ledger : List ℕ) (j n s k : ℕ) (f : Option ℕ) (part : List ℕ) : Type 0 where
  pub answer : shift s f ≡ page_for counts ledger j n
  pub table : take s ledger ++ (part ++ drop k (drop s ledger)) ≡ mark ledger (shift s f) (j + 1)
  pub inside : Within k f

-- the part of node n from s on, before which all its pages are held
module _ (counts ledger : List ℕ) (j n s k : ℕ) (fits : sum counts ≤ length ledger) (after : first_page counts n ≤ s)
    (end : s + k ≡ first_page counts n + get_or counts n 0) (held : (p : ℕ) → first_page counts n ≤ p → p < s → 0 < get_or ledger p 1) where
  abbrev pub colour : ℕ
  colour = part_colour j (first_page counts n) s

  -- its free pages are the node's
  free_in : keep (λ p. eqb (get_or ledger p 1) 0) (from s k) ≡ free_pages counts ledger n
  unfolding free_pages pages_of
  free_in =
      let a = first_page counts n in
      let all : s - a + k ≡ get_or counts n 0 = omega arith in
      let at : a + (s - a) ≡ s = omega arith in
      sym (rw (all, at) at (held_front ledger (s - a) a k (λ p l h. held p l (omega arith))))

  -- and those of the colour are the job's
  coloured_in : keep (λ p. is_of colour (p - s)) (free_pages counts ledger n) ≡ keep (has_colour counts j n) (free_pages counts ledger n)
  unfolding is_of has_colour colour_of
  coloured_in =
      keep_agree _ _ (free_pages counts ledger n)
      (λ p h. same_colour j (first_page counts n) s p after (from_member s k (keep_member _ (from s k) (rw (sym free_in) at h)).0).0)

  pub picked : (f : Option ℕ) (part : List ℕ) → f ≡ pick_of colour (take k (drop s ledger))
      → part ≡ mark (take k (drop s ledger)) (pick_of colour (take k (drop s ledger))) (j + 1) → Picked counts ledger j n s k f part
  unfolding page_for
  picked f part ef ep =
      let room : s + k ≤ length ledger = omega (arith, node_end counts n) in
      let long : length (take k (drop s ledger)) ≡ k = simp (length-take, length-drop) (omega arith) in
      let within : Within k f = rw long at (pick_inside colour (take k (drop s ledger)) f (sym ef)) in
      record {
        answer = rw (ef, pick_part colour ledger s k room, free_in, coloured_in);
        table = rw (ep, ← ef) (marked_back ledger s k (j + 1) f room within);
        inside = within;
      }

  -- pages of the colour before one that a hint names are held
  pub held_before_lem : (h : ℕ) → h ≤ k → ((p : ℕ) → s ≤ p → p < s + h → has_colour counts j n p ≡ true → 0 < get_or ledger p 1)
      → HeldBefore colour h (take k (drop s ledger))
  unfolding HeldBefore has_colour colour_of
  held_before_lem h l was i u e =
      let at : get_or (take k (drop s ledger)) i 1 ≡ get_or ledger (s + i) 1 = get_or-take k (drop s ledger) i 1 (omega arith) ∙ get_or-drop s ledger i 1 in
      let first : (s + i) - s ≡ i = omega arith in
      rw at (was (s + i) (omega arith) (omega arith)
      (sym (same_colour j (first_page counts n) s (s + i) after (omega arith)) ∙ rw first (eq-eqb (i % 4) colour e)))

-- ---- the rules' words for it

module _ (counts ledger : List ℕ) (j n : ℕ) where
  -- a node that has a page for the job has room, and grants that page
  pub page_room : {p : ℕ} → some p ≡ page_for counts ledger j n → (has_room counts ledger n ≡ true) × (pick_page counts ledger j n ≡ p)
  unfolding page_for has_room pick_page keep first first_or is_nil
  page_room {p} e = go (free_pages counts ledger n) refl (keep (has_colour counts j n) (free_pages counts ledger n)) refl e
    where
      go : (ps : List ℕ) → free_pages counts ledger n ≡ ps → (cs : List ℕ) → keep (has_colour counts j n) ps ≡ cs → some p ≡ first (cs ++ ps)
          → (not (is_nil ps) ≡ true) × (first_or cs (first_or ps 0) ≡ p)
      go [] f [] g e = absurd (let z : ◌≡◌ {A = ℕ} 0 1 = cc in omega arith)
      go [] f (c ∷ cs) g e = absurd (let z : ◌≡◌ {A = ℕ} 0 1 = cc in omega arith)
      go (q ∷ ps) f [] g e = (refl, cc)
      go (q ∷ ps) f (c ∷ cs) g e = (refl, cc)

  -- one that has none has no room
  pub none_room : none ≡ page_for counts ledger j n → has_room counts ledger n ≡ false
  unfolding page_for has_room first is_nil
  none_room e = go (free_pages counts ledger n) (keep (has_colour counts j n) (free_pages counts ledger n)) e
    where
      go : (ps cs : List ℕ) → none ≡ first (cs ++ ps) → not (is_nil ps) ≡ false
      go [] cs e = refl
      go (q ∷ ps) [] e = absurd (let z : ◌≡◌ {A = ℕ} 0 1 = cc in omega arith)
      go (q ∷ ps) (c ∷ cs) e = absurd (let z : ◌≡◌ {A = ℕ} 0 1 = cc in omega arith)

-- ---- a grant by the node of a try

module _ (counts : List ℕ) (t : Tables) (j : ℕ) (s : Try) where
  -- it has a free page: the page is marked, the turn stored, the count taken down
  pub grants_page : {p : ℕ} → some p ≡ page_for counts t.ledger j s.node
      → outcome (granted (application_node (map_of t j) s.node) p)
      (tables_of (set t.ledger p (j + 1)) (put_record t.records j (with_turn (record_at t.records j) s.turn))
      (set t.free s.node (get_or t.free s.node 0 - 1)) t.maps)
      ≡ applied t (serve counts t j (some s))
  unfolding applied serve after_writes after_stores after_remaps
  grants_page e = let h = page_room counts t.ledger j s.node e in rw (h.0, h.1)

  -- the page lies in the node
  pub page_in_node : {p : ℕ} → some p ≡ page_for counts t.ledger j s.node → s.node ≡ node_of_page counts p
  page_in_node e =
      let h = page_room counts t.ledger j s.node e in
      sym (page_node (picked_page counts t.ledger s.node j h.0).page.of_node) ∙ ap (node_of_page counts) h.1

  -- it has none: 14
  pub grants_none : none ≡ page_for counts t.ledger j s.node → outcome (refused 14) t ≡ applied t (serve counts t j (some s))
  unfolding applied serve
  grants_none e = rw (none_room counts t.ledger j s.node e)

-- ---- the node that a search has chosen, and the count of a release

-- a node that is chosen is one of the machine's, with a count above 0
pub chose : (counts free : List ℕ) (ts : List Try) (s : Try) → length free ≡ length counts → some s ≡ chosen free ts → Chose counts free s.node
unfolding chosen counted
chose counts free ts s e h =
    let f = first_keep (λ s. counted free s.node) ts (sym h) in
    let above : 0 < get_or free s.node 0 = ltb-true 0 (get_or free s.node 0) f.passes in
    record { one_each = e; node = rw (sym e) (in_table_lem free s.node 0 (get_or free s.node 0) refl (λ z. omega arith)); above = above }

module _ (counts free : List ℕ) (n : ℕ) where
  -- M-100: "a release that would take a count above the node's pages"
  pub count_full : get_or counts n 0 ≤ get_or free n 0 → count_fits counts free n ≡ false
  unfolding count_fits
  count_full h = lt-leb (get_or free n 0 + 1) (get_or counts n 0) (omega arith)

  pub count_fits_lem : get_or free n 0 < get_or counts n 0 → count_fits counts free n ≡ true
  unfolding count_fits
  count_fits_lem h = le-leb (get_or free n 0 + 1) (get_or counts n 0) (omega arith)

-- ---- where a node's pages are

-- what a grant counts on says where they are
pub paged : {counts starts ledger : List ℕ} {j : ℕ} → Ready counts starts ledger j → Paged counts starts ledger
paged r = record { few = r.few; pages = r.pages; begin = r.begin; fits = r.fits }

module _ {counts starts ledger : List ℕ} (p : Paged counts starts ledger) (n : ℕ) (l : n < length counts) where
  -- where the node's pages start and end
  pub first_is : get_or starts n 0 ≡ first_page counts n
  first_is = p.begin.at n (omega arith)

  pub end_is : get_or starts (n + 1) 0 ≡ first_page counts n + get_or counts n 0
  end_is = p.begin.at (n + 1) (omega arith) ∙ pages_step counts n

  -- its part is in the page table
  pub inside : (get_or starts n 0 ≤ get_or starts (n + 1) 0) × (get_or starts (n + 1) 0 ≤ length ledger) × (get_or starts (n + 1) 0 ≤ 1048576)
  inside =
      let last = node_end counts n in
      let fits = p.fits in
      let pages = p.pages in
      let f = first_is in
      let e = end_is in
      (omega arith, omega arith, omega arith)
