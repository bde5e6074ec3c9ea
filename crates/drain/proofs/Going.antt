-- A drain on its way: so many pages of x are gone through, their moves are made and the pairs of these written.
-- Assumes nothing.
use Prim.Native.Nat.{ℕ, zero, suc, ◌+◌, ◌-◌, ◌*◌, ◌≤◌, ◌<◌}
use mathlib.Core.Path.{◌≡◌, refl, sym, ap, ap₂, ◌∙◌}
use mathlib.Core.List.{List, [], ◌∷◌, ◌++◌}
use mathlib.Core.Option.{Option, some}
use native.Mathlib.Omega.{arith}
use lib.ListN.{length, get_or, set, drop, length-append}
use Rattle.rules.specs.Basics.{each, sum}
use Rattle.rules.specs.Machine.{first_page}
use Rattle.rules.specs.Masks.{most_nodes}
use Rattle.rules.specs.Decisions.{accept}
use Rattle.rules.specs.Calls.{Tables, tables_of, after_writes, applied}
use Rattle.rules.specs.Drain.{Move, held_pages, move_writes, moved, moves, draining, pairs}
use Rattle.rules.proofs.Decisions.{went_on}
use Rattle.placement.proofs.Grants.{end_is}
use Rattle.drain.specs.Goals.{near_others, goal_by, after_move}
use Rattle.drain.specs.Moving.{MayCarry}
use Rattle.drain.specs.Reached.{Drainable, move_by, held_from, Reached}
use Rattle.drain.proofs.Pairs.{put_pair}
use Rattle.drain.proofs.Reached.{start_reached, step_free, step_held, goes_on, end_reached, drained_tables, moved_is}

-- ---- by the distances: the moves that are made

-- Of the moves ws, those of n pages of x are made, and lead from the tables `start` to `now`; their pairs take `at` numbers of the table `out`.
pub record Made (counts distances : List ℕ) (x : ℕ) (start : Tables) (out₀ : List ℕ) (ws : List Move) (n : ℕ) (now : Tables) (at : ℕ) (out : List ℕ)
    : Type 0 where
  pub vs : List Move
  pub reached : Reached counts distances x start n now vs
  pub place : at ≡ 2 * length vs
  pub written : 2 * length ws ≤ length out₀ → out ≡ pairs vs ++ drop (2 * length vs) out₀

-- no more moves are made than there are
made_few : {counts distances : List ℕ} {x n : ℕ} {start now : Tables} {vs ws : List Move} → Reached counts distances x start n now vs
    → moves counts distances x start (held_pages counts start.ledger x) ≡ accept ws → length vs ≤ length ws
made_few {counts} {distances} {x} {n} {start} {now} {vs} {ws} r e =
    let w = went_on (moves counts distances x now (held_from counts start.ledger x n)) _ (sym r.left ∙ e) in
    let is : ws ≡ vs ++ w.0 = cc in
    omega (arith, ap length is, length-append vs w.0)

-- before the first page
made_none : (counts distances : List ℕ) (x : ℕ) (start : Tables) (out₀ : List ℕ) (ws : List Move) {order starts : List ℕ}
    → Drainable counts starts x order start.ledger start.free → Made counts distances x start out₀ ws 0 start 0 out₀
unfolding pairs each
made_none counts distances x start out₀ ws d = record {
  vs = [];
  reached = start_reached counts distances x start d.matches;
  place = refl;
  written = λ l. refl;
}

module _ {counts distances : List ℕ} {x : ℕ} {start : Tables} {out₀ : List ℕ} {ws : List Move} {n : ℕ} {now : Tables} {at : ℕ} {out : List ℕ}
    (m : Made counts distances x start out₀ ws n now at out) where
  -- past a free page
  made_free : n < get_or counts x 0 → get_or start.ledger (first_page counts x + n) 0 ≡ 0 → Made counts distances x start out₀ ws (n + 1) now at out
  made_free l z = record { vs = m.vs; reached = step_free m.reached l z; place = m.place; written = m.written }

  module _ (few : length counts ≤ most_nodes) (node : x < length counts) (room : sum counts ≤ length start.ledger) (l : n < get_or counts x 0)
      (h : 0 < get_or start.ledger (first_page counts x + n) 0) where
    -- the byte of the page
    abbrev byte : ℕ
    byte = get_or start.ledger (first_page counts x + n) 0

    -- where it goes
    abbrev goal_next : Option ℕ
    goal_next = goal_by (length counts) (near_others (length counts) distances x) start.records start.maps now.free (byte - 1)

    -- past a held page, which is moved by v and whose pair is written if there is room
    made_held : moves counts distances x start (held_pages counts start.ledger x) ≡ accept ws → length out ≡ length out₀
        → (k : ℕ) → goal_next ≡ some k → {v : Move} → move_by counts now.ledger (first_page counts x + n) k byte ≡ v
        → {after : Tables} → after ≡ moved x now v
        → {out' : List ℕ} → (at + 2 ≤ length out → out' ≡ set (set out at v.old) (at + 1) v.new)
        → Made counts distances x start out₀ ws (n + 1) after (at + 2) out'
    made_held e long k g {v} is {after} f {out'} w =
        let r : Reached counts distances x start (n + 1) after (m.vs ++ (v ∷ [])) =
        rw (f, ← is) (step_held m.reached few node room l h k g) in
        let most = made_few r e in
        let one = length-append m.vs (v ∷ []) in
        let p = m.place in
        record {
          vs = m.vs ++ (v ∷ []);
          reached = r;
          place = omega (arith, p, one);
          written = λ fits.
              w (omega (arith, p, one, most, long, fits))
              ∙ ap (λ (t : List ℕ). set (set t at v.old) (at + 1) v.new) (m.written fits)
              ∙ ap (λ (i : ℕ). set (set (pairs m.vs ++ drop (2 * length m.vs) out₀) i v.old) (i + 1) v.new) p
              ∙ put_pair out₀ m.vs v (omega (arith, one, most, fits));
        }

-- ---- whatever the distances

-- Of node x the pages before page i are gone through.
pub record Gone (counts order : List ℕ) (x : ℕ) (start : Tables) (out₀ : List ℕ) (i : ℕ) (now : Tables) (at : ℕ) (out : List ℕ) : Type 0 where
  pub from : first_page counts x ≤ i
  pub to : i ≤ first_page counts x + get_or counts x 0
  pub few : at ≤ 2 * (i - first_page counts x)
  pub pages_long : length now.ledger ≡ length start.ledger
  pub free_long : length now.free ≡ length start.free
  pub out_long : length out ≡ length out₀
  pub made : (distances : List ℕ) (ws : List Move) → order ≡ near_others (length counts) distances x
      → moves counts distances x start (held_pages counts start.ledger x) ≡ accept ws
      → Made counts distances x start out₀ ws (i - first_page counts x) now at out

-- none are
pub none_gone : {counts starts order : List ℕ} {x : ℕ} {start : Tables} {out₀ : List ℕ} {i : ℕ}
    → Drainable counts starts x order start.ledger start.free → i ≡ first_page counts x → Gone counts order x start out₀ i start 0 out₀
none_gone {counts} {starts} {order} {x} {start} {out₀} {i} d e = record {
  from = omega arith;
  to = omega arith;
  few = omega arith;
  pages_long = refl;
  free_long = refl;
  out_long = refl;
  made = λ distances ws o m.
      let none : i - first_page counts x ≡ 0 = omega arith in
      rw none (made_none counts distances x start out₀ ws d);
}

-- a page before the next node's first is one of x's
pub page_inside : {counts starts order pages free : List ℕ} {x i : ℕ} → Drainable counts starts x order pages free → i < get_or starts (x + 1) 0
    → i < first_page counts x + get_or counts x 0
page_inside {x = x} d l = omega (arith, end_is d.paged x d.ordered.node)

module _ {counts starts order jobs maps pages₀ free₀ out₀ : List ℕ} {x : ℕ} (d : Drainable counts starts x order pages₀ free₀)
    {i at : ℕ} {pages free out : List ℕ} (g : Gone counts order x (tables_of pages₀ jobs free₀ maps) out₀ i (tables_of pages jobs free maps) at out) where
  abbrev start : Tables
  start = tables_of pages₀ jobs free₀ maps

  -- at the last page's end the tables and the pairs are those of the drain
  pub all_gone : i ≡ first_page counts x + get_or counts x 0 → (distances : List ℕ) (ws : List Move) → order ≡ near_others (length counts) distances x
      → moves counts distances x start (held_pages counts pages₀ x) ≡ accept ws
      → (tables_of pages jobs free maps ≡ (applied start (accept (draining x start ws))).tables)
      × (2 * length ws ≤ length out₀ → out ≡ pairs ws ++ drop (2 * length ws) out₀)
  all_gone e distances ws o m =
      let made = g.made distances ws o m in
      let all : i - first_page counts x ≡ get_or counts x 0 = omega arith in
      let r : Reached counts distances x start (get_or counts x 0) (tables_of pages jobs free maps) made.vs = rw all at made.reached in
      let z = sym (end_reached r) ∙ m in
      let same : made.vs ≡ ws = cc in (
        sym (drained_tables r) ∙ ap (λ (vs : List Move). (applied start (accept (draining x start vs))).tables) same,
        λ fits. made.written fits ∙ ap (λ (vs : List Move). pairs vs ++ drop (2 * length vs) out₀) same,
      )

  -- what is gone through, by some distances
  module _ (distances : List ℕ) (ws : List Move) (o : order ≡ near_others (length counts) distances x)
      (e : moves counts distances x start (held_pages counts pages₀ x) ≡ accept ws) where
    by_these : Made counts distances x start out₀ ws (i - first_page counts x) (tables_of pages jobs free maps) at out
    by_these = g.made distances ws o e

    -- the tables as they are now
    pub now_drainable : Drainable counts starts x order pages free
    now_drainable = record {
      paged = record { few = d.paged.few; pages = d.paged.pages; begin = d.paged.begin; fits = rw g.pages_long d.paged.fits };
      ordered = record {
        short = d.ordered.short;
        nodes = d.ordered.nodes;
        others = d.ordered.others;
        one_each = g.free_long ∙ d.ordered.one_each;
        node = d.ordered.node;
      };
      matches = by_these.reached.matches;
    }

    -- the next page
    module _ (l : i < first_page counts x + get_or counts x 0) where
      within : i - first_page counts x < get_or counts x 0
      within = omega (arith, g.from)

      here : first_page counts x + (i - first_page counts x) ≡ i
      here = omega (arith, g.from)

      -- it still has its byte
      abbrev first_byte : ℕ
      first_byte = get_or pages₀ (first_page counts x + (i - first_page counts x)) 0

      same_byte : first_byte ≡ get_or pages i 0
      same_byte =
          sym (by_these.reached.bytes (first_page counts x + (i - first_page counts x)) (omega arith) (omega (arith, within)))
          ∙ ap (λ (p : ℕ). get_or pages p 0) here

      -- it has somewhere to go if it is held
      same_goal : goal_by (length counts) order jobs maps free (get_or pages i 0 - 1)
          ≡ goal_by (length counts) (near_others (length counts) distances x) jobs maps free (first_byte - 1)
      same_goal = ap₂ (λ (ns : List ℕ) (b : ℕ). goal_by (length counts) ns jobs maps free (b - 1)) o (sym same_byte)

      pub next_carried : MayCarry counts order pages jobs free maps x i
      next_carried = record {
        start = g.from;
        end = l;
        goes = λ h.
            let k = goes_on by_these.reached d.paged.few d.ordered.node d.paged.fits within (omega (arith, h, same_byte)) e in
            (k.0, same_goal ∙ k.1);
      }

  -- What the code does with the next page.
  module _ (l : i < first_page counts x + get_or counts x 0) {at' : ℕ} {pages' free' out' : List ℕ}
      (stays : get_or pages i 0 ≡ 0 → (at' ≡ at) × (pages' ≡ pages) × (free' ≡ free) × (out' ≡ out))
      (goes : 0 < get_or pages i 0 → (k : ℕ) → goal_by (length counts) order jobs maps free (get_or pages i 0 - 1) ≡ some k
      → (at' ≡ at + 2) × (pages' ≡ after_writes pages (move_writes (move_by counts pages i k (get_or pages i 0)))) × (free' ≡ after_move x free k)
      × (at + 2 ≤ length out → out' ≡ set (set out at i) (at + 1) (move_by counts pages i k (get_or pages i 0)).new)) where
    module _ (distances : List ℕ) (ws : List Move) (o : order ≡ near_others (length counts) distances x)
        (e : moves counts distances x start (held_pages counts pages₀ x) ≡ accept ws) where
      -- the pair takes two numbers at most
      two_more : at' ≤ at + 2
      two_more = go (get_or pages i 0) refl
        where
          go : (b : ℕ) → get_or pages i 0 ≡ b → at' ≤ at + 2
          go zero z = omega (arith, (stays z).0)
          go (suc b) z =
              let h : 0 < get_or pages i 0 = omega arith in
              let k = (next_carried distances ws o e l).goes h in
              omega (arith, (goes h k.0 k.1).0)

      -- the move is made
      next_made : Made counts distances x start out₀ ws (i - first_page counts x + 1) (tables_of pages' jobs free' maps) at' out'
      unfolding moved
      next_made = go (get_or pages i 0) refl
        where
          go : (b : ℕ) → get_or pages i 0 ≡ b → Made counts distances x start out₀ ws (i - first_page counts x + 1) (tables_of pages' jobs free' maps) at' out'
          go zero z =
              let s = stays z in
              rw (s.0, s.1, s.2, s.3) (made_free (by_these distances ws o e) (within distances ws o e l) (same_byte distances ws o e l ∙ z))
          go (suc b) z =
              let h : 0 < get_or pages i 0 = omega arith in
              let k = (next_carried distances ws o e l).goes h in
              let s = goes h k.0 k.1 in
              let was = same_byte distances ws o e l in
              let is = ap₂ (λ (p c : ℕ). move_by counts pages p k.0 c) (here distances ws o e l) was in
              let now = tables_of pages jobs free maps in
              let after : tables_of pages' jobs free' maps ≡ moved x now (move_by counts pages i k.0 (get_or pages i 0)) =
              ap₂ (λ (t f : List ℕ). tables_of t jobs f maps) s.1 (s.2 ∙ sym (moved_is counts x now i k.0 (get_or pages i 0)).1) in
              rw s.0
              (made_held (by_these distances ws o e) d.paged.few d.ordered.node d.paged.fits (within distances ws o e l) (omega (arith, h, was)) e
              g.out_long k.0 (sym (same_goal distances ws o e l) ∙ k.1) is after s.3)

    -- one page more is gone through
    pub next_gone : (distances : List ℕ) (ws : List Move) → order ≡ near_others (length counts) distances x
        → moves counts distances x start (held_pages counts pages₀ x) ≡ accept ws
        → length pages' ≡ length pages → length free' ≡ length free → length out' ≡ length out
        → Gone counts order x start out₀ (i + 1) (tables_of pages' jobs free' maps) at' out'
    next_gone distances ws o e p f u = record {
      from = omega (arith, g.from);
      to = omega arith;
      few = omega (arith, g.from, g.few, two_more distances ws o e);
      pages_long = p ∙ g.pages_long;
      free_long = f ∙ g.free_long;
      out_long = u ∙ g.out_long;
      made = λ distances ws o e.
          let more : i + 1 - first_page counts x ≡ i - first_page counts x + 1 = omega (arith, g.from) in
          rw more (next_made distances ws o e);
    }
