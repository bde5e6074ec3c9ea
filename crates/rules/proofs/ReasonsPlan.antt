-- Request M-106: how a well-formed record searches, by its mode: by near(x) in modes 0 to 3, by its places in modes 4 to 6.
-- Assumes nothing.
use Prim.Native.Nat.{ℕ, zero, suc, ◌^◌, ◌≤◌, ◌<◌}
use mathlib.Core.Path.{◌≡◌, refl, ap, ◌∙◌}
use mathlib.Core.Logic.{◌↔◌, ⊎_elim}
use mathlib.Core.Bool.{Bool, true, false, not, ◌&&◌, cond, false≢true, or-true}
use mathlib.Core.List.{List, ◌∷◌, map}
use mathlib.Core.Option.{Option, none, some}
use native.Mathlib.Decide.{ℕ_discrete}
use native.Mathlib.Omega.{arith}
use borrow.Author.Tests.{eqb-true, eq-eqb, not-true}
use lib.Dec.{eqb}
use lib.ListN.{length}
use lib.Seq.{length-take-le}
use Rattle.rules.specs.Basics.{any}
use Rattle.rules.specs.Machine.{distance}
use Rattle.rules.specs.Masks.{most_nodes, is_empty}
use Rattle.rules.specs.Records.{Record, Turn, last_is, places_per_job, places_of, closes, default, bind, mode_of, carries, aList, row_of, cursor_limit}
use Rattle.rules.specs.Records.{well_formed}
use Rattle.rules.specs.SearchOrder.{Try, try, Plan, nearest, node_at, ring_places, ring_tries, target, interleaved, listed, plan_in, mode_in_force, plan}
use Rattle.rules.specs.Reasons.{is_far, unreachable, names, unnamed}
use Rattle.rules.proofs.Lists.{both_true, both_hold, either_true, at_member, member_at, around_below}
use Rattle.rules.proofs.Turns.{all_round}
use Rattle.rules.proofs.Target.{no_target}
use Rattle.rules.proofs.WellFormed.{Formed, formed, effective_lt, user_some, effective_some, carries_list, list_in_force, mode_small}
use Rattle.rules.proofs.ReasonsOf.{map_names}

-- some place of the record names node n
abbrev pub NamedBy : Record → ℕ → Type 0
NamedBy r n = (p : ℕ) × (p < r.len) × (node_at r p ≡ n)

-- How a record of mode 4 to 6 searches: by tries of the nodes that its places name, and then, if it is of mode 4 and they close, by near(x).
pub record ByPlaces (limit : ℕ) (r : Record) (x : ℕ) : Type 0 where
  pub tries : List Try
  pub closing : Bool
  pub searches : plan limit r x ≡ listed closing tries x r.turn
  pub closes_if : closing ≡ (eqb r.mode 4 && closes (places_of r))
  pub named : (n : ℕ) → (names tries n ≡ true) ↔ NamedBy r n
  pub not_bind : mode_in_force r ≡ bind → ⊥

-- by places no node is unreachable
pub listed_reached : (N : ℕ) (distances : List ℕ) (closing : Bool) (ts : List Try) (x : ℕ) (turn : Turn) (n : ℕ)
    → unreachable N distances (listed closing ts x turn) n ≡ false
unfolding unreachable listed
listed_reached N distances true ts x turn n = refl
listed_reached N distances false ts x turn n = refl

-- "named by no place, .. (under a closing 255: nor reachable)"
pub listed_unnamed : (N : ℕ) (distances : List ℕ) (closing : Bool) (ts : List Try) (x : ℕ) (turn : Turn) (n : ℕ)
    → (unnamed N distances (listed closing ts x turn) n ≡ true) ↔ ((names ts n ≡ false) × (closing ≡ true → distance N distances x n ≡ 255))
unfolding unnamed listed is_far
listed_unnamed N distances true ts x turn n = (
  λ e. let h = both_true {a = not (names ts n)} e in (not-true (names ts n) h.0, λ q. eqb-true _ 255 h.1),
  λ h. both_hold (ap not h.0) (eq-eqb _ 255 (h.1 refl)),
)
listed_unnamed N distances false ts x turn n = (λ e. (not-true (names ts n) e, λ q. absurd (false≢true q)), λ h. ap not h.0)

module _ (limit : ℕ) (r : Record) (x : ℕ) (N : ℕ) (h : Formed N r) (sixteen : length r.bytes ≡ places_per_job) where
  -- "List: places in order"
  list_names : r.len ≤ places_per_job → (n : ℕ) → (names (map (try r.turn) (places_of r)) n ≡ true) ↔ NamedBy r n
  unfolding node_at places_of
  list_names few n =
      let named = map_names (try r.turn) (places_of r) n in
      let long : length (places_of r) ≡ r.len = length-take-le r.len r.bytes (omega arith) in (
        λ e. let s = named.0 e in let i = at_member 0 s.1 in (i.0, omega (arith, i.1), i.2 ∙ s.2),
        λ k. named.1 (node_at r k.0, member_at (places_of r) k.0 0 (omega (arith, k.1)), k.2),
      )

  -- "Ring: places from one past the cursor, once round"
  ring_names : r.turn.cursor ≤ r.len → (n : ℕ) → (names (ring_tries r) n ≡ true) ↔ NamedBy r n
  unfolding ring_tries
  ring_names inside n =
      let named = map_names (λ p. try (last_is p) (node_at r p)) (ring_places r) n in (
        λ e. let s = named.0 e in (s.0, around_below r.len r.turn.cursor s.1, s.2),
        λ k. named.1 (k.0, all_round r.len 0 r.turn.cursor inside k.0 k.1, k.2),
      )

  -- "Early: place 0, then as ring"
  early_names : 1 ≤ r.len → r.turn.cursor ≤ r.len → (n : ℕ) → (names (try (last_is 0) (node_at r 0) ∷ ring_tries r) n ≡ true) ↔ NamedBy r n
  unfolding names any
  early_names least inside n = (
    λ e. ⊎_elim (λ q. (0, least, eqb-true (node_at r 0) n q)) (ring_names inside n).0 (either_true {a = eqb (node_at r 0) n} e),
    λ k. rw ((ring_names inside n).1 k) (or-true (eqb (node_at r 0) n)),
  )

  -- what a list mode says of the record
  in_list_mode : (k : ℕ) → r.mode ≡ k → carries (mode_of k) ≡ aList
      → (mode_in_force r ≡ mode_of k) × (1 ≤ r.len) × (r.len ≤ places_per_job) × (r.turn.cursor ≤ cursor_limit N r.len (row_of (mode_of k)).cursor)
  in_list_mode k e c =
      let own : carries (mode_of r.mode) ≡ aList = rw e c in
      let d = carries_list N r (rw own at h.data_fits_lem) in
      (list_in_force N r h own ∙ ap mode_of e, d.3, d.4, rw e at h.cursor_within)

  -- modes 4 to 6 search by places
  pub by_places_lem : 4 ≤ r.mode → ByPlaces limit r x
  unfolding plan plan_in listed row_of cursor_limit
  by_places_lem l = go (ℕ_discrete r.mode 4) (ℕ_discrete r.mode 5)
    where
      go : Dec (r.mode ≡ 4) → Dec (r.mode ≡ 5) → ByPlaces limit r x
      go (yes e) d =
          let f = in_list_mode 4 e refl in
          record {
            tries = map (try r.turn) (places_of r);
            closing = closes (places_of r);
            searches = rw f.0 refl;
            closes_if = rw e refl;
            named = list_names f.2;
            not_bind = λ q. let z : ◌≡◌ {A = ℕ} 0 1 = cc f.0 in omega arith;
          }
      go (no d) (yes e) =
          let f = in_list_mode 5 e refl in
          record {
            tries = ring_tries r;
            closing = false;
            searches = rw f.0 refl;
            closes_if = rw e refl;
            named = ring_names f.3;
            not_bind = λ q. let z : ◌≡◌ {A = ℕ} 0 1 = cc f.0 in omega arith;
          }
      go (no d) (no c) =
          let e : r.mode ≡ 6 = omega (arith, mode_small r.mode h.mode_known_lem) in
          let f = in_list_mode 6 e refl in
          record {
            tries = try (last_is 0) (node_at r 0) ∷ ring_tries r;
            closing = false;
            searches = rw f.0 refl;
            closes_if = rw e refl;
            named = early_names f.1 f.3;
            not_bind = λ q. let z : ◌≡◌ {A = ℕ} 0 1 = cc f.0 in omega arith;
          }

-- ---- modes 0 to 3

-- a plan by near(x), for some x
abbrev pub ByNear : Plan → Type 0
ByNear p = (set : ℕ) × (y : ℕ) × (turn : Turn) × (p ≡ nearest set y turn)

module _ (limit : ℕ) (r : Record) (x : ℕ) (N : ℕ) (few : N ≤ most_nodes) (w : well_formed N r ≡ true) (word : r.user < 2 ^ most_nodes) where
  -- interleave has a target
  to_target : r.mode ≡ 3 → 0 < r.effective → (o : Option ℕ) → target r.effective r.turn.cursor ≡ o → ByNear (interleaved limit o)
  unfolding interleaved cursor_limit row_of
  to_target three p (some y) e = (limit, y, last_is y, refl)
  to_target three p none e =
      let h = formed N r w in
      let within : r.turn.cursor ≤ N = rw three at h.cursor_within in
      absurd (omega (arith, no_target N r.effective r.turn.cursor few (effective_lt N r few h) within e))

  -- they search by near(x)
  pub by_near : r.mode < 4 → ByNear (plan limit r x)
  unfolding plan mode_in_force plan_in row_of
  by_near l = go (eqb r.flag 1 && is_empty r.effective) refl r.mode refl l
    where
      go : (b : Bool) → (eqb r.flag 1 && is_empty r.effective) ≡ b → (k : ℕ) → r.mode ≡ k → k < 4 → ByNear (plan_in (cond b default (mode_of k)) limit r x)
      go true e k m l = (_, _, _, refl)
      go false e zero m l = (_, _, _, refl)
      go false e (suc zero) m l = (_, _, _, refl)
      go false e (suc (suc zero)) m l = (_, _, _, refl)
      go false e (suc (suc (suc zero))) m l =
          let h = formed N r w in
          to_target m (effective_some N r few h (rw m refl) word (user_some N r h (rw m refl) (λ z. omega arith)) e) _ refl
      go false e (suc (suc (suc (suc k)))) m l = absurd (omega arith)
