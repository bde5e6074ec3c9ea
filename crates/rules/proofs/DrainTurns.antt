-- M-107, "Drain a board": where a page may go, and what each move of a drain says at its turn.
-- Assumes nothing.
use Prim.Native.Nat.{ℕ, ◌+◌, ◌≤◌, ◌<◌}
use mathlib.Core.Path.{◌≡◌, refl, sym, ap, subst, ◌∙◌}
use mathlib.Core.Logic.{◌↔◌, ◌≢◌}
use mathlib.Core.Bool.{true, false, not, ◌&&◌}
use mathlib.Core.Option.{some}
use mathlib.Core.List.Memᴰ
use mathlib.Core.List.{List, [], ◌∷◌, ◌++◌}
use native.Mathlib.Omega.{arith}
use borrow.Author.Tests.{ne_eqb}
use lib.Dec.{eqb}
use lib.ListN.{length, get_or}
use Rattle.rules.specs.Masks.{most_nodes, has}
use Rattle.rules.specs.Records.{record_at}
use Rattle.rules.specs.Maps.{set_of}
use Rattle.rules.specs.SearchOrder.{near, has_room, pick_page}
use Rattle.rules.specs.Decisions.{accept}
use Rattle.rules.specs.Calls.{Tables, after_stores, after_remaps, applied, map_of, limit_of}
use Rattle.rules.specs.Drain.{Move, held_pages, without, targets, goal, move_of, moved, moves}
use Rattle.rules.proofs.Admission.{FreePage, no_room}
use Rattle.rules.proofs.Calls.{DrainPasses}
use Rattle.rules.proofs.Drain.{after_moves, after_nil, after_cons, holder_byte, drain_queue}
use Rattle.rules.proofs.Lists.{◌∈◌, both_hold, fails, FirstOf, keep_first}
use Rattle.rules.proofs.Masks.{both_has, has_mask_of}
use Rattle.rules.proofs.Moves.{without_has, move_is, Queue, queue_first, queue_rest, others_kept, moves_cons, moves_nil}
use Rattle.rules.proofs.Near.{Reached, Nearer, NearOrder, near_order}
use Rattle.rules.proofs.Pages.{PageOf}
use Rattle.rules.proofs.Picked.{PickedPage}
use Rattle.rules.proofs.Sorted.{Sorted, sorted_head}

-- ---- the targets

-- "without x": the nodes of the set but x
has_without : (set x k : ℕ) → k < most_nodes → has (without set x) k ≡ (has set k && not (eqb k x))
unfolding without
has_without set x k l = has_mask_of most_nodes (λ k. has set k && not (eqb k x)) k l

module _ (n : ℕ) (distances : List ℕ) (limit x : ℕ) where
  x_left : has (without limit x) x ≡ false
  x_left = fails (λ e. (without_has limit x x e).1 refl)

  abbrev order : NearOrder n distances (without limit x) x (near n distances (without limit x) x)
  order = near_order n distances (without limit x) x

  targets_are : targets n distances limit x ≡ order.rest
  unfolding targets
  targets_are = order.x_left_out x_left

  -- "near(x), taken over its job's allowed set without x": each other node that the job may get and that x reaches
  pub targets_members : n ≤ most_nodes → (k : ℕ) → (k ∈ targets n distances limit x) ↔ Reached n distances limit x k
  targets_members few k = rw targets_are (λ i. there ((order.members k).0 i), λ r. (order.members k).1 (back r))
    where
      there : Reached n distances (without limit x) x k → Reached n distances limit x k
      there r = record {
        allowed = (without_has limit x k r.allowed).0;
        other = r.other;
        is_node = r.is_node;
        least = r.least;
        reachable = r.reachable;
      }

      back : Reached n distances limit x k → Reached n distances (without limit x) x k
      back r = record {
        allowed = has_without limit x k (omega (arith, r.is_node)) ∙ both_hold r.allowed (ap not (ne_eqb k x r.other));
        other = r.other;
        is_node = r.is_node;
        least = r.least;
        reachable = r.reachable;
      }

  -- "nearer first, lower number first when equal"
  pub targets_sorted : Sorted (Nearer n distances x) (targets n distances limit x)
  targets_sorted = rw targets_are order.sorted

  -- "nowhere to go": no target has room exactly when no such node has a free page
  pub nowhere_to_go : (counts ledger : List ℕ) → n ≤ most_nodes
      → ((k : ℕ) → k ∈ targets n distances limit x → has_room counts ledger k ≡ false)
      ↔ ((k q : ℕ) → Reached n distances limit x k → FreePage counts ledger k q → ⊥)
  nowhere_to_go counts ledger few = (
    λ h k q r f. (no_room counts ledger k).0 (h k ((targets_members few k).1 r)) q f,
    λ h k i. (no_room counts ledger k).1 (λ q f. h k q ((targets_members few k).0 i) f),
  )

-- ---- each move at its turn

-- What a move of a drain of node x says: `t` are the tables at the start, `now` those at its turn.
pub record AtTurn (counts distances : List ℕ) (x : ℕ) (t now : Tables) (v : Move) : Type 0 where
  -- "x's held pages": the page that is left is one of x's, and its holder's from the start
  pub of_node : PageOf counts x v.old
  pub held_before : get_or t.ledger v.old 0 ≡ v.job + 1
  pub held_now : get_or now.ledger v.old 0 ≡ v.job + 1
  -- "its job's allowed set without x"; "a target must be in the job's map"
  pub other : v.node ≢ x
  pub is_node : v.node < length counts
  pub allowed : has (record_at t.records v.job).allowed v.node ≡ true
  pub mapped : has (set_of (map_of t v.job)) v.node ≡ true
  -- "the first node with room in near(x)": those before it have none
  pub goal_is : goal counts distances now x v.job ≡ some v.node
  pub first_room : FirstOf (has_room counts now.ledger) (targets (length counts) distances (limit_of t v.job) x) v.node
  -- "the lowest free page"; "M-105's colours apply to the page"
  pub was_free : FreePage counts now.ledger v.node v.new
  pub new_is : v.new ≡ pick_page counts now.ledger v.job v.node
  pub picked : PickedPage counts now.ledger v.job v.node v.new

-- moves change neither record nor map, and so no limit
limit_kept : (x : ℕ) (t : Tables) (vs : List Move) (j : ℕ) → limit_of (after_moves x t vs) j ≡ limit_of t j
unfolding limit_of map_of applied after_stores after_remaps
limit_kept x t vs j = refl

-- The page whose turn comes after some moves, and those after it.
record Next (counts distances : List ℕ) (x : ℕ) (t : Tables) (ps : List ℕ) (now : Tables) (v : Move) : Type 0 where
  page : ℕ
  later : List ℕ
  waiting : page ∈ ps
  queue : Queue counts now.ledger x (page ∷ later)
  moves_so : move_of counts distances now x page ≡ accept v
  same_byte : get_or now.ledger page 0 ≡ get_or t.ledger page 0

module _ (counts distances : List ℕ) (x : ℕ) where
  no_next : {A : Type 0} (t : Tables) (done : List Move) (v : Move) (rest : List Move) → moves counts distances x t [] ≡ accept (done ++ (v ∷ rest)) → A
  no_next t [] v rest e = let z = moves_nil counts distances x t e in absurd (let n : ◌≡◌ {A = ℕ} 0 1 = cc in omega arith)
  no_next t (d ∷ done) v rest e = let z = moves_nil counts distances x t e in absurd (let n : ◌≡◌ {A = ℕ} 0 1 = cc in omega arith)

  next_at : (t : Tables) (ps : List ℕ) (done : List Move) (v : Move) (rest : List Move) → Queue counts t.ledger x ps
      → moves counts distances x t ps ≡ accept (done ++ (v ∷ rest)) → Next counts distances x t ps (after_moves x t done) v
  next_at t [] done v rest q e = no_next t done v rest e
  next_at t (p ∷ ps) [] v rest q e =
      let c = moves_cons counts distances x t p ps e in
      let is : c.0 ≡ v = cc in
      rw (after_nil x t)
      record { page = p; later = ps; waiting = Memᴰ.head refl; queue = q; moves_so = c.3 ∙ ap accept is; same_byte = refl }
  next_at t (p ∷ ps) (d ∷ done) v rest q e =
      let c = moves_cons counts distances x t p ps e in
      let is : d ≡ c.0 = cc in
      let others : c.1 ≡ done ++ (v ∷ rest) = cc in
      let m = move_is counts distances t x p c.3 in
      let h = queue_first q m in
      let n = next_at (moved x t c.0) ps done v rest (queue_rest q m) (c.4 ∙ ap accept others) in
      let apart : n.page ≢ p = λ z. let l = sorted_head q.rising n.page n.waiting in omega arith in
      let o = (q.each_held n.page (Memᴰ.tail n.waiting)).of_node in
      rw (is, after_cons x t c.0 done)
      record {
        page = n.page;
        later = n.later;
        waiting = Memᴰ.tail n.waiting;
        queue = n.queue;
        moves_so = n.moves_so;
        same_byte = n.same_byte ∙ others_kept h m n.page o apart;
      }

module _ {counts distances : List ℕ} {x : ℕ} {t : Tables} {room : ℕ} {vs : List Move} (d : DrainPasses counts distances x t room vs) where
  -- "at its turn": whatever moves were done before
  pub at_turn : (done : List Move) (v : Move) (rest : List Move) → vs ≡ done ++ (v ∷ rest) → AtTurn counts distances x t (after_moves x t done) v
  unfolding goal limit_of
  at_turn done v rest e =
      let n = next_at counts distances x t (held_pages counts t.ledger x) done v rest (drain_queue d) (d.moved_so ∙ ap accept e) in
      let m = move_is counts distances (after_moves x t done) x n.page n.moves_so in
      let h = queue_first n.queue m in
      let is = m.old in
      let limits = both_has (record_at t.records v.job).allowed (set_of (map_of t v.job)) v.node
      (subst (λ (l : ℕ). has l v.node ≡ true) (limit_kept x t done v.job) m.target.allowed) in
      record {
        of_node = rw is h.of_node;
        held_before = rw is (sym n.same_byte ∙ holder_byte h m);
        held_now = rw is (holder_byte h m);
        other = m.target.other;
        is_node = m.target.node;
        allowed = limits.0;
        mapped = limits.1;
        goal_is = keep_first m.first_room;
        first_room = rw (sym (limit_kept x t done v.job)) m.first_room;
        was_free = m.picked.page;
        new_is = m.new;
        picked = m.picked;
      }
