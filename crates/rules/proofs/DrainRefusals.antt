-- M-107, "Drain a board": when a drain is refused, and with which number; and the drain in a list of calls.
-- Assumes nothing.
use Prim.Native.Nat.{ℕ, ◌-◌, ◌*◌, ◌≤◌, ◌<◌}
use mathlib.Core.Path.{◌≡◌, refl, sym, ap, ap₂, subst, ◌∙◌}
use mathlib.Core.Logic.{◌↔◌, ◌⊎◌, inl, inr}
use mathlib.Core.Bool.{Bool, true, false, ◌&&◌, true≢false}
use mathlib.Core.Option.{Option, none, some}
use mathlib.Core.List.{List, [], ◌∷◌, ◌++◌, map}
use native.Mathlib.Omega.{arith}
use borrow.Author.Tests.{ltb-true, ltb-false, lt-ltb, leb-false, lt-leb}
use lib.Dec.{leb, ltb}
use lib.ListN.{length, get_or, drop}
use Rattle.rules.specs.Machine.{Machine}
use Rattle.rules.specs.Records.{record_at, well_formed}
use Rattle.rules.specs.SearchOrder.{has_room}
use Rattle.rules.specs.Decisions.{Decision, refuse, accept, unless, then, decided}
use Rattle.rules.specs.Calls.{drained, refused, Tables, Outcome, applied, is_job, is_mapped, limit_of}
use Rattle.rules.specs.Drain.{Move, held_pages, targets, is_movable, goal, move_to, move_of, moved, moves, draining, drain_tables_ok, counts_match}
use Rattle.rules.specs.Drain.{pairs, moves_within, drain_moves, drain_decision, Drained, did_drain, on_drain}
use Rattle.rules.specs.Book.{drain, decision, step}
use Rattle.rules.specs.FreeCounts.{Matches}
use Rattle.rules.proofs.Calls.{DrainPasses, drain_moves_lem}
use Rattle.rules.proofs.Decisions.{not_accepted}
use Rattle.rules.proofs.Drain.{after_moves, after_nil, after_cons, counts_match_lem}
use Rattle.rules.proofs.Lists.{◌∈◌, any_false, none_any, first_none}
use Rattle.rules.proofs.Moves.{move_is, moves_cons}

-- ---- a page that does not move

-- "If any page has nowhere to go at its turn, or its byte names no job, or the job's record or map is malformed": page p, on the tables `now`
pub data Stuck (counts distances : List ℕ) (x : ℕ) (now : Tables) (p : ℕ) : Type 0 where
  no_job : is_job now.records (get_or now.ledger p 0 - 1) ≡ false → Stuck counts distances x now p
  bad_map : is_mapped (length counts) now (get_or now.ledger p 0 - 1) ≡ false → Stuck counts distances x now p
  malformed : well_formed (length counts) (record_at now.records (get_or now.ledger p 0 - 1)) ≡ false → Stuck counts distances x now p
  nowhere : ((n : ℕ) → n ∈ targets (length counts) distances (limit_of now (get_or now.ledger p 0 - 1)) x → has_room counts now.ledger n ≡ false)
      → Stuck counts distances x now p

-- a test of three parts of which one fails
one_fails : {A : Type 0} (a b c : Bool) (d : Decision A) → (a ≡ false) ⊎ ((b ≡ false) ⊎ (c ≡ false)) → unless (a && b && c) 17 d ≡ refuse 17
one_fails false b c d h = refl
one_fails true false c d h = refl
one_fails true true false d h = refl
one_fails true true true d (inl e) = absurd (true≢false e)
one_fails true true true d (inr (inl e)) = absurd (true≢false e)
one_fails true true true d (inr (inr e)) = absurd (true≢false e)

module _ (counts distances : List ℕ) (x : ℕ) (t : Tables) (p : ℕ) where
  job_of : ℕ
  job_of = get_or t.ledger p 0 - 1

  not_movable : is_movable (length counts) t job_of ≡ false → Stuck counts distances x t p
  unfolding is_movable job_of
  not_movable e =
      go (is_job t.records job_of) (is_mapped (length counts) t job_of) (well_formed (length counts) (record_at t.records job_of)) refl refl refl e
    where
      go : (a b c : Bool) → is_job t.records job_of ≡ a → is_mapped (length counts) t job_of ≡ b
          → well_formed (length counts) (record_at t.records job_of) ≡ c → (a && b && c) ≡ false → Stuck counts distances x t p
      go false b c k l m e = no_job k
      go true false c k l m e = bad_map l
      go true true false k l m e = malformed m
      go true true true k l m e = absurd (true≢false e)

  -- it is refused, and with 17
  move_stuck : {r : ℕ} → move_of counts distances t x p ≡ refuse r → (r ≡ 17) × Stuck counts distances x t p
  unfolding move_of move_to goal job_of
  move_stuck {r} e = go (is_movable (length counts) t job_of) refl (goal counts distances t x job_of) refl e
    where
      go : (b : Bool) → is_movable (length counts) t job_of ≡ b → (o : Option ℕ) → goal counts distances t x job_of ≡ o
          → unless b 17 (move_to counts t p job_of o) ≡ refuse r → (r ≡ 17) × Stuck counts distances x t p
      go false f o g e = let same : r ≡ 17 = cc in (same, not_movable f)
      go true f none g e =
          let same : r ≡ 17 = cc in
          (same, nowhere (λ n i. any_false (has_room counts t.ledger) ((first_none (has_room counts t.ledger) _).0 g) i))
      go true f (some n) g e = absurd (not_accepted r _ e refl)

  -- and only such a page is
  stuck_move : Stuck counts distances x t p → move_of counts distances t x p ≡ refuse 17
  unfolding move_of move_to goal is_movable job_of
  stuck_move (no_job e) = rw e
  stuck_move (bad_map e) =
      one_fails (is_job t.records job_of) (is_mapped (length counts) t job_of) (well_formed (length counts) (record_at t.records job_of)) _ (inr (inl e))
  stuck_move (malformed e) =
      one_fails (is_job t.records job_of) (is_mapped (length counts) t job_of) (well_formed (length counts) (record_at t.records job_of)) _ (inr (inr e))
  stuck_move (nowhere h) =
      rw ((first_none (has_room counts t.ledger) _).1 (none_any (has_room counts t.ledger) _ h)) (go (is_movable (length counts) t job_of))
    where
      go : (b : Bool) → unless {A = Move} b 17 (refuse 17) ≡ refuse 17
      go true = refl
      go false = refl

-- ---- where the moves of some pages stop

-- "at its turn": some pages are moved, and the next one does not move
pub record StuckAt (counts distances : List ℕ) (x : ℕ) (t : Tables) (ps : List ℕ) : Type 0 where
  pub done : List Move
  pub page : ℕ
  pub later : List ℕ
  pub pages : ps ≡ map (λ v. v.old) done ++ (page ∷ later)
  pub moved_so : moves counts distances x t (map (λ v. v.old) done) ≡ accept done
  pub stuck : Stuck counts distances x (after_moves x t done) page

module _ (counts distances : List ℕ) (x : ℕ) where
  -- a page moves, and then others do
  go_on : (t : Tables) (v : Move) (ps : List ℕ) {vs : List Move} → move_of counts distances t x v.old ≡ accept v
      → moves counts distances x (moved x t v) ps ≡ accept vs → moves counts distances x t (v.old ∷ ps) ≡ accept (v ∷ vs)
  unfolding moves
  go_on t v ps e f = rw (e, f)

  -- whatever number the moves are refused with is 17, and some page is stuck at its turn
  pub moves_stuck : (t : Tables) (ps : List ℕ) {r : ℕ} → moves counts distances x t ps ≡ refuse r → (r ≡ 17) × StuckAt counts distances x t ps
  unfolding moves
  moves_stuck t [] {r} e = absurd (not_accepted r _ e refl)
  moves_stuck t (p ∷ ps) {r} e = first_move (move_of counts distances t x p) refl (λ v f. moves_stuck (moved x t v) ps f) e
    where
      Later : Type 0
      Later = (v : Move) → moves counts distances x (moved x t v) ps ≡ refuse r → (r ≡ 17) × StuckAt counts distances x (moved x t v) ps

      others : (v : Move) → move_of counts distances t x p ≡ accept v → (d : Decision (List Move)) → moves counts distances x (moved x t v) ps ≡ d → Later
          → then d (λ vs. accept (v ∷ vs)) ≡ refuse r → (r ≡ 17) × StuckAt counts distances x t (p ∷ ps)
      others v f (accept vs) g ih e = absurd (not_accepted r _ e refl)
      others v f (refuse q) g ih e =
          let same : q ≡ r = cc in
          let s = ih v (g ∙ ap refuse same) in
          let w = s.1 in
          let old = (move_is counts distances t x p f).old in (
            s.0,
            record {
              done = v ∷ w.done;
              page = w.page;
              later = w.later;
              pages = ap₂ (λ (i : ℕ) (is : List ℕ). i ∷ is) (sym old) w.pages;
              moved_so = go_on t v (map (λ v. v.old) w.done) (subst (λ (i : ℕ). move_of counts distances t x i ≡ accept v) (sym old) f) w.moved_so;
              stuck = rw (after_cons x t v w.done) w.stuck;
            },
          )

      first_move : (d : Decision Move) → move_of counts distances t x p ≡ d → Later
          → then d (λ v. then (moves counts distances x (moved x t v) ps) (λ vs. accept (v ∷ vs))) ≡ refuse r → (r ≡ 17) × StuckAt counts distances x t (p ∷ ps)
      first_move (refuse q) f ih e =
          let same : q ≡ r = cc in
          let s = move_stuck counts distances x t p f in
          (sym same ∙ s.0, record { done = []; page = p; later = ps; pages = refl; moved_so = refl; stuck = rw (after_nil x t) s.1 })
      first_move (accept v) f ih e = others v f (moves counts distances x (moved x t v) ps) refl ih e

  -- pages that move, and others that are refused after them
  refused_after : (t : Tables) (done : List Move) (ps : List ℕ) (r : ℕ) → moves counts distances x t (map (λ v. v.old) done) ≡ accept done
      → moves counts distances x (after_moves x t done) ps ≡ refuse r → moves counts distances x t (map (λ v. v.old) done ++ ps) ≡ refuse r
  unfolding moves
  refused_after t [] ps r e f = rw (sym (after_nil x t)) f
  refused_after t (v ∷ done) ps r e f =
      let c = moves_cons counts distances x t v.old (map (λ v. v.old) done) e in
      let is : c.0 ≡ v = cc in
      let others : c.1 ≡ done = cc in
      let first : move_of counts distances t x v.old ≡ accept v = c.3 ∙ ap accept is in
      let rest : moves counts distances x (moved x t v) (map (λ v. v.old) done) ≡ accept done = rw (sym is) (c.4 ∙ ap accept others) in
      rw (first, refused_after (moved x t v) done ps r rest (rw (sym (after_cons x t v done)) f))

  -- some page stuck at its turn: 17
  pub stuck_moves : (t : Tables) (ps : List ℕ) → StuckAt counts distances x t ps → moves counts distances x t ps ≡ refuse 17
  unfolding moves
  stuck_moves t ps s =
      rw s.pages
      (refused_after t s.done (s.page ∷ s.later) 17 s.moved_so (rw (stuck_move counts distances x (after_moves x t s.done) s.page s.stuck)))

-- ---- what a drain comes to

-- "Test 1, then x below N (else 6), 14": a drain that passes these
pub record DrainTests (counts distances : List ℕ) (x : ℕ) (t : Tables) : Type 0 where
  pub tables_ok : drain_tables_ok counts distances t ≡ true
  pub node : x < length counts
  pub matching : Matches counts t

module _ (counts distances : List ℕ) (x : ℕ) (t : Tables) (room : ℕ) where
  abbrev pages : List ℕ
  pages = held_pages counts t.ledger x

  -- "Test 1, then x below N (else 6), 14, 17, 11": each with all that comes before it passed
  pub data DrainComes : Type 0 where
    bad_tables : drain_tables_ok counts distances t ≡ false → drain_moves counts distances x t room ≡ refuse 1 → DrainComes
    no_node : drain_tables_ok counts distances t ≡ true → length counts ≤ x → drain_moves counts distances x t room ≡ refuse 6 → DrainComes
    wrong_counts : drain_tables_ok counts distances t ≡ true → x < length counts → (Matches counts t → ⊥)
        → drain_moves counts distances x t room ≡ refuse 14 → DrainComes
    stuck : DrainTests counts distances x t → StuckAt counts distances x t pages → drain_moves counts distances x t room ≡ refuse 17 → DrainComes
    no_room : DrainTests counts distances x t → (vs : List Move) → moves counts distances x t pages ≡ accept vs → room < 2 * length vs
        → drain_moves counts distances x t room ≡ refuse 11 → DrainComes
    drains : (vs : List Move) → DrainPasses counts distances x t room vs → drain_moves counts distances x t room ≡ accept vs → DrainComes

  -- with counts that match the drain goes by the moves alone
  passes_moves : DrainTests counts distances x t
      → drain_moves counts distances x t room ≡ then (moves counts distances x t pages) (λ vs. unless (leb (2 * length vs) room) 11 (accept vs))
  unfolding drain_moves moves_within
  passes_moves d = rw (d.tables_ok, lt-ltb x (length counts) d.node, (counts_match_lem counts t).1 d.matching)

  -- each drain is one of these
  pub drain_comes : DrainComes
  drain_comes = tables (drain_tables_ok counts distances t) refl
    where
      room_for : DrainTests counts distances x t → (vs : List Move) → moves counts distances x t pages ≡ accept vs
          → (b : Bool) → leb (2 * length vs) room ≡ b → DrainComes
      room_for d vs e true f =
          let is : drain_moves counts distances x t room ≡ accept vs = passes_moves d ∙ rw (e, f) in
          drains vs (drain_moves_lem counts distances x t room is) is
      room_for d vs e false f = no_room d vs e (leb-false (2 * length vs) room f) (passes_moves d ∙ rw (e, f))

      moving : DrainTests counts distances x t → (d : Decision (List Move)) → moves counts distances x t pages ≡ d → DrainComes
      moving d (refuse r) e =
          let s = moves_stuck counts distances x t pages e in
          stuck d s.1 (passes_moves d ∙ rw (e, s.0))
      moving d (accept vs) e = room_for d vs e (leb (2 * length vs) room) refl

      counted : drain_tables_ok counts distances t ≡ true → x < length counts → (b : Bool) → counts_match counts t ≡ b → DrainComes
      counted k l true e =
          moving (record { tables_ok = k; node = l; matching = (counts_match_lem counts t).0 e }) (moves counts distances x t pages) refl
      counted k l false e =
          wrong_counts k l (λ a. true≢false (sym ((counts_match_lem counts t).1 a) ∙ e)) (unfold drain_moves in rw (k, lt-ltb x (length counts) l, e))

      node : drain_tables_ok counts distances t ≡ true → (b : Bool) → ltb x (length counts) ≡ b → DrainComes
      node k true e = counted k (ltb-true x (length counts) e) (counts_match counts t) refl
      node k false e = no_node k (ltb-false x (length counts) e) (unfold drain_moves in rw (k, e))

      tables : (b : Bool) → drain_tables_ok counts distances t ≡ b → DrainComes
      tables true e = node e (ltb x (length counts)) refl
      tables false e = bad_tables e (unfold drain_moves in rw e)

  -- the tests of an accepted drain
  pub passes_tests : {vs : List Move} → DrainPasses counts distances x t room vs → DrainTests counts distances x t
  passes_tests d = record { tables_ok = d.tables_ok; node = d.node; matching = (counts_match_lem counts t).0 d.matching }

  -- a drain is refused 17 exactly when it passes 1, 6 and 14 and some page is stuck at its turn
  pub refused_17 : (drain_moves counts distances x t room ≡ refuse 17) ↔ (DrainTests counts distances x t × StuckAt counts distances x t pages)
  refused_17 = (λ e. go e drain_comes, λ h. passes_moves h.0 ∙ rw (stuck_moves counts distances x t pages h.1))
    where
      go : drain_moves counts distances x t room ≡ refuse 17 → DrainComes → DrainTests counts distances x t × StuckAt counts distances x t pages
      go e (bad_tables a f) = absurd (let z : ◌≡◌ {A = ℕ} 1 17 = cc in omega arith)
      go e (no_node a b f) = absurd (let z : ◌≡◌ {A = ℕ} 6 17 = cc in omega arith)
      go e (wrong_counts a b c f) = absurd (let z : ◌≡◌ {A = ℕ} 14 17 = cc in omega arith)
      go e (stuck d s f) = (d, s)
      go e (no_room d vs a b f) = absurd (let z : ◌≡◌ {A = ℕ} 11 17 = cc in omega arith)
      go e (drains vs a f) = absurd (not_accepted 17 _ e f)

  -- "a table too short is 11": exactly when every page moves, and there is no room for two numbers a move
  pub refused_11 : (drain_moves counts distances x t room ≡ refuse 11)
      ↔ (DrainTests counts distances x t × (vs : List Move) × (moves counts distances x t pages ≡ accept vs) × (room < 2 * length vs))
  refused_11 = (λ e. go e drain_comes, λ h. passes_moves h.0 ∙ rw (h.2, lt-leb (2 * length h.1) room h.3))
    where
      go : drain_moves counts distances x t room ≡ refuse 11 → DrainComes
          → DrainTests counts distances x t × (vs : List Move) × (moves counts distances x t pages ≡ accept vs) × (room < 2 * length vs)
      go e (bad_tables a f) = absurd (let z : ◌≡◌ {A = ℕ} 1 11 = cc in omega arith)
      go e (no_node a b f) = absurd (let z : ◌≡◌ {A = ℕ} 6 11 = cc in omega arith)
      go e (wrong_counts a b c f) = absurd (let z : ◌≡◌ {A = ℕ} 14 11 = cc in omega arith)
      go e (stuck d s f) = absurd (let z : ◌≡◌ {A = ℕ} 17 11 = cc in omega arith)
      go e (no_room d vs a b f) = (d, vs, a, b)
      go e (drains vs a f) = absurd (not_accepted 11 _ e f)

-- ---- a drain in a list of calls, and the call that hands out the pairs

-- a drain that is answered with so many moves passes its tests with that many, and leaves the tables after them
pub drained_is : (m : Machine) (t : Tables) (x room : ℕ) {k : ℕ} → (step m t (drain x room)).answer ≡ drained k
    → (vs : List Move) × (length vs ≡ k) × DrainPasses m.page_counts m.distances x t room vs × ((step m t (drain x room)).tables ≡ after_moves x t vs)
unfolding step decision drain_decision applied
drained_is m t x room {k} e = go (drain_moves m.page_counts m.distances x t room) refl e
  where
    go : (d : Decision (List Move)) → drain_moves m.page_counts m.distances x t room ≡ d
        → (applied t (then d (λ vs. accept (draining x t vs)))).answer ≡ drained k
        → (vs : List Move) × (length vs ≡ k) × DrainPasses m.page_counts m.distances x t room vs
        × ((applied t (then d (λ vs. accept (draining x t vs)))).tables ≡ after_moves x t vs)
    go (refuse r) f e = absurd (let z : ◌≡◌ {A = ℕ} 0 1 = cc in omega arith)
    go (accept vs) f e = let many : length vs ≡ k = cc in (vs, many, drain_moves_lem m.page_counts m.distances x t room f, refl)

module _ (m : Machine) (t : Tables) (x : ℕ) (out : List ℕ) where
  -- what becomes of the moves: in a list of calls, and where the pairs are handed out
  abbrev in_list : Decision (List Move) → Outcome
  in_list d = applied t (then d (λ vs. accept (draining x t vs)))

  abbrev handed_out : Decision (List Move) → Drained
  handed_out d =
      decided (λ r. did_drain (refuse r) t out)
      (λ vs. did_drain (accept (length vs)) (after_moves x t vs) (pairs vs ++ drop (2 * length vs) out)) d

  -- "answer how many"; "Write the pairs .. into a lent table in the order moved"; "no output changes past what is written"
  pub on_drain_is : {k : ℕ} → (on_drain m.page_counts m.distances x t out).answer ≡ accept k
      → ((step m t (drain x (length out))).answer ≡ drained k) × (vs : List Move) × (length vs ≡ k)
      × DrainPasses m.page_counts m.distances x t (length out) vs
      × (on_drain m.page_counts m.distances x t out ≡ did_drain (accept k) (after_moves x t vs) (pairs vs ++ drop (2 * k) out))
  unfolding on_drain step decision drain_decision applied
  on_drain_is {k} e = go (drain_moves m.page_counts m.distances x t (length out)) refl e
    where
      go : (d : Decision (List Move)) → drain_moves m.page_counts m.distances x t (length out) ≡ d → (handed_out d).answer ≡ accept k
          → ((in_list d).answer ≡ drained k) × (vs : List Move) × (length vs ≡ k) × DrainPasses m.page_counts m.distances x t (length out) vs
          × (handed_out d ≡ did_drain (accept k) (after_moves x t vs) (pairs vs ++ drop (2 * k) out))
      go (refuse r) f e = absurd (not_accepted r _ refl e)
      go (accept vs) f e =
          let many : length vs ≡ k = cc in
          let written = ap (λ (i : ℕ). did_drain (accept i) (after_moves x t vs) (pairs vs ++ drop (2 * i) out)) many in
          (ap drained many, vs, many, drain_moves_lem m.page_counts m.distances x t (length out) f, written)

  -- "answer 17 and change nothing", and so with every refusal: neither a table nor the output changes, and in a list the number is the same
  pub on_drain_refused : {r : ℕ} → (on_drain m.page_counts m.distances x t out).answer ≡ refuse r
      → ((step m t (drain x (length out))).answer ≡ refused r) × (on_drain m.page_counts m.distances x t out ≡ did_drain (refuse r) t out)
  unfolding on_drain step decision drain_decision applied
  on_drain_refused {r} e = go (drain_moves m.page_counts m.distances x t (length out)) e
    where
      go : (d : Decision (List Move)) → (handed_out d).answer ≡ refuse r → ((in_list d).answer ≡ refused r) × (handed_out d ≡ did_drain (refuse r) t out)
      go (refuse q) e = let same : q ≡ r = cc in (ap refused same, ap (λ (i : ℕ). did_drain (refuse i) t out) same)
      go (accept vs) e = absurd (not_accepted r _ e refl)
