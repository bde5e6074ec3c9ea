-- Laws of the hints: none serve for any page table, and what a grant and a release leave serves for theirs.
-- Assumes nothing.
use Prim.Native.Nat.{ℕ, zero, suc, ◌+◌, ◌%◌, ◌≤◌, ◌<◌}
use mathlib.Core.Path.{◌≡◌, refl, sym, ap, subst, ◌∙◌}
use mathlib.Core.Logic.{◌⊎◌, inl, inr, ⊎_elim}
use mathlib.Core.Bool.{Bool, true, false, cond, true≢false}
use mathlib.Core.List.{List, [], ◌∷◌}
use native.Mathlib.Decide.{ℕ_discrete}
use native.Mathlib.Omega.{arith}
use borrow.Author.Tests.{eq-eqb, ltb-true, ltb-false}
use lib.Dec.{ltb}
use lib.ListN.{get_or, set, replicate}
use lib.Seq.{get_or-set_other}
use Rattle.rules.specs.Basics.{sum}
use Rattle.rules.specs.Machine.{Machine, first_page, node_of_page}
use Rattle.rules.specs.Masks.{most_nodes}
use Rattle.rules.specs.SearchOrder.{colour_of, has_colour}
use Rattle.rules.specs.Decisions.{Decision, refuse, accept}
use Rattle.rules.specs.Calls.{granted, released, refused, Tables, Change, Outcome, outcome, after_writes, applied, holds, request_decision, release_decision}
use Rattle.rules.specs.Calls.{on_request, on_release}
use Rattle.rules.proofs.Admission.{FreePage, accepted}
use Rattle.rules.proofs.Calls.{releases}
use Rattle.rules.proofs.Lists.{both_true}
use Rattle.rules.proofs.Machine.{CountsInOrder}
use Rattle.rules.proofs.Pages.{PageOf, page_lt, page_node_lt, page_node, node_page}
use Rattle.rules.proofs.Picked.{PickedPage, picked_page}
use Rattle.machine.specs.Tables.{Starts}
use Rattle.machine.proofs.Tables.{pages_step}
use Rattle.placement.specs.Hints.{hint_at, all_pages, Covers, Hints, lowered, hinted, Named}
use Rattle.placement.specs.Placed.{placed_as, InNode}
use Rattle.placement.specs.declared.placed.Placed.{Placed}
use Rattle.placement.specs.declared.placed.Placed.TheVariants.{Granted, Released}
use Rattle.rules.specs.declared.Refusal.{Refusal}
use Rattle.std.specs.Prelude.{Result, Ok, Err}

-- ---- entries of a table

below_own : (xs : List ℕ) (i v q : ℕ) → q < get_or (set xs i v) i 0 → q < v
below_own [] i v q l = absurd (omega arith)
below_own (x ∷ xs) zero v q l = l
below_own (x ∷ xs) (suc i) v q l = below_own xs i v q l

-- what is below an entry after one is set: the entry is that one and it is below what was set, or it was below the entry before
below_set : (xs : List ℕ) (i k v q : ℕ) → q < get_or (set xs i v) k 0 → ((k ≡ i) × (q < v)) ⊎ (q < get_or xs k 0)
below_set xs i k v q l = go (ℕ_discrete k i)
  where
    go : Dec (k ≡ i) → ((k ≡ i) × (q < v)) ⊎ (q < get_or xs k 0)
    go (yes e) = inl (e, below_own xs i v q (rw e at l))
    go (no e) = inr (rw (get_or-set_other xs i k v 0 e) at l)

-- an entry goes down to v: what is below an entry then was below it before, and is below v if the entry is that one
below_lowered : (xs : List ℕ) (i k v q : ℕ) → q < get_or (lowered xs i v) k 0 → (q < get_or xs k 0) × (k ≡ i → q < v)
below_lowered xs i k v q l = go (ltb v (get_or xs i 0)) refl l
  where
    go : (b : Bool) → ltb v (get_or xs i 0) ≡ b → q < get_or (cond b (set xs i v) xs) k 0 → (q < get_or xs k 0) × (k ≡ i → q < v)
    go true e l =
        let m = ltb-true v (get_or xs i 0) e in
        ⊎_elim
        (λ h. (rw h.0 (omega (arith, m, h.1)), λ z. h.1))
        (λ h. (h, λ z. below_own xs i v q (rw z at l)))
        (below_set xs i k v q l)
    go false e l = (l, λ z. let h : q < get_or xs i 0 = rw z at l in omega (arith, h, ltb-false v (get_or xs i 0) e))

-- a page that is marked is held, and so is one that was
marked_held : (xs : List ℕ) (p v : ℕ) → 0 < v → 0 < get_or (set xs p v) p 1
marked_held [] p v l = omega arith
marked_held (x ∷ xs) zero v l = l
marked_held (x ∷ xs) (suc p) v l = marked_held xs p v l

still_held : (xs : List ℕ) (p v q : ℕ) → 0 < v → ((q ≡ p → ⊥) → 0 < get_or xs q 1) → 0 < get_or (set xs p v) q 1
still_held xs p v q l was = go (ℕ_discrete q p)
  where
    go : Dec (q ≡ p) → 0 < get_or (set xs p v) q 1
    go (yes e) = rw e (marked_held xs p v l)
    go (no e) = rw (get_or-set_other xs p q v 1 e) (was e)

-- ---- hints for any page table

-- none
pub no_hints : (counts ledger : List ℕ) → Hints counts ledger []
no_hints counts ledger = record { held = λ n c p a b v l. absurd (omega (arith, l)) }

zero_entry : (k i : ℕ) → ◌≡◌ {A = ℕ} (get_or (replicate k 0) i 0) 0
zero_entry zero i = refl
zero_entry (suc k) zero = refl
zero_entry (suc k) (suc i) = zero_entry k i

-- zeros: no page comes before page 0
pub zero_hints : (counts ledger : List ℕ) (k : ℕ) → Hints counts ledger (replicate k 0)
zero_hints counts ledger k = record { held = λ n c p a b v l. absurd (omega (arith, l, zero_entry k (hint_at n c))) }

-- ---- hints that are set

-- a node has five of them
covers_lt : (counts : List ℕ) (n c p : ℕ) → Covers counts n c p → c < 5
unfolding colour_of
covers_lt counts n c p v = ⊎_elim (λ e. omega (arith, e)) (λ e. omega (arith, e)) v

module _ (counts after hints : List ℕ) (h : Hints counts after hints) where
  -- a hint is set where the pages that it speaks of are held before it
  set_hint : (n c v : ℕ) → c < 5 → ((q : ℕ) → PageOf counts n q → Covers counts n c q → q < v → 0 < get_or after q 1)
      → Hints counts after (set hints (hint_at n c) v)
  set_hint n c v small own = record { held = λ k d q a b w l. by k d q a b w (below_set hints (hint_at n c) (hint_at k d) v q l) }
    where
      by : (k d q : ℕ) → first_page counts k ≤ q → q < first_page counts k + get_or counts k 0 → Covers counts k d q
          → ((hint_at k d ≡ hint_at n c) × (q < v)) ⊎ (q < get_or hints (hint_at k d) 0) → 0 < get_or after q 1
      by k d q a b w (inr l) = h.held k d q a b w l
      by k d q a b w (inl e) =
          let few = covers_lt counts k d q w in
          let node : k ≡ n = omega (arith, e.0, few, small) in
          let colour : d ≡ c = omega (arith, e.0, few, small) in
          own q (subst (λ (x : ℕ). PageOf counts x q) node (record { start = a; end = b }))
          (subst (λ (x : ℕ). Covers counts n x q) colour (subst (λ (x : ℕ). Covers counts x d q) node w)) e.1

module _ (counts ledger hints : List ℕ) (h : Hints counts ledger hints) where
  -- pages that are held stay so when another is marked
  more_held : (p v : ℕ) → 0 < v → Hints counts (set ledger p v) hints
  more_held p v l = record { held = λ n c q a b w u. still_held ledger p v q l (λ e. h.held n c q a b w u) }

  -- a page of a node that is not free is held
  not_free : (n q : ℕ) → PageOf counts n q → (FreePage counts ledger n q → ⊥) → 0 < get_or ledger q 1
  not_free n q o f = go (ℕ_discrete (get_or ledger q 1) 0)
    where
      go : Dec (get_or ledger q 1 ≡ 0) → 0 < get_or ledger q 1
      go (yes e) = absurd (f (record { of_node = o; free = e }))
      go (no e) = omega arith

  module _ (j n p v : ℕ) (f : PickedPage counts ledger j n p) (above : 0 < v) where
    -- a page that the hint for the job's colour speaks of is of that colour
    of_colour : (q : ℕ) → Covers counts n (j % 4) q → has_colour counts j n q ≡ true
    unfolding has_colour
    of_colour q w = ⊎_elim (λ e. absurd (omega (arith, e))) (λ e. eq-eqb _ _ (sym e)) w

    -- the lowest free page of its colour is granted: that one and all of the colour before it are held
    own_colour : Hints counts (set ledger p v) (set hints (hint_at n (j % 4)) (p + 1))
    own_colour =
        set_hint counts (set ledger p v) hints (more_held p v above) n (j % 4) (p + 1) (omega arith)
        (λ q o w l. still_held ledger p v q above
        (λ e. not_free n q o (λ g. omega (arith, l, e, (f.coloured q g (of_colour q w)).1))))

    -- a page of another colour is granted: it is the lowest free one, and no page of the job's colour is free
    other_colour : has_colour counts j n p ≡ false
        → Hints counts (set ledger p v)
        (set (set hints (hint_at n all_pages) (p + 1)) (hint_at n (j % 4)) (first_page counts n + get_or counts n 0))
    other_colour c =
        set_hint counts (set ledger p v) (set hints (hint_at n all_pages) (p + 1))
        (set_hint counts (set ledger p v) hints (more_held p v above) n all_pages (p + 1) (omega arith)
        (λ q o w l. still_held ledger p v q above (λ e. not_free n q o (λ g. omega (arith, l, e, (f.other c).lowest q g)))))
        n (j % 4) (first_page counts n + get_or counts n 0) (omega arith)
        (λ q o w l. still_held ledger p v q above
        (λ e. not_free n q o (λ g. true≢false (sym (f.coloured q g (of_colour q w)).0 ∙ c))))

    pub granted_hint : (b : Bool) → has_colour counts j n p ≡ b
        → Hints counts (set ledger p v)
        (cond b (set hints (hint_at n (j % 4)) (p + 1))
        (set (set hints (hint_at n all_pages) (p + 1)) (hint_at n (j % 4)) (first_page counts n + get_or counts n 0)))
    granted_hint true e = own_colour
    granted_hint false e = other_colour e

  -- a page is released: its node's hint for all pages goes down to it, and the one for its colour
  pub released_hint : (p : ℕ) → p < sum counts
      → (let n = node_of_page counts p in
      Hints counts (set ledger p 0) (lowered (lowered hints (hint_at n all_pages) p) (hint_at n (colour_of counts n p)) p))
  released_hint p l = record { held = λ k c q a b w u. still k c q a b w (below_lowered (lowered hints (hint_at n all_pages) p) own (hint_at k c) p q u) }
    where
      n : ℕ
      n = node_of_page counts p

      own : ℕ
      own = hint_at n (colour_of counts n p)

      -- a page before a hint is not the one released, and so still held
      still : (k c q : ℕ) → first_page counts k ≤ q → q < first_page counts k + get_or counts k 0 → Covers counts k c q
          → (q < get_or (lowered hints (hint_at n all_pages) p) (hint_at k c) 0) × (hint_at k c ≡ own → q < p) → 0 < get_or (set ledger p 0) q 1
      still k c q a b w u =
          let r = below_lowered hints (hint_at n all_pages) (hint_at k c) p q u.0 in
          let node : q ≡ p → k ≡ n = λ e. sym (page_node (record { start = a; end = b })) ∙ ap (node_of_page counts) e in
          let away : q ≡ p → ⊥ =
          λ e. ⊎_elim
          (λ z. omega (arith, e, r.1 (rw (node e, z))))
          (λ z. omega (arith, e, u.1 (rw (z, node e, e))))
          w in
          rw (get_or-set_other ledger p q 0 1 away) (h.held k c q a b w r.0)

-- ---- the hints after a call

module _ (counts starts hints nodes : List ℕ) (j : ℕ) where
  -- a refusal leaves them
  refused_placed : (r : Result Placed Refusal) (q : ℕ) → placed_as nodes r ≡ refused q → (hinted starts j hints r ≡ hints) × Named starts r
  refused_placed (Ok (Granted n p)) q e = absurd (let z : ◌≡◌ {A = ℕ} 0 1 = cc in omega arith)
  refused_placed (Ok (Released n p)) q e = absurd (let z : ◌≡◌ {A = ℕ} 0 1 = cc in omega arith)
  refused_placed (Err why) q e = (refl, tt)

  -- page p lies in node n, which is one of the machine's
  module _ (n p : ℕ) (s : Starts counts starts) (o : PageOf counts n p) (few : n < most_nodes) (small : p < 1048576) where
    first_is : get_or starts n 0 ≡ first_page counts n
    first_is = s.at n (omega (arith, page_node_lt o))

    end_is : get_or starts (n + 1) 0 ≡ first_page counts n + get_or counts n 0
    end_is = s.at (n + 1) (omega (arith, page_node_lt o)) ∙ pages_step counts n

    named : (n < most_nodes) × (get_or starts n 0 ≤ p) × (p < 1048576)
    named = (few, omega (arith, first_is, o.start), small)

    -- a grant of page p moves those of its node
    granted_placed : (r : Result Placed Refusal) (a : ℕ) → InNode counts r → placed_as nodes r ≡ granted a p
        → (hinted starts j hints r ≡ cond (has_colour counts j n p) (set hints (hint_at n (j % 4)) (p + 1))
        (set (set hints (hint_at n all_pages) (p + 1)) (hint_at n (j % 4)) (first_page counts n + get_or counts n 0))) × Named starts r
    unfolding has_colour colour_of
    granted_placed (Ok (Granted k q)) a here e =
        let page : q.0 ≡ p = cc in
        let node : k.0 ≡ n = here ∙ ap (node_of_page counts) page ∙ page_node o in
        (rw (page, node, first_is, end_is), rw (page, node) named)
    granted_placed (Ok (Released k q)) a here e = absurd (let z : ◌≡◌ {A = ℕ} 0 1 = cc in omega arith)
    granted_placed (Err why) a here e = absurd (let z : ◌≡◌ {A = ℕ} 0 1 = cc in omega arith)

    -- and so may a release
    released_placed : (r : Result Placed Refusal) (a : ℕ) → InNode counts r → placed_as nodes r ≡ released a p
        → (hinted starts j hints r ≡ lowered (lowered hints (hint_at n all_pages) p) (hint_at n (colour_of counts n p)) p) × Named starts r
    unfolding colour_of
    released_placed (Ok (Granted k q)) a here e = absurd (let z : ◌≡◌ {A = ℕ} 0 1 = cc in omega arith)
    released_placed (Ok (Released k q)) a here e =
        let page : q.0 ≡ p = cc in
        let node : k.0 ≡ n = here ∙ ap (node_of_page counts) page ∙ page_node o in
        (rw (page, node, first_is), rw (page, node) named)
    released_placed (Err why) a here e = absurd (let z : ◌≡◌ {A = ℕ} 0 1 = cc in omega arith)

module _ (counts starts : List ℕ) (t : Tables) (hints : List ℕ) (i : CountsInOrder counts) (s : Starts counts starts)
    (h : Hints counts t.ledger hints) where
  -- a release
  pub release_hints : (j p : ℕ) (r : Result Placed Refusal) (nodes : List ℕ) {after : Tables} → InNode counts r
      → outcome (placed_as nodes r) after ≡ on_release counts t j p → Hints counts after.ledger (hinted starts j hints r) × Named starts r
  unfolding on_release applied after_writes holds
  release_hints j p r nodes {after} here e = go (release_decision counts t j p) refl e
    where
      go : (d : Decision Change) → release_decision counts t j p ≡ d → outcome (placed_as nodes r) after ≡ applied t d
          → Hints counts after.ledger (hinted starts j hints r) × Named starts r
      go (refuse q) f e =
          let w = refused_placed counts starts hints nodes j r q (ap (λ (o : Outcome). o.answer) e) in
          (rw (w.0, ap (λ (o : Outcome). o.tables) e) h, w.1)
      go (accept x) f e =
          let d = releases counts t j p f in
          let there : p < sum counts = ltb-true p (sum counts) (both_true {a = ltb p (sum counts)} d.0.held).0 in
          let o = node_page counts p there in
          let told : placed_as nodes r ≡ released _ p = ap (λ (o : Outcome). o.answer) e ∙ ap (λ (x : Change). x.answer) d.1 in
          let w =
          released_placed counts starts hints nodes j (node_of_page counts p) p s o (omega (arith, page_node_lt o, i.nodes_most))
          (omega (arith, there, i.pages_most)) r _ here told in
          (rw (w.0, ap (λ (o : Outcome). o.tables) e, d.1) (released_hint counts t.ledger hints h p there), w.1)

module _ (m : Machine) (starts : List ℕ) (t : Tables) (hints : List ℕ) (i : CountsInOrder m.page_counts) (s : Starts m.page_counts starts)
    (h : Hints m.page_counts t.ledger hints) where
  -- a request
  pub request_hints : (j k : ℕ) (r : Result Placed Refusal) (nodes : List ℕ) {after : Tables} → InNode m.page_counts r
      → outcome (placed_as nodes r) after ≡ on_request m t j k → Hints m.page_counts after.ledger (hinted starts j hints r) × Named starts r
  unfolding on_request applied after_writes
  request_hints j k r nodes {after} here e = go (request_decision m t j k) refl e
    where
      counts : List ℕ
      counts = m.page_counts

      go : (d : Decision Change) → request_decision m t j k ≡ d → outcome (placed_as nodes r) after ≡ applied t d
          → Hints m.page_counts after.ledger (hinted starts j hints r) × Named starts r
      go (refuse q) f e =
          let w = refused_placed counts starts hints nodes j r q (ap (λ (o : Outcome). o.answer) e) in
          (rw (w.0, ap (λ (o : Outcome). o.tables) e) h, w.1)
      go (accept x) f e =
          let d = accepted m t j k f in
          let picked = picked_page counts t.ledger d.1.node j d.3 in
          let o = picked.page.of_node in
          let told : placed_as nodes r ≡ granted _ _ = ap (λ (o : Outcome). o.answer) e ∙ ap (λ (x : Change). x.answer) d.4 in
          let w =
          granted_placed counts starts hints nodes j d.1.node _ s o (omega (arith, page_node_lt o, i.nodes_most))
          (omega (arith, page_lt o, i.pages_most)) r _ here told in
          let left : after.ledger ≡ after_writes t.ledger x.writes = ap (λ (o : Outcome). o.tables.ledger) e in
          let marked = left ∙ ap (λ (x : Change). after_writes t.ledger x.writes) d.4 in
          (rw (w.0, marked) (granted_hint counts t.ledger hints h j d.1.node _ (j + 1) picked (omega arith) _ refl), w.1)
