-- Request M-106: the reasons and the request agree, whatever the counts are; the refusals and the output of the call that writes the reasons.
-- Assumes nothing.
use Prim.Native.Nat.{ℕ, suc, ◌≤◌, ◌<◌}
use mathlib.Core.Path.{◌≡◌, refl, sym, ap, ◌∙◌}
use mathlib.Core.Logic.{◌↔◌, ◌≢◌}
use mathlib.Core.Bool.{Bool, true, false, true≢false}
use mathlib.Core.List.{List, ◌++◌}
use mathlib.Core.Option.{Option, none, some}
use native.Mathlib.Nat.{zero-add}
use native.Mathlib.Omega.{arith}
use borrow.Author.Tests.{eq-eqb, ne_eqb, le-leb, lt-leb}
use lib.Dec.{leb, eqb}
use lib.ListN.{length, get_or, drop}
use Rattle.rules.specs.Basics.{count, from}
use Rattle.rules.specs.Machine.{Machine, node_count, node_of_page}
use Rattle.rules.specs.Records.{Record}
use Rattle.rules.specs.Maps.{application_node}
use Rattle.rules.specs.SearchOrder.{Try, chosen}
use Rattle.rules.specs.Decisions.{Decision, refuse, accept, unless, decided, Written, not_written, wrote}
use Rattle.rules.specs.Calls.{granted, refused, Tables, applied, map_of, admitted, order_of, request_decision}
use Rattle.rules.specs.Book.{request, decision, step}
use Rattle.rules.specs.Reasons.{reason_of, reasons_of, meets_room, reasons_decision, on_reasons}
use Rattle.rules.proofs.Lists.{none_count, count_map, entry_map_from}
use Rattle.rules.proofs.Decisions.{not_accepted, passed, went_on}
use Rattle.rules.proofs.Admission.{Passes, admitted_passes, passes_admitted, Searched, nowhere, wrongly, served, searched, refused_8}
use Rattle.rules.proofs.Calls.{serves, granted_is, granted_in_node}
use Rattle.rules.proofs.FreeCounts.{one_more}
use Rattle.rules.proofs.Reasons.{six_chosen, reason_6}
use Rattle.rules.proofs.ReasonsRoom.{granted_chosen, granted_below, serves_six}

-- ---- reasons and request agree, whatever the counts are

module _ (m : Machine) (t : Tables) (j k : ℕ) where
  -- byte n of the reasons is the reason of node n
  pub reason_at_lem : (n : ℕ) → n < node_count m → get_or (reasons_of m t j k) n 0 ≡ reason_of m t j k n
  unfolding reasons_of
  reason_at_lem n l = entry_map_from (reason_of m t j k) 0 (node_count m) n l ∙ ap (reason_of m t j k) (zero-add n)

  -- a node other than the chosen one has not reason 6
  not_six : (o : Option Try) → chosen t.free (order_of m t j k) ≡ o → (n : ℕ) → ((s : Try) → o ≡ some s → s.node ≢ n) → eqb 6 (reason_of m t j k n) ≡ false
  not_six o c n other =
      ne_eqb 6 (reason_of m t j k n) (λ e. let s = six_chosen m t j k n (sym e) in other s.0 (sym c ∙ s.1) s.2)

  -- where a node of the machine is chosen, one node has reason 6
  one_six : Passes m t j k → {s : Try} → chosen t.free (order_of m t j k) ≡ some s → s.node < node_count m → count (eqb 6) (reasons_of m t j k) ≡ 1
  unfolding reasons_of
  one_six p {s} c l =
      count_map (eqb 6) (reason_of m t j k) (from 0 (node_count m))
      ∙ one_more (λ n. eqb 6 (reason_of m t j k n)) (λ n. false) s.node elsewhere 0 (node_count m) (omega arith) (omega arith) here refl
      ∙ ap suc (none_count (λ n. false) (from 0 (node_count m)) (λ n i. refl))
    where
      here : eqb 6 (reason_of m t j k s.node) ≡ true
      here = eq-eqb 6 (reason_of m t j k s.node) (sym ((reason_6 m t j k p s.node l).1 (s, c, refl)))

      elsewhere : (n : ℕ) → n ≢ s.node → eqb 6 (reason_of m t j k n) ≡ false
      elsewhere n d = not_six (some s) c n (λ x e q. let same : x ≡ s = cc in d (sym (ap (λ (y : Try). y.node) (sym same) ∙ q)))

  -- where none is chosen, no node has
  no_six : chosen t.free (order_of m t j k) ≡ none → count (eqb 6) (reasons_of m t j k) ≡ 0
  unfolding reasons_of
  no_six c =
      count_map (eqb 6) (reason_of m t j k) (from 0 (node_count m))
      ∙ none_count (λ n. eqb 6 (reason_of m t j k n)) (from 0 (node_count m))
      (λ n i. not_six none c n (λ s e. absurd (let z : ◌≡◌ {A = ℕ} 0 1 = cc in omega arith)))

  -- "code 6 present exactly once on a grant": at the node that the request is granted from, which the answer names
  pub granted_once : {a q : ℕ} → (step m t (request j k)).answer ≡ granted a q → count (eqb 6) (reasons_of m t j k) ≡ 1
  granted_once e =
      let g = (granted_is m t j k e).grant in
      one_six g.passes (granted_chosen m t j k g) (rw g.served_by (granted_below m t j k g))

  pub granted_six : {a q : ℕ} → (step m t (request j k)).answer ≡ granted a q
      → (node_of_page m.page_counts q < node_count m) × (reason_of m t j k (node_of_page m.page_counts q) ≡ 6)
      × (application_node (map_of t j) (node_of_page m.page_counts q) ≡ a)
  granted_six e =
      let r = granted_is m t j k e in
      let g = r.grant in
      let l = granted_below m t j k g in
      rw (granted_in_node g) (l, (reason_6 m t j k g.passes r.node l).1 (g.served, granted_chosen m t j k g, g.served_by), r.named)

  -- "and never on 8"
  pub never_on_8 : (step m t (request j k)).answer ≡ refused 8 → count (eqb 6) (reasons_of m t j k) ≡ 0
  never_on_8 e = go (searched m t j k ((refused_8 m t j k).0 e).0)
    where
      go : Searched m t j k → count (eqb 6) (reasons_of m t j k) ≡ 0
      go (nowhere c a) = no_six c
      go (wrongly s c r a) = absurd (let z : ◌≡◌ {A = ℕ} 8 14 = cc in omega arith)
      go (served s c r a) = absurd (let z : ◌≡◌ {A = ℕ} 0 1 = cc in omega arith)

  -- what the call does by its decision
  abbrev given : List ℕ → Decision (List ℕ) → Written
  given out d = decided (not_written out) (λ rs. wrote (accept (node_count m)) (rs ++ drop (node_count m) out)) d

  -- What an accepted call says: the tests that it has passed, and what it wrote.
  record Told (out : List ℕ) (v : ℕ) : Type 0 where
    passes : Passes m t j k
    meets : meets_room m.page_counts t.ledger (chosen t.free (order_of m t j k)) ≡ true
    wrote_all : v ≡ node_count m
    wrote_them : (on_reasons m t j k out).output ≡ reasons_of m t j k ++ drop (node_count m) out

  -- an accepted call says these
  told : {v : ℕ} (out : List ℕ) → (on_reasons m t j k out).answer ≡ accept v → Told out v
  unfolding on_reasons reasons_decision
  told {v} out e = go (reasons_decision m t j k (length out)) refl e
    where
      go : (d : Decision (List ℕ)) → reasons_decision m t j k (length out) ≡ d → (given out d).answer ≡ accept v → Told out v
      go (refuse r) f e = absurd (not_accepted r _ refl e)
      go (accept rs) f e =
          let a = went_on (admitted m t j k) _ f in
          let b = passed (leb (node_count m) (length out)) 11 _ a.2 in
          let c = passed (meets_room m.page_counts t.ledger (chosen t.free (order_of m t j k))) 14 _ b.1 in
          let same : reasons_of m t j k ≡ rs = cc c.1 in
          let all : node_count m ≡ v = cc in
          record { passes = admitted_passes m t j k a.1; meets = c.0; wrote_all = sym all; wrote_them = rw (f, same) }

  -- what the call was told of: asked for its reasons and then made on the same tables, the request is granted from the node with 6 ..
  pub six_granted : {v : ℕ} (out : List ℕ) → (on_reasons m t j k out).answer ≡ accept v → (n : ℕ) → n < node_count m → reason_of m t j k n ≡ 6
      → (q : ℕ) × ((step m t (request j k)).answer ≡ granted (application_node (map_of t j) n) q) × (node_of_page m.page_counts q ≡ n)
  unfolding meets_room
  six_granted out e n l six =
      let d = told out e in
      let s = six_chosen m t j k n six in
      serves_six m t j k d.passes s.1 (rw s.1 at d.meets) s.2

  -- .. or refused 8 where there is none
  pub none_refused : {v : ℕ} (out : List ℕ) → (on_reasons m t j k out).answer ≡ accept v → count (eqb 6) (reasons_of m t j k) ≡ 0
      → (step m t (request j k)).answer ≡ refused 8
  unfolding meets_room
  none_refused out e z = let d = told out e in go d (searched m t j k d.passes)
    where
      go : {v : ℕ} → Told out v → Searched m t j k → (step m t (request j k)).answer ≡ refused 8
      go d (nowhere c a) = a
      go d (wrongly s c r a) = absurd (true≢false (sym (rw c at d.meets) ∙ r))
      go d (served s c r a) = absurd (omega (arith, one_six d.passes c (granted_below m t j k (serves m t j k d.passes c r))))

  -- ---- the call's refusals and its output

  -- "Output shorter than N is 11, tested after the request's own refusals 1 to 4 and 15, before 14"
  pub reasons_short : (out : List ℕ) → length out < node_count m → Passes m t j k → (on_reasons m t j k out).answer ≡ refuse 11
  unfolding on_reasons reasons_decision
  reasons_short out l p = rw (passes_admitted m t j k p, lt-leb (node_count m) (length out) l)

  pub reasons_tested : (out : List ℕ) (r : ℕ) → admitted m t j k ≡ refuse r → (on_reasons m t j k out).answer ≡ refuse r
  unfolding on_reasons reasons_decision
  reasons_tested out r e = rw e

  -- a request that is refused by one of these tests is so itself
  request_tested : (r : ℕ) → admitted m t j k ≡ refuse r → (step m t (request j k)).answer ≡ refused r
  unfolding step decision applied request_decision
  request_tested r e = rw e

  -- with room for N bytes the call goes by the node that is met
  told_all : (out : List ℕ) → node_count m ≤ length out → Passes m t j k → (o : Option Try) → chosen t.free (order_of m t j k) ≡ o
      → (on_reasons m t j k out).answer ≡ unless (meets_room m.page_counts t.ledger o) 14 (accept (node_count m))
  unfolding on_reasons reasons_decision
  told_all out l p o c =
      rw (passes_admitted m t j k p, le-leb (node_count m) (length out) l, c) (go (meets_room m.page_counts t.ledger o))
    where
      go : (b : Bool) → (given out (unless b 14 (accept (reasons_of m t j k)))).answer ≡ unless b 14 (accept (node_count m))
      go true = refl
      go false = refl

  -- the call is refused r exactly if the request is, and r is not 8
  abbrev SameRefusal : List ℕ → ℕ → Type 0
  SameRefusal out r = ((on_reasons m t j k out).answer ≡ refuse r) ↔ (((step m t (request j k)).answer ≡ refused r) × (r ≢ 8))

  -- with room for N bytes it is refused as the request is, but for 8
  pub reasons_refused : (out : List ℕ) → node_count m ≤ length out → (r : ℕ)
      → ((on_reasons m t j k out).answer ≡ refuse r) ↔ (((step m t (request j k)).answer ≡ refused r) × (r ≢ 8))
  unfolding meets_room
  reasons_refused out l r = by_tests (admitted m t j k) refl
    where
      by_search : Passes m t j k → Searched m t j k → SameRefusal out r
      by_search p (nowhere c a) = (
        λ e. absurd (not_accepted r _ e (told_all out l p none c)),
        λ h. absurd (h.1 (let q = h.0 in let z : r ≡ 8 = cc in z)),
      )
      by_search p (wrongly s c x a) =
          let f = told_all out l p (some s) c ∙ ap (λ (b : Bool). unless b 14 (accept (node_count m))) x in (
            λ e. let z : r ≡ 14 = cc in (a ∙ ap refused (sym z), λ q. omega arith),
            λ h. let q = h.0 in let z : r ≡ 14 = cc in f ∙ ap refuse (sym z),
          )
      by_search p (served s c x a) = (
        λ e. absurd (not_accepted r _ e (told_all out l p (some s) c ∙ ap (λ (b : Bool). unless b 14 (accept (node_count m))) x)),
        λ h. absurd (let q = h.0 in let z : ◌≡◌ {A = ℕ} 0 1 = cc in omega arith),
      )

      by_tests : (d : Decision Record) → admitted m t j k ≡ d → SameRefusal out r
      by_tests (accept x) f = let p = admitted_passes m t j k f in by_search p (searched m t j k p)
      by_tests (refuse q) f =
          let a = reasons_tested out q f in
          let b = request_tested q f in (
            λ e. let same : q ≡ r = cc in
                (b ∙ ap refused same, λ z. not_accepted q _ f (passes_admitted m t j k ((refused_8 m t j k).0 (b ∙ ap refused (same ∙ z))).0)),
            λ h. let e = h.0 in let same : q ≡ r = cc in a ∙ ap refuse same,
          )

  -- what is written, and that a refused call writes nothing
  pub reasons_written : {v : ℕ} (out : List ℕ) → (on_reasons m t j k out).answer ≡ accept v
      → (v ≡ node_count m) × ((on_reasons m t j k out).output ≡ reasons_of m t j k ++ drop (node_count m) out)
  reasons_written out e = let d = told out e in (d.wrote_all, d.wrote_them)

  pub reasons_unwritten : {r : ℕ} (out : List ℕ) → (on_reasons m t j k out).answer ≡ refuse r → (on_reasons m t j k out).output ≡ out
  unfolding on_reasons
  reasons_unwritten {r} out e = go (reasons_decision m t j k (length out)) e
    where
      go : (d : Decision (List ℕ)) → (given out d).answer ≡ refuse r → (given out d).output ≡ out
      go (refuse q) e = refl
      go (accept rs) e = absurd (not_accepted r _ e refl)
