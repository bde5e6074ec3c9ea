-- Request M-106: the reasons with counts that match the page table, by its free pages.
-- Assumes nothing.
use Prim.Native.Nat.{ℕ, ◌<◌}
use mathlib.Core.Path.{◌≡◌, refl, sym, ap, ◌∙◌}
use mathlib.Core.Logic.{◌↔◌, ◌≢◌}
use mathlib.Core.Bool.{Bool, true, false, ◌||◌, true≢false, or-true}
use mathlib.Core.List.{List, ◌∷◌}
use mathlib.Core.Option.{Option, none, some}
use native.Mathlib.Omega.{arith}
use borrow.Author.Tests.{eqb-false, ne_eqb}
use lib.Dec.{eqb}
use Rattle.rules.specs.Basics.{any}
use Rattle.rules.specs.Machine.{Machine, node_count, node_of_page}
use Rattle.rules.specs.Maps.{application_node}
use Rattle.rules.specs.SearchOrder.{Try, has_room, pick_page, counted, chosen}
use Rattle.rules.specs.Calls.{granted, Tables, map_of, order_of}
use Rattle.rules.specs.Book.{request, step}
use Rattle.rules.specs.FreeCounts.{Matches, first_with_room}
use Rattle.rules.specs.Reasons.{names, is_chosen, reason_of}
use Rattle.rules.proofs.Lists.{◌∈◌, none_any, any_append, any_false, FirstOf, first_keep, keep_first, first_none}
use Rattle.rules.proofs.Admission.{FreePage, no_room, Passes, Searched, nowhere, wrongly, served, searched}
use Rattle.rules.proofs.Pages.{page_node_lt}
use Rattle.rules.proofs.Picked.{picked_page}
use Rattle.rules.proofs.Calls.{Granted, serves, granted_is, granted_in_node}
use Rattle.rules.proofs.AsBefore.{counted_as, chosen_first}
use Rattle.rules.proofs.Reasons.{six_chosen, reason_5, reason_6, reason_7}

-- ---- the node that serves a request

module _ (m : Machine) (t : Tables) (j k : ℕ) where
  -- the try that serves a request is the chosen one
  pub granted_chosen : {n q : ℕ} (g : Granted m t j k n q) → chosen t.free (order_of m t j k) ≡ some g.served
  unfolding chosen
  granted_chosen g = keep_first g.first_counted

  -- of a node of the machine
  pub granted_below : {n q : ℕ} → Granted m t j k n q → n < node_count m
  granted_below g = page_node_lt g.picked.page.of_node

  -- a chosen node with room serves the request
  pub serves_six : Passes m t j k → {s : Try} → chosen t.free (order_of m t j k) ≡ some s → has_room m.page_counts t.ledger s.node ≡ true
      → {n : ℕ} → s.node ≡ n
      → (q : ℕ) × ((step m t (request j k)).answer ≡ granted (application_node (map_of t j) n) q) × (node_of_page m.page_counts q ≡ n)
  serves_six p {s} c room {n} e = go (searched m t j k p)
    where
      go : Searched m t j k → (q : ℕ) × ((step m t (request j k)).answer ≡ granted (application_node (map_of t j) n) q) × (node_of_page m.page_counts q ≡ n)
      go (nowhere d a) = absurd (let z : ◌≡◌ {A = ℕ} 0 1 = cc in omega arith)
      go (wrongly x d r a) =
          let same : x ≡ s = cc in
          absurd (true≢false (sym room ∙ ap (λ (y : Try). has_room m.page_counts t.ledger y.node) (sym same) ∙ r))
      go (served x d r a) =
          let q = pick_page m.page_counts t.ledger j x.node in
          let same : x ≡ s = cc in
          let node : x.node ≡ n = ap (λ (y : Try). y.node) same ∙ e in
          (q, a ∙ ap (λ (i : ℕ). granted (application_node (map_of t j) i) q) node, granted_in_node (serves m t j k p d r) ∙ node)

-- ---- with counts that match: by the page table

module _ (m : Machine) (t : Tables) (j k : ℕ) (p : Passes m t j k) (matches : Matches m.page_counts t) (n : ℕ) (l : n < node_count m) where
  -- a node is counted 0 exactly if it has no free page
  full_room : (counted t.free n ≡ false) ↔ ((q : ℕ) → FreePage m.page_counts t.ledger n q → ⊥)
  full_room = rw (counted_as m t matches n) (no_room m.page_counts t.ledger n)

  -- "5 full": exactly the nodes of the order that have no free page
  pub full_true : (reason_of m t j k n ≡ 5) ↔ ((names (order_of m t j k) n ≡ true) × ((q : ℕ) → FreePage m.page_counts t.ledger n q → ⊥))
  full_true =
      let f = reason_5 m t j k p n l in
      (λ e. let h = f.0 e in (h.0, full_room.0 h.1), λ h. f.1 (h.0, full_room.1 h.1))

  -- "6 chosen": exactly the node that the request would be granted from
  pub chosen_true : (reason_of m t j k n ≡ 6)
      ↔ ((a : ℕ) × (q : ℕ) × ((step m t (request j k)).answer ≡ granted a q) × (node_of_page m.page_counts q ≡ n))
  unfolding first_with_room
  chosen_true = (
    λ e. let s = six_chosen m t j k n e in
        let f = first_keep _ (order_of m t j k) (sym (chosen_first m t matches (order_of m t j k)) ∙ s.1) in
        let g = serves_six m t j k p s.1 f.passes s.2 in
        (_, g.0, g.1, g.2),
    λ h. let g = (granted_is m t j k h.2).grant in
        (reason_6 m t j k p n l).1 (g.served, granted_chosen m t j k g, g.served_by ∙ sym (granted_in_node g) ∙ h.3),
  )

  -- "7 had room but came later": it has a free page, and comes in the order after the first node that has one, and not before
  pub record Later : Type 0 where
    pub served : Try
    pub first_served : FirstOf (λ s. has_room m.page_counts t.ledger s.node) (order_of m t j k) served
    pub other : served.node ≢ n
    pub not_before : names first_served.before n ≡ false
    pub after : names first_served.after n ≡ true
    pub page : ℕ
    pub free : FreePage m.page_counts t.ledger n page

  -- the nodes of an order are those before the one that serves, that one, and those after it
  split_names : {q : Try → Bool} {s : Try} (f : FirstOf q (order_of m t j k) s)
      → names (order_of m t j k) n ≡ (names f.before n || (eqb s.node n || names f.after n))
  unfolding names any
  split_names {s = s} f = ap (any (λ x. eqb x.node n)) f.split ∙ any_append (λ x. eqb x.node n) f.before (s ∷ f.after)

  -- tries of nodes that all fail a test do not name one that passes it
  failed_names : (q : ℕ → Bool) (ts : List Try) → ((s : Try) → s ∈ ts → q s.node ≡ false) → q n ≡ true → names ts n ≡ false
  unfolding names
  failed_names q ts f h = none_any _ ts (λ s i. ne_eqb s.node n (λ e. true≢false (sym h ∙ ap q (sym e) ∙ f s i)))

  -- a node that came later has room
  room_there : Later → has_room m.page_counts t.ledger n ≡ true
  room_there h = go (has_room m.page_counts t.ledger n) refl
    where
      go : (b : Bool) → has_room m.page_counts t.ledger n ≡ b → b ≡ true
      go true e = refl
      go false e = absurd ((no_room m.page_counts t.ledger n).0 e h.page h.free)

  pub later_true : (reason_of m t j k n ≡ 7) ↔ Later
  unfolding first_with_room chosen is_chosen
  later_true = (
    λ e. let h = (reason_7 m t j k p n l).0 e in there h.0 h.1 (chosen t.free (order_of m t j k)) refl h.2,
    λ h. let f = h.first_served in
        let first = chosen_first m t matches (order_of m t j k) ∙ keep_first f in
        (reason_7 m t j k p n l).1 (
          split_names f ∙ rw (h.after, or-true (eqb h.served.node n), or-true (names f.before n)),
          counted_as m t matches n ∙ room_there h,
          ap (λ (o : Option Try). is_chosen o n) first ∙ ne_eqb h.served.node n h.other,
        ),
  )
    where
      there : names (order_of m t j k) n ≡ true → counted t.free n ≡ true
          → (o : Option Try) → chosen t.free (order_of m t j k) ≡ o → is_chosen o n ≡ false → Later
      there e h none c i =
          let none_counted = (first_none (λ s. counted t.free s.node) (order_of m t j k)).0 c in
          absurd (true≢false (sym e ∙ failed_names (counted t.free) (order_of m t j k) (λ s m. any_false _ none_counted m) h))
      there e h (some s) c i =
          let room = sym (counted_as m t matches n) ∙ h in
          let f = first_keep _ (order_of m t j k) (sym (chosen_first m t matches (order_of m t j k)) ∙ c) in
          let earlier = failed_names (has_room m.page_counts t.ledger) f.before f.failed room in
          record {
            served = s;
            first_served = f;
            other = eqb-false s.node n i;
            not_before = earlier;
            after = rw (earlier, i) at (sym (split_names f) ∙ e);
            page = pick_page m.page_counts t.ledger j n;
            free = (picked_page m.page_counts t.ledger n j room).page;
          }
