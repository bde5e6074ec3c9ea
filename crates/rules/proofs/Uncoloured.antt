-- M-105: "On the same tables the node picked doesn't change, nor when refusal 8 is given": a request does all that it did without colours but
-- for the page, for any machine, tables, job and CPU.
-- Assumes nothing.
use Prim.Native.Nat.{ℕ}
use mathlib.Core.Path.{◌≡◌, refl, sym, ap, ◌∙◌}
use mathlib.Core.Logic.{◌↔◌}
use mathlib.Core.Bool.{Bool, true, false}
use mathlib.Core.List.{List}
use mathlib.Core.Option.{Option, none, some}
use native.Mathlib.Omega.{arith}
use Rattle.rules.specs.Machine.{Machine}
use Rattle.rules.specs.Records.{Record}
use Rattle.rules.specs.Maps.{application_node}
use Rattle.rules.specs.SearchOrder.{Try, has_room, chosen}
use Rattle.rules.specs.Decisions.{Decision, refuse, accept, unless, then}
use Rattle.rules.specs.Calls.{Answer, granted, released, done, drained, refused, Tables, Change, applied, granting, admitted, order_of, serve, on_request}
use Rattle.rules.specs.Calls.{map_of, request_decision}
use Rattle.rules.specs.Uncoloured.{granting_uncoloured, serve_uncoloured, request_uncoloured, by_node, SameButPage}
use Rattle.rules.proofs.Pages.{page_node}
use Rattle.rules.proofs.Picked.{lowest_page_lem, picked_page}

-- what comes of two decisions on the same tables is the same but for the page
abbrev Same : List ℕ → Tables → Decision Change → Decision Change → Type 0
Same counts t now before = SameButPage counts (applied t now) (applied t before)

same_refusal : (counts : List ℕ) (t : Tables) (r : ℕ) → Same counts t (refuse r) (refuse r)
unfolding applied
same_refusal counts t r = record { node = refl; records = refl; free = refl; maps = refl }

-- a node with room grants, and both pages are its own
same_grant : (counts : List ℕ) (t : Tables) (j : ℕ) (s : Try) → has_room counts t.ledger s.node ≡ true
    → Same counts t (accept (granting counts t j s)) (accept (granting_uncoloured counts t j s))
unfolding applied
same_grant counts t j s room =
    let now = page_node (picked_page counts t.ledger s.node j room).page.of_node in
    let before = page_node (lowest_page_lem counts t.ledger s.node room).page.of_node in
    record { node = ap (granted (application_node (map_of t j) s.node)) (now ∙ sym before); records = refl; free = refl; maps = refl }

same_served : (counts : List ℕ) (t : Tables) (j : ℕ) (o : Option Try) → Same counts t (serve counts t j o) (serve_uncoloured counts t j o)
unfolding serve serve_uncoloured
same_served counts t j none = same_refusal counts t 8
same_served counts t j (some s) = go (has_room counts t.ledger s.node) refl
  where
    go : (b : Bool) → has_room counts t.ledger s.node ≡ b
        → Same counts t (unless b 14 (accept (granting counts t j s))) (unless b 14 (accept (granting_uncoloured counts t j s)))
    go true e = same_grant counts t j s e
    go false e = same_refusal counts t 14

module _ (m : Machine) (t : Tables) (j k : ℕ) where
  -- the node picked, the refusal, record, counts and maps are those of the law without colours
  pub same_but_page : SameButPage m.page_counts (on_request m t j k) (request_uncoloured m t j k)
  unfolding on_request request_decision request_uncoloured
  same_but_page = go (admitted m t j k)
    where
      found : Option Try
      found = chosen t.free (order_of m t j k)

      go : (d : Decision Record)
          → Same m.page_counts t (then d (λ r. serve m.page_counts t j found)) (then d (λ r. serve_uncoloured m.page_counts t j found))
      go (refuse r) = same_refusal m.page_counts t r
      go (accept x) = same_served m.page_counts t j found

  -- a refusal is the same by node
  refused_by : (a b : Answer) (r : ℕ) → by_node m.page_counts a ≡ by_node m.page_counts b → a ≡ refused r → b ≡ refused r
  refused_by (refused q) (refused s) r e f = sym e ∙ f
  refused_by (refused q) (granted n p) r e f = absurd (let z : ◌≡◌ {A = ℕ} 0 1 = cc in omega arith)
  refused_by (refused q) (released n p) r e f = absurd (let z : ◌≡◌ {A = ℕ} 0 1 = cc in omega arith)
  refused_by (refused q) done r e f = absurd (let z : ◌≡◌ {A = ℕ} 0 1 = cc in omega arith)
  refused_by (refused q) (drained k) r e f = absurd (let z : ◌≡◌ {A = ℕ} 0 1 = cc in omega arith)
  refused_by (granted n p) b r e f = absurd (let z : ◌≡◌ {A = ℕ} 0 1 = cc in omega arith)
  refused_by (released n p) b r e f = absurd (let z : ◌≡◌ {A = ℕ} 0 1 = cc in omega arith)
  refused_by done b r e f = absurd (let z : ◌≡◌ {A = ℕ} 0 1 = cc in omega arith)
  refused_by (drained k) b r e f = absurd (let z : ◌≡◌ {A = ℕ} 0 1 = cc in omega arith)

  -- "nor when refusal 8 is given", and so for every refusal
  pub same_refusals : (r : ℕ) → ((on_request m t j k).answer ≡ refused r) ↔ ((request_uncoloured m t j k).answer ≡ refused r)
  same_refusals r = (refused_by _ _ r same_but_page.node, refused_by _ _ r (sym same_but_page.node))
