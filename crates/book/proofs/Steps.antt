-- A call by value that did what the rules say did the book's step.
-- Assumes nothing.
use Prim.Native.Nat.{ℕ}
use mathlib.Core.Path.{◌≡◌, refl, sym, ◌∙◌}
use mathlib.Core.List.{List}
use lib.ListN.{length}
use Rattle.rules.specs.Machine.{Machine, node_count}
use Rattle.rules.specs.Records.{Policy, policy}
use Rattle.rules.specs.Calls.{Answer, Tables, outcome, applied, on_request, on_release, on_fresh, on_install, on_rebind, on_clear, on_keep, on_set_map}
use Rattle.rules.specs.Decisions.{Decision, refuse, accept}
use Rattle.rules.specs.Drain.{Move, drain_decision}
use Rattle.rules.specs.Book.{Call as LawCall, request, release, rebind, clear, fresh_table, drain, decision, step}
use Rattle.rules.proofs.Decisions.{not_accepted}
use Rattle.records.specs.declared.policy.AppPolicy.{AppPolicy}
use Rattle.records.specs.Jobs.{Asks}
use Rattle.drain.specs.Outcomes.{count_of}
use Rattle.book.specs.declared.Call.{Call}
use Rattle.book.specs.declared.Call.TheVariants.{Request, Release, Rebind, Install, Clear, Fresh, Keep, SetMap, Drain}
use Rattle.book.specs.Says.{Named, Says}

module _ (m : Machine) (t after : Tables) (a : Answer) (call : Call) (places bytes : List ℕ) (c : LawCall) (s : Says call places bytes c) where
  -- a request
  pub did_request : {j k : ℕ} → call ≡ Request j k → outcome a after ≡ on_request m t j k → outcome a after ≡ step m t c
  unfolding step decision on_request
  did_request {j} {k} e o = let q : c ≡ request j k = rw e at s in rw q o

  -- a release
  pub did_release : {j p : ℕ} → call ≡ Release j p → outcome a after ≡ on_release m.page_counts t j p → outcome a after ≡ step m t c
  unfolding step decision on_release
  did_release {j} {p} e o = let q : c ≡ release j p = rw e at s in rw q o

  -- a rebind
  pub did_rebind : {j allowed : ℕ} → call ≡ Rebind j allowed → outcome a after ≡ on_rebind (node_count m) t j allowed → outcome a after ≡ step m t c
  unfolding step decision on_rebind
  did_rebind {j} {allowed} e o = let q : c ≡ rebind j allowed = rw e at s in rw q o

  -- a clear
  pub did_clear : {j : ℕ} → call ≡ Clear j → outcome a after ≡ on_clear (node_count m) t j → outcome a after ≡ step m t c
  unfolding step decision on_clear
  did_clear {j} e o = let q : c ≡ clear j = rw e at s in rw q o

  -- a fresh table
  pub did_fresh : call ≡ Fresh → outcome a after ≡ on_fresh m.page_counts t → outcome a after ≡ step m t c
  unfolding step decision on_fresh
  did_fresh e o = let q : c ≡ fresh_table = rw e at s in rw q o

  -- an install: for the policy that the value asks for
  pub did_install : {j mode flag mask len : ℕ} (asked : AppPolicy) → call ≡ Install j mode flag mask len
      → asked.mode ≡ mode → asked.flag ≡ flag → asked.user ≡ mask → asked.len ≡ len → asked.places ≡ places
      → ((p : Policy) → Asks asked p → outcome a after ≡ on_install (node_count m) t j p) → outcome a after ≡ step m t c
  unfolding step decision on_install
  did_install {j} {mode} {flag} {mask} {len} asked e m' f u l ps o =
      let q = rw e at s in
      let asks : Asks asked (policy mode flag mask q.0) =
      record {
        same_mode = sym m';
        same_flag = sym f;
        same_user = sym u;
        same_len = sym q.2.long ∙ sym l;
        same_places = sym q.2.held ∙ sym ps;
      } in
      rw q.1 (o (policy mode flag mask q.0) asks)

  -- M-103: the tenant's call
  pub did_keep : {j len : ℕ} → call ≡ Keep j len → ((list : List ℕ) → Named len bytes list → outcome a after ≡ on_keep (node_count m) t j list)
      → outcome a after ≡ step m t c
  unfolding step decision on_keep
  did_keep {j} {len} e o = let q = rw e at s in rw q.1 (o q.0 q.2)

  -- and the administrator's
  pub did_set : {j len : ℕ} → call ≡ SetMap j len → ((list : List ℕ) → Named len bytes list → outcome a after ≡ on_set_map (node_count m) t j list)
      → outcome a after ≡ step m t c
  unfolding step decision on_set_map
  did_set {j} {len} e o = let q = rw e at s in rw q.1 (o q.0 q.2)

  -- M-107: a drain
  pub did_drain_lem : {x room : ℕ} → call ≡ Drain x room → outcome a after ≡ applied t (drain_decision m.page_counts m.distances x t room)
      → outcome a after ≡ step m t c
  unfolding step decision
  did_drain_lem {x} {room} e o = let q : c ≡ drain x room = rw e at s in rw q o

-- ---- what a drain answers

-- so many moves
pub counted_moves : {k : ℕ} (d : Decision (List Move)) → accept k ≡ count_of d → (vs : List Move) × (d ≡ accept vs) × (k ≡ length vs)
counted_moves (refuse r) e = absurd (not_accepted r _ refl (sym e))
counted_moves (accept vs) e = (vs, refl, cc)

-- or a refusal
pub refused_moves : {r : ℕ} (d : Decision (List Move)) → refuse r ≡ count_of d → d ≡ refuse r
refused_moves (refuse q) e = cc
refused_moves (accept vs) e = absurd (not_accepted _ _ (sym e) refl)
