-- What the calls promise: refusals change nothing; what a grant and a release say of page, node and ledger.
-- Assumes nothing.
use Prim.Native.Nat.{ℕ, ◌+◌, ◌*◌, ◌≤◌, ◌<◌, zero, suc}
use mathlib.Core.Path.{◌≡◌, refl, sym, ap, subst, ◌∙◌}
use mathlib.Core.Logic.{◌↔◌, ⊎_elim}
use mathlib.Core.Bool.{Bool, true, false, not, ◌&&◌, true≢false}
use mathlib.Core.Option.{Option, none, some}
use mathlib.Core.List.Memᴰ
use mathlib.Core.List.{List, [], ◌∷◌, map}
use native.Mathlib.Omega.{arith}
use borrow.Author.Tests.{eqb-true, ltb-true, ltb-false, leb-true, leb-false, lt-leb}
use lib.ListN.{length, get_or, drop, set, length-set}
use lib.Seq.{length-sets, drop-set-lt}
use lib.Dec.{leb, ltb}
use Rattle.rules.specs.Basics.{Each, each, from, sum}
use Rattle.rules.specs.Machine.{Machine, node_count, node_of_page, node_of_cpu}
use Rattle.rules.specs.Masks.{has, is_empty, below}
use Rattle.rules.specs.Records.{Record, Policy, Mode, default, preferred, bind, interleave, list, ring, early, unknownMode}
use Rattle.rules.specs.Records.{places_of, closes, record_at, put_record, fresh, well_formed, installed, rebound, Turn}
use Rattle.rules.specs.Maps.{put_map, good_nodes, system_node, application_node, turned, keeps_of}
use Rattle.rules.specs.SearchOrder.{Try, try, Plan, nearest, placed, closed, near, tried, target, interleaved, listed, plan_in, plan}
use Rattle.rules.specs.SearchOrder.{mode_in_force, order}
use Rattle.rules.specs.SearchOrder.{has_room, pick_page, counted, chosen}
use Rattle.rules.specs.Decisions.{Decision, refuse, accept, unless}
use Rattle.rules.specs.Calls.{granted, released, refused, Tables, Write, write, Store, Remap, Change, after_writes, after_stores, after_remaps}
use Rattle.rules.specs.Calls.{applied, granting, freeing, freeing_all, storing, mapping, map_of, is_job, is_mapped, fresh_tables_ok, release_tables_ok}
use Rattle.rules.specs.Calls.{record_tables_ok, mapped_tables_ok, policy_known, install_fits, rebind_fits, holds, count_fits, limit_of, order_of}
use Rattle.rules.specs.Calls.{release_decision, fresh_decision, install_decision, rebind_decision, clear_decision, keep_decision, set_map_decision}
use Rattle.rules.specs.Drain.{Move, held_pages, moved, moves, move_writes, draining, drain_tables_ok, counts_match, moves_within, drain_moves, drain_decision}
use Rattle.rules.specs.Book.{Call, request, release, install, rebind, clear, fresh_table, keep_nodes, set_map, drain, decision, step}
use Rattle.rules.specs.Ledger.{writes_of}
use Rattle.rules.proofs.Admission.{Passes, accepted}
use Rattle.rules.proofs.InOrder.{SameLengths, pages_in_order_lem, drain_fresh_ok}
use Rattle.rules.proofs.Decisions.{not_accepted, passed, passed_to, went_on}
use Rattle.rules.proofs.Lists.{◌∈◌, both_true, keep_member, map_member, FirstOf, first_keep, first_member, in_table_lem}
use Rattle.rules.proofs.Masks.{both_has}
use Rattle.rules.proofs.Moves.{Queue, held_queue, queue_first, queue_rest, move_is, moves_cons, moves_nil, new_in_table, moved_length}
use Rattle.rules.proofs.Near.{near_allowed}
use Rattle.rules.proofs.Pages.{page_lt, page_node}
use Rattle.rules.proofs.Picked.{PickedPage, picked_page}

-- ---- the tests that an accepted call has passed

-- "install 1, 2", 15, "4, 5, 7, 6"
pub record InstallPasses (n : ℕ) (t : Tables) (j : ℕ) (p : Policy) : Type 0 where
  pub tables_ok : mapped_tables_ok n (length t.records) (length t.maps) ≡ true
  pub job : is_job t.records j ≡ true
  pub mapped : is_mapped n t j ≡ true
  pub formed : well_formed n (record_at t.records j) ≡ true
  pub known : policy_known p ≡ true
  pub allowed : not (is_empty (record_at t.records j).allowed) ≡ true
  pub fits : install_fits n (map_of t j) (record_at t.records j).allowed p ≡ true

pub installs : (n : ℕ) (t : Tables) (j : ℕ) (p : Policy) {x : Change} → install_decision n t j p ≡ accept x
    → InstallPasses n t j p × (x ≡ storing j (installed (record_at t.records j) (turned (map_of t j) p)))
unfolding install_decision
installs n t j p {x} e =
    let r = record_at t.records j in
    let a = passed (mapped_tables_ok n (length t.records) (length t.maps)) 1 _ e in
    let b = passed (is_job t.records j) 2 _ a.1 in
    let c = passed (is_mapped n t j) 15 _ b.1 in
    let d = passed (well_formed n r) 4 _ c.1 in
    let f = passed (policy_known p) 5 _ d.1 in
    let g = passed (not (is_empty r.allowed)) 7 _ f.1 in
    let h = passed (install_fits n (map_of t j) r.allowed p) 6 _ g.1 in
    let same : x ≡ storing j (installed r (turned (map_of t j) p)) = cc in
    (record { tables_ok = a.0; job = b.0; mapped = c.0; formed = d.0; known = f.0; allowed = g.0; fits = h.0 }, same)

-- "rebind 1, 2, 4, 6, 7, 9"
pub record RebindPasses (n : ℕ) (records : List ℕ) (j allowed : ℕ) : Type 0 where
  pub tables_ok : record_tables_ok n (length records) ≡ true
  pub job : is_job records j ≡ true
  pub formed : well_formed n (record_at records j) ≡ true
  pub in_range : below n allowed ≡ true
  pub some_node : not (is_empty allowed) ≡ true
  pub fits : rebind_fits (rebound (record_at records j) allowed) ≡ true

pub rebinds : (n : ℕ) (records : List ℕ) (j allowed : ℕ) {x : Change} → rebind_decision n records j allowed ≡ accept x
    → RebindPasses n records j allowed × (x ≡ storing j (rebound (record_at records j) allowed))
unfolding rebind_decision
rebinds n records j allowed {x} e =
    let r = record_at records j in
    let a = passed (record_tables_ok n (length records)) 1 _ e in
    let b = passed (is_job records j) 2 _ a.1 in
    let c = passed (well_formed n r) 4 _ b.1 in
    let d = passed (below n allowed) 6 _ c.1 in
    let f = passed (not (is_empty allowed)) 7 _ d.1 in
    let g = passed (rebind_fits (rebound r allowed)) 9 _ f.1 in
    let same : x ≡ storing j (rebound r allowed) = cc in
    (record { tables_ok = a.0; job = b.0; formed = c.0; in_range = d.0; some_node = f.0; fits = g.0 }, same)

-- "clear 1, 2"
pub clears : (n : ℕ) (records : List ℕ) (j : ℕ) {x : Change} → clear_decision n records j ≡ accept x
    → (is_job records j ≡ true) × (x ≡ storing j fresh)
unfolding clear_decision
clears n records j {x} e =
    let a = passed (record_tables_ok n (length records)) 1 _ e in
    let b = passed (is_job records j) 2 _ a.1 in
    let same : x ≡ storing j fresh = cc in
    (b.0, same)

-- M-103: the tenant's call tests 1, 2, 15
pub record KeepPasses (n : ℕ) (t : Tables) (j : ℕ) (kept : List ℕ) : Type 0 where
  pub tables_ok : mapped_tables_ok n (length t.records) (length t.maps) ≡ true
  pub job : is_job t.records j ≡ true
  pub mapped : is_mapped n t j ≡ true
  pub keeps : keeps_of (map_of t j) kept ≡ true

pub keepings : (n : ℕ) (t : Tables) (j : ℕ) (kept : List ℕ) {x : Change} → keep_decision n t j kept ≡ accept x
    → KeepPasses n t j kept × (x ≡ mapping j (map (system_node (map_of t j)) kept))
unfolding keep_decision
keepings n t j kept {x} e =
    let a = passed (mapped_tables_ok n (length t.records) (length t.maps)) 1 _ e in
    let b = passed (is_job t.records j) 2 _ a.1 in
    let c = passed (is_mapped n t j && keeps_of (map_of t j) kept) 15 _ b.1 in
    let d = both_true {a = is_mapped n t j} c.0 in
    let same : x ≡ mapping j (map (system_node (map_of t j)) kept) = cc in
    (record { tables_ok = a.0; job = b.0; mapped = d.0; keeps = d.1 }, same)

-- and so does the administrator's
pub record SetMapPasses (n : ℕ) (t : Tables) (j : ℕ) (nodes : List ℕ) : Type 0 where
  pub tables_ok : mapped_tables_ok n (length t.records) (length t.maps) ≡ true
  pub job : is_job t.records j ≡ true
  pub good : good_nodes n nodes ≡ true

pub set_maps : (n : ℕ) (t : Tables) (j : ℕ) (nodes : List ℕ) {x : Change} → set_map_decision n t j nodes ≡ accept x
    → SetMapPasses n t j nodes × (x ≡ mapping j nodes)
unfolding set_map_decision
set_maps n t j nodes {x} e =
    let a = passed (mapped_tables_ok n (length t.records) (length t.maps)) 1 _ e in
    let b = passed (is_job t.records j) 2 _ a.1 in
    let c = passed (good_nodes n nodes) 15 _ b.1 in
    let same : x ≡ mapping j nodes = cc in
    (record { tables_ok = a.0; job = b.0; good = c.0 }, same)

-- "release 1, 2", 15, "10", 14
pub record ReleasePasses (counts : List ℕ) (t : Tables) (j p : ℕ) : Type 0 where
  pub tables_ok : release_tables_ok counts t ≡ true
  pub job : is_job t.records j ≡ true
  pub mapped : is_mapped (length counts) t j ≡ true
  pub held : holds counts t.ledger j p ≡ true
  pub fits : count_fits counts t.free (node_of_page counts p) ≡ true

pub releases : (counts : List ℕ) (t : Tables) (j p : ℕ) {x : Change} → release_decision counts t j p ≡ accept x
    → ReleasePasses counts t j p × (x ≡ freeing counts t j p)
unfolding release_decision
releases counts t j p {x} e =
    let a = passed (release_tables_ok counts t) 1 _ e in
    let b = passed (is_job t.records j) 2 _ a.1 in
    let c = passed (is_mapped (length counts) t j) 15 _ b.1 in
    let d = passed (holds counts t.ledger j p) 10 _ c.1 in
    let f = passed (count_fits counts t.free (node_of_page counts p)) 14 _ d.1 in
    let same : x ≡ freeing counts t j p = cc in
    (record { tables_ok = a.0; job = b.0; mapped = c.0; held = d.0; fits = f.0 }, same)

-- the fresh table: 1 alone
pub freshens : (counts : List ℕ) (t : Tables) {x : Change} → fresh_decision counts t ≡ accept x
    → (fresh_tables_ok counts (length t.ledger) (length t.free) ≡ true) × (x ≡ freeing_all counts)
unfolding fresh_decision
freshens counts t {x} e =
    let a = passed (fresh_tables_ok counts (length t.ledger) (length t.free)) 1 _ e in
    let same : x ≡ freeing_all counts = cc in
    (a.0, same)

-- M-107: a drain tests 1, 6, 14, 17, 11
pub record DrainPasses (counts distances : List ℕ) (x : ℕ) (t : Tables) (room : ℕ) (vs : List Move) : Type 0 where
  pub tables_ok : drain_tables_ok counts distances t ≡ true
  pub node : x < length counts
  pub matching : counts_match counts t ≡ true
  pub moved_so : moves counts distances x t (held_pages counts t.ledger x) ≡ accept vs
  pub room_enough : 2 * length vs ≤ room

-- the moves of a drain that passes its tests
pub drain_moves_lem : (counts distances : List ℕ) (x : ℕ) (t : Tables) (room : ℕ) {vs : List Move} → drain_moves counts distances x t room ≡ accept vs
    → DrainPasses counts distances x t room vs
unfolding drain_moves moves_within
drain_moves_lem counts distances x t room {vs} e =
    let a = passed (drain_tables_ok counts distances t) 1 _ e in
    let b = passed (ltb x (length counts)) 6 _ a.1 in
    let c = passed (counts_match counts t) 14 _ b.1 in
    let d = went_on (moves counts distances x t (held_pages counts t.ledger x)) _ c.1 in
    let f = passed (leb (2 * length d.0) room) 11 _ d.2 in
    let same : d.0 ≡ vs = cc in
    record {
      tables_ok = a.0;
      node = ltb-true x (length counts) b.0;
      matching = c.0;
      moved_so = d.1 ∙ ap accept same;
      room_enough = rw (sym same) (leb-true (2 * length d.0) room f.0);
    }

pub drains_so : (counts distances : List ℕ) (x : ℕ) (t : Tables) (room : ℕ) {c : Change} → drain_decision counts distances x t room ≡ accept c
    → (vs : List Move) × DrainPasses counts distances x t room vs × (c ≡ draining x t vs)
unfolding drain_decision
drains_so counts distances x t room {c} e =
    let a = went_on (drain_moves counts distances x t room) _ e in
    let same : c ≡ draining x t a.0 = cc in
    (a.0, drain_moves_lem counts distances x t room a.1, same)

-- What an accepted call is: a request that is granted, a release of a held page, a fresh table, a drain, or a call that stores a record or sets
-- a map.
pub data Accepted (m : Machine) (t : Tables) (c : Call) (x : Change) : Type 0 where
  grants : (j k : ℕ) (s : Try) → c ≡ request j k → Passes m t j k → chosen t.free (order_of m t j k) ≡ some s
      → has_room m.page_counts t.ledger s.node ≡ true → x ≡ granting m.page_counts t j s → Accepted m t c x
  frees : (j p : ℕ) → c ≡ release j p → ReleasePasses m.page_counts t j p → x ≡ freeing m.page_counts t j p → Accepted m t c x
  frees_all : fresh_tables_ok m.page_counts (length t.ledger) (length t.free) ≡ true → x ≡ freeing_all m.page_counts → Accepted m t c x
  drains : (y room : ℕ) (vs : List Move) → DrainPasses m.page_counts m.distances y t room vs → x ≡ draining y t vs → Accepted m t c x
  stores : (j : ℕ) (r : Record) → x ≡ storing j r → Accepted m t c x
  maps : (j : ℕ) (nodes : List ℕ) → x ≡ mapping j nodes → Accepted m t c x

-- every accepted call is one of these
pub accepted_is : (m : Machine) (t : Tables) (c : Call) {x : Change} → decision m t c ≡ accept x → Accepted m t c x
unfolding decision
accepted_is m t (request j k) e = let a = accepted m t j k e in grants j k a.1 refl a.0 a.2 a.3 a.4
accepted_is m t (release j p) e = let a = releases m.page_counts t j p e in frees j p refl a.0 a.1
accepted_is m t (install j p) e = stores j _ (installs (node_count m) t j p e).1
accepted_is m t (rebind j allowed) e = stores j _ (rebinds (node_count m) t.records j allowed e).1
accepted_is m t (clear j) e = stores j _ (clears (node_count m) t.records j e).1
accepted_is m t fresh_table e = let a = freshens m.page_counts t e in frees_all a.0 a.1
accepted_is m t (keep_nodes j kept) e = maps j _ (keepings (node_count m) t j kept e).1
accepted_is m t (set_map j nodes) e = maps j nodes (set_maps (node_count m) t j nodes e).1
accepted_is m t (drain y room) e = let a = drains_so m.page_counts m.distances y t room e in drains y room a.0 a.1 a.2

-- ---- refusals

-- the answer of an accepted call is no refusal
pub not_refused : {m : Machine} {t : Tables} {c : Call} {x : Change} → Accepted m t c x → (r : ℕ) → x.answer ≡ refused r → ⊥
not_refused (grants j k s a b d h e) r f = let z : ◌≡◌ {A = ℕ} 0 1 = cc in omega arith
not_refused (frees j p a b e) r f = let z : ◌≡◌ {A = ℕ} 0 1 = cc in omega arith
not_refused (frees_all a e) r f = let z : ◌≡◌ {A = ℕ} 0 1 = cc in omega arith
not_refused (drains y room vs a e) r f = let z : ◌≡◌ {A = ℕ} 0 1 = cc in omega arith
not_refused (stores j x e) r f = let z : ◌≡◌ {A = ℕ} 0 1 = cc in omega arith
not_refused (maps j x e) r f = let z : ◌≡◌ {A = ℕ} 0 1 = cc in omega arith

-- "Every refusal .. leaves all lent memory unchanged"
pub refused_same : (m : Machine) (t : Tables) (c : Call) (r : ℕ) → (step m t c).answer ≡ refused r → (step m t c).tables ≡ t
unfolding step applied
refused_same m t c r e = go (decision m t c) refl e
  where
    go : (d : Decision Change) → decision m t c ≡ d → (applied t d).answer ≡ refused r → (applied t d).tables ≡ t
    go (refuse q) f e = refl
    go (accept x) f e = absurd (not_refused (accepted_is m t c f) r e)

-- ---- the tables keep their lengths

-- the ledger after a call is the ledger with what the call writes
pub ledger_by_writes : (m : Machine) (t : Tables) (c : Call) → (step m t c).tables.ledger ≡ after_writes t.ledger (writes_of (decision m t c))
unfolding step applied writes_of after_writes
ledger_by_writes m t c = go (decision m t c)
  where
    go : (d : Decision Change) → (applied t d).tables.ledger ≡ after_writes t.ledger (writes_of d)
    go (refuse r) = refl
    go (accept x) = refl

writes_length : (table : List ℕ) (ws : List Write) → length (after_writes table ws) ≡ length table
unfolding after_writes
writes_length table [] = refl
writes_length table (w ∷ ws) = writes_length (set table w.at w.value) ws ∙ length-set table w.at w.value

-- no call makes the page table longer or shorter
ledger_length : (m : Machine) (t : Tables) (c : Call) → length (step m t c).tables.ledger ≡ length t.ledger
ledger_length m t c = ap length (ledger_by_writes m t c) ∙ writes_length t.ledger (writes_of (decision m t c))

stores_length : (records : List ℕ) (ss : List Store) → length (after_stores records ss) ≡ length records
unfolding after_stores put_record
stores_length records [] = refl
stores_length records (s ∷ ss) = stores_length (put_record records s.job s.stored) ss ∙ simp length-sets

-- no call makes the job table longer or shorter
records_length : (m : Machine) (t : Tables) (c : Call) → length (step m t c).tables.records ≡ length t.records
unfolding step applied
records_length m t c = go (decision m t c)
  where
    go : (d : Decision Change) → length (applied t d).tables.records ≡ length t.records
    go (refuse r) = refl
    go (accept x) = stores_length t.records x.stores

-- no call makes the table of free counts longer or shorter
free_length : (m : Machine) (t : Tables) (c : Call) → length (step m t c).tables.free ≡ length t.free
unfolding step applied
free_length m t c = go (decision m t c)
  where
    go : (d : Decision Change) → length (applied t d).tables.free ≡ length t.free
    go (refuse r) = refl
    go (accept x) = writes_length t.free x.recounts

remaps_length : (table : List ℕ) (rs : List Remap) → length (after_remaps table rs) ≡ length table
unfolding after_remaps put_map
remaps_length table [] = refl
remaps_length table (r ∷ rs) = remaps_length (put_map table r.job r.nodes) rs ∙ simp length-sets

-- no call makes the map table longer or shorter
maps_length : (m : Machine) (t : Tables) (c : Call) → length (step m t c).tables.maps ≡ length t.maps
unfolding step applied
maps_length m t c = go (decision m t c)
  where
    go : (d : Decision Change) → length (applied t d).tables.maps ≡ length t.maps
    go (refuse r) = refl
    go (accept x) = remaps_length t.maps x.remaps

-- no call makes any table longer or shorter
pub lengths_kept : (m : Machine) (t : Tables) (c : Call) → SameLengths t (step m t c).tables
lengths_kept m t c =
    record { ledger = ledger_length m t c; records = records_length m t c; free = free_length m t c; maps = maps_length m t c }

-- ---- the search

-- a plan that looks only at nodes of the limit
Inside : ℕ → Plan → Type 0
Inside limit (nearest set x turn) = (k : ℕ) → has set k ≡ true → has limit k ≡ true
Inside limit (placed ts) = Unit {0}
Inside limit (closed ts x turn) = Unit {0}

plan_inside : (mode : Mode) (limit : ℕ) (r : Record) (x : ℕ) → Inside limit (plan_in mode limit r x)
unfolding plan_in interleaved listed Inside
plan_inside default limit r x = λ k h. h
plan_inside preferred limit r x = λ k h. h
plan_inside bind limit r x = λ k h. (both_has limit r.effective k h).0
plan_inside interleave limit r x = go (target r.effective r.turn.cursor)
  where
    go : (o : Option ℕ) → Inside limit (interleaved limit o)
    go none = tt
    go (some t) = λ k h. h
plan_inside list limit r x = go (closes (places_of r))
  where
    go : (b : Bool) → Inside limit (listed b (map (try r.turn) (places_of r)) x r.turn)
    go true = tt
    go false = tt
plan_inside ring limit r x = tt
plan_inside early limit r x = tt
plan_inside unknownMode limit r x = tt

-- a try of near(x) is a node of its set
near_try : (n : ℕ) (distances : List ℕ) (set x : ℕ) (turn : Turn) {s : Try} → s ∈ map (try turn) (near n distances set x) → has set s.node ≡ true
near_try n distances set x turn h =
    let r = map_member _ (near n distances set x) h in
    ap (λ (s : Try). has set s.node) r.2 ∙ near_allowed n distances set x r.0 r.1

-- a place that is not passed over names a node of the limit
place_try : (n limit : ℕ) (ts : List Try) {s : Try} → s ∈ tried n limit ts → has limit s.node ≡ true
unfolding tried
place_try n limit ts {s} h = (both_true {a = ltb s.node n} (keep_member _ ts h).1).1

planned_allowed : (n : ℕ) (distances : List ℕ) (limit : ℕ) (p : Plan) → Inside limit p → {s : Try} → s ∈ order n distances limit p
    → has limit s.node ≡ true
unfolding order Inside
planned_allowed n distances limit (nearest set x turn) i {s} h = i s.node (near_try n distances set x turn h)
planned_allowed n distances limit (placed ts) i h = place_try n limit ts h
planned_allowed n distances limit (closed ts x turn) i h =
    ⊎_elim (place_try n limit ts) (near_try n distances limit x turn) (Memᴰ.append_cases (tried n limit ts) h)

-- every node that a search tries is allowed
pub order_allowed : (n : ℕ) (distances : List ℕ) (limit : ℕ) (r : Record) (x : ℕ) {s : Try} → s ∈ order n distances limit (plan limit r x)
    → has limit s.node ≡ true
unfolding plan
order_allowed n distances limit r x h = planned_allowed n distances limit (plan limit r x) (plan_inside (mode_in_force r) limit r x) h

-- ---- request

-- M-100: the first node in the order that is counted above 0 grants; M-105: the page of the job's colour: what a grant of page p of node n says
pub record Granted (m : Machine) (t : Tables) (j k n p : ℕ) : Type 0 where
  pub passes : Passes m t j k
  pub served : Try
  pub served_by : served.node ≡ n
  pub first_counted : FirstOf (λ s. counted t.free s.node) (order_of m t j k) served
  pub picked : PickedPage m.page_counts t.ledger j n p
  pub allowed : has (limit_of t j) n ≡ true

module _ (m : Machine) (t : Tables) (j k : ℕ) where
  -- the try that serves a request: what it grants
  pub serves : {s : Try} → Passes m t j k → chosen t.free (order_of m t j k) ≡ some s → has_room m.page_counts t.ledger s.node ≡ true
      → Granted m t j k s.node (pick_page m.page_counts t.ledger j s.node)
  unfolding chosen order_of
  serves {s} a e room =
      let f = first_keep (λ s. counted t.free s.node) (order_of m t j k) e in
      record {
        passes = a;
        served = s;
        served_by = refl;
        first_counted = f;
        picked = picked_page m.page_counts t.ledger s.node j room;
        allowed = order_allowed (node_count m) m.distances (limit_of t j) (record_at t.records j) (node_of_cpu m.cpu_nodes k) (first_member f);
      }

-- a grant that is answered with node a of the job's map
pub record GrantedAs (m : Machine) (t : Tables) (j k a p : ℕ) : Type 0 where
  pub node : ℕ
  pub named : application_node (map_of t j) node ≡ a
  pub grant : Granted m t j k node p

-- a grant, whatever the call, is a request's, and says what the grant of a request says
pub granted_by : (m : Machine) (t : Tables) (c : Call) {a p : ℕ} → (step m t c).answer ≡ granted a p
    → (j : ℕ) × (k : ℕ) × (c ≡ request j k) × GrantedAs m t j k a p
unfolding step applied
granted_by m t c {a = n} {p} e = go (decision m t c) refl e
  where
    by : {x : Change} → Accepted m t c x → x.answer ≡ granted n p → (j : ℕ) × (k : ℕ) × (c ≡ request j k) × GrantedAs m t j k n p
    by (grants j k s q a b h d) e =
        let name : application_node (map_of t j) s.node ≡ n = cc in
        let page : pick_page m.page_counts t.ledger j s.node ≡ p = cc in
        (j, k, q, record { node = s.node; named = name; grant = subst (Granted m t j k s.node) page (serves m t j k a b h) })
    by (frees j q a b d) e = absurd (let z : ◌≡◌ {A = ℕ} 0 1 = cc in omega arith)
    by (frees_all a d) e = absurd (let z : ◌≡◌ {A = ℕ} 0 1 = cc in omega arith)
    by (drains y room vs a d) e = absurd (let z : ◌≡◌ {A = ℕ} 0 1 = cc in omega arith)
    by (stores j r d) e = absurd (let z : ◌≡◌ {A = ℕ} 0 1 = cc in omega arith)
    by (maps j r d) e = absurd (let z : ◌≡◌ {A = ℕ} 0 1 = cc in omega arith)

    go : (d : Decision Change) → decision m t c ≡ d → (applied t d).answer ≡ granted n p
        → (j : ℕ) × (k : ℕ) × (c ≡ request j k) × GrantedAs m t j k n p
    go (refuse r) f e = absurd (let z : ◌≡◌ {A = ℕ} 0 1 = cc in omega arith)
    go (accept x) f e = by (accepted_is m t c f) e

-- a request is granted only so
pub granted_is : (m : Machine) (t : Tables) (j k : ℕ) {a p : ℕ} → (step m t (request j k)).answer ≡ granted a p → GrantedAs m t j k a p
granted_is m t j k {a} {p} e =
    let g = granted_by m t (request j k) e in
    let sameJob : g.0 ≡ j = cc in
    let sameCpu : g.1 ≡ k = cc in
    subst (λ (x : ℕ). GrantedAs m t x k a p) sameJob (subst (λ (x : ℕ). GrantedAs m t g.0 x a p) sameCpu g.3)

-- the page of a grant was free
pub granted_was_free : {m : Machine} {t : Tables} {j k n p : ℕ} → Granted m t j k n p → get_or t.ledger p 1 ≡ 0
granted_was_free g = g.picked.page.free

-- the page of a grant lies in the node granted
pub granted_in_node : {m : Machine} {t : Tables} {j k n p : ℕ} → Granted m t j k n p → node_of_page m.page_counts p ≡ n
granted_in_node g = page_node g.picked.page.of_node

-- it is below the number of pages
pub granted_page_lt : {m : Machine} {t : Tables} {j k n p : ℕ} → Granted m t j k n p → p < sum m.page_counts
granted_page_lt g = page_lt g.picked.page.of_node

-- M-100: "pass over nodes counted 0": every node tried before the one that serves is counted 0
pub earlier_counted_0 : {m : Machine} {t : Tables} {j k n p : ℕ} (g : Granted m t j k n p) {s : Try} → s ∈ g.first_counted.before
    → get_or t.free s.node 0 ≡ 0
unfolding counted
earlier_counted_0 {t = t} g {s} h = let l = ltb-false 0 (get_or t.free s.node 0) (g.first_counted.failed s h) in omega arith

-- ---- release

-- "10 page number out of range, or not held by this job": what a release of page q, answered with node n, says
pub record Released (m : Machine) (t : Tables) (j p n q : ℕ) : Type 0 where
  pub asked : p ≡ q
  pub in_range : q < sum m.page_counts
  pub held : get_or t.ledger q 0 ≡ j + 1
  pub named : application_node (map_of t j) (node_of_page m.page_counts q) ≡ n

-- a page that a job holds may be released
pub held_page : (counts ledger : List ℕ) (j p : ℕ) → holds counts ledger j p ≡ true → (p < sum counts) × (get_or ledger p 0 ≡ j + 1)
unfolding holds
held_page counts ledger j p e =
    let b = both_true {a = ltb p (sum counts)} e in
    (ltb-true p (sum counts) b.0, eqb-true _ (j + 1) b.1)

-- a released page, whatever the call, is a release's, and says what a release says
pub released_by : (m : Machine) (t : Tables) (c : Call) {n q : ℕ} → (step m t c).answer ≡ released n q
    → (j : ℕ) × (p : ℕ) × (c ≡ release j p) × Released m t j p n q
unfolding step applied
released_by m t c {n} {q} e = go (decision m t c) refl e
  where
    by : {x : Change} → Accepted m t c x → x.answer ≡ released n q → (j : ℕ) × (p : ℕ) × (c ≡ release j p) × Released m t j p n q
    by (grants j k s a b d h f) e = absurd (let z : ◌≡◌ {A = ℕ} 0 1 = cc in omega arith)
    by (frees_all a d) e = absurd (let z : ◌≡◌ {A = ℕ} 0 1 = cc in omega arith)
    by (drains y room vs a d) e = absurd (let z : ◌≡◌ {A = ℕ} 0 1 = cc in omega arith)
    by (frees j p a b d) e =
        let page : p ≡ q = cc in
        let node : application_node (map_of t j) (node_of_page m.page_counts p) ≡ n = cc in
        let h = held_page m.page_counts t.ledger j p b.held in
        (j, p, a, record { asked = page; in_range = rw (sym page) h.0; held = rw (sym page) h.1; named = rw (sym page) node })
    by (stores j r d) e = absurd (let z : ◌≡◌ {A = ℕ} 0 1 = cc in omega arith)
    by (maps j r d) e = absurd (let z : ◌≡◌ {A = ℕ} 0 1 = cc in omega arith)

    go : (d : Decision Change) → decision m t c ≡ d → (applied t d).answer ≡ released n q
        → (j : ℕ) × (p : ℕ) × (c ≡ release j p) × Released m t j p n q
    go (refuse r) f e = absurd (let z : ◌≡◌ {A = ℕ} 0 1 = cc in omega arith)
    go (accept x) f e = by (accepted_is m t c f) e

-- a release is answered only so
pub released_is : (m : Machine) (t : Tables) (j p : ℕ) {n q : ℕ} → (step m t (release j p)).answer ≡ released n q → Released m t j p n q
released_is m t j p {n} {q} e =
    let g = released_by m t (release j p) e in
    let sameJob : g.0 ≡ j = cc in
    let samePage : g.1 ≡ p = cc in
    subst (λ (x : ℕ). Released m t x p n q) sameJob (subst (λ (x : ℕ). Released m t g.0 x n q) samePage g.3)

-- M-100: "a release that would take a count above the node's pages": one that passes 1, 2, 15 and 10 and finds that
pub record MeetsFullCount (counts : List ℕ) (t : Tables) (j p : ℕ) : Type 0 where
  pub tables_ok : release_tables_ok counts t ≡ true
  pub job : is_job t.records j ≡ true
  pub mapped : is_mapped (length counts) t j ≡ true
  pub held : holds counts t.ledger j p ≡ true
  pub above : get_or counts (node_of_page counts p) 0 < get_or t.free (node_of_page counts p) 0 + 1

-- a release is refused 14 exactly then
pub release_14 : (m : Machine) (t : Tables) (j p : ℕ) → ((step m t (release j p)).answer ≡ refused 14) ↔ MeetsFullCount m.page_counts t j p
unfolding step decision applied release_decision count_fits
release_14 m t j p = (λ e. there (release_decision m.page_counts t j p) refl e, λ h. back h)
  where
    last : (b : Bool) (x : Change) → unless b 14 (accept x) ≡ refuse 14 → b ≡ false
    last true x e = absurd (not_accepted 14 _ e refl)
    last false x e = refl

    there : (d : Decision Change) → release_decision m.page_counts t j p ≡ d → (applied t d).answer ≡ refused 14 → MeetsFullCount m.page_counts t j p
    there (accept x) f e = absurd (not_refused (accepted_is m t (release j p) f) 14 e)
    there (refuse q) f e =
        let same : q ≡ 14 = cc in
        let a = passed_to (release_tables_ok m.page_counts t) 1 _ f (λ y. omega arith) in
        let b = passed_to (is_job t.records j) 2 _ a.1 (λ y. omega arith) in
        let c = passed_to (is_mapped (node_count m) t j) 15 _ b.1 (λ y. omega arith) in
        let d = passed_to (holds m.page_counts t.ledger j p) 10 _ c.1 (λ y. omega arith) in
        let h = last _ _ (d.1 ∙ ap refuse same) in
        record { tables_ok = a.0; job = b.0; mapped = c.0; held = d.0; above = leb-false _ _ h }

    back : MeetsFullCount m.page_counts t j p → (step m t (release j p)).answer ≡ refused 14
    back h = rw (h.tables_ok, h.job, h.mapped, h.held, lt-leb _ _ h.above)

-- M-100: the fresh table "can be refused only 1", exactly when what it is lent is not in order
pub fresh_refused : (m : Machine) (t : Tables) (r : ℕ) → ((step m t fresh_table).answer ≡ refused r)
    ↔ ((r ≡ 1) × (fresh_tables_ok m.page_counts (length t.ledger) (length t.free) ≡ false))
unfolding step decision applied fresh_decision
fresh_refused m t r = go (fresh_tables_ok m.page_counts (length t.ledger) (length t.free)) refl
  where
    go : (b : Bool) → fresh_tables_ok m.page_counts (length t.ledger) (length t.free) ≡ b
        → ((applied t (unless b 1 (accept (freeing_all m.page_counts)))).answer ≡ refused r) ↔ ((r ≡ 1) × (b ≡ false))
    go true e = (λ h. absurd (let z : ◌≡◌ {A = ℕ} 0 1 = cc in omega arith), λ h. absurd (true≢false h.1))
    go false e = (λ h. let q : r ≡ 1 = cc in (q, refl), λ h. ap refused (sym h.0))

-- ---- what a call writes

-- A write at a page of the machine that is in the table.
pub record AtPage (counts ledger : List ℕ) (w : Write) : Type 0 where
  pub of_machine : w.at < sum counts
  pub in_table : w.at < length ledger

-- every page of the machine is one
zeros_from : (counts ledger : List ℕ) (a k : ℕ) → a + k ≤ sum counts → sum counts ≤ length ledger
    → Each (AtPage counts ledger) (map (λ p. write p 0) (from a k))
unfolding from Each
zeros_from counts ledger a zero h fits = tt
zeros_from counts ledger a (suc k) h fits =
    (record { of_machine = omega arith; in_table = omega arith }, zeros_from counts ledger (suc a) k (omega arith) fits)

-- M-107: the page that is left and the page that is taken are such
moves_at_pages : (counts distances : List ℕ) (x : ℕ) (t : Tables) (table ps : List ℕ) (vs : List Move) → length table ≡ length t.ledger
    → Queue counts t.ledger x ps → moves counts distances x t ps ≡ accept vs → Each (AtPage counts table) (each move_writes vs)
unfolding each Each
moves_at_pages counts distances x t table [] vs long q e = rw (moves_nil counts distances x t e) tt
moves_at_pages counts distances x t table (p ∷ ps) vs long q e =
    let c = moves_cons counts distances x t p ps e in
    let m = move_is counts distances t x p c.3 in
    let h = queue_first q m in
    rw c.2 (
      record { of_machine = rw m.old (page_lt h.of_node); in_table = rw (m.old, long) h.in_table },
      (
        record { of_machine = page_lt m.picked.page.of_node; in_table = rw long (new_in_table h m) },
        moves_at_pages counts distances x (moved x t c.0) table ps c.1 (long ∙ sym (moved_length h m)) (queue_rest q m) c.4,
      ),
    )

drain_at_pages : (counts distances : List ℕ) (x : ℕ) (t : Tables) (room : ℕ) (vs : List Move) → DrainPasses counts distances x t room vs
    → Each (AtPage counts t.ledger) (each move_writes vs)
drain_at_pages counts distances x t room vs a =
    let fits = (pages_in_order_lem counts _ _ (drain_fresh_ok counts distances t a.tables_ok)).fits in
    moves_at_pages counts distances x t t.ledger (held_pages counts t.ledger x) vs refl (held_queue counts t.ledger x fits) a.moved_so

-- a call writes only at pages of the machine, and in the table
pub writes_at_pages : (m : Machine) (t : Tables) (c : Call) → Each (AtPage m.page_counts t.ledger) (writes_of (decision m t c))
unfolding writes_of Each
writes_at_pages m t c = go (decision m t c) refl
  where
    by : {x : Change} → Accepted m t c x → Each (AtPage m.page_counts t.ledger) x.writes
    by (grants j k s q a b h d) =
        let g = serves m t j k a b h in
        rw d (record { of_machine = granted_page_lt g; in_table = in_table_lem t.ledger _ 1 0 (granted_was_free g) (λ z. omega arith) }, tt)
    by (frees_all a d) = rw d (zeros_from m.page_counts t.ledger 0 (sum m.page_counts) (omega arith) (pages_in_order_lem m.page_counts _ _ a).fits)
    by (frees j p a b d) =
        let h = held_page m.page_counts t.ledger j p b.held in
        rw d (record { of_machine = h.0; in_table = in_table_lem t.ledger p 0 (j + 1) h.1 (λ z. omega arith) }, tt)
    by (drains y room vs a d) = rw d (drain_at_pages m.page_counts m.distances y t room vs a)
    by (stores j r d) = rw d tt
    by (maps j r d) = rw d tt

    go : (d : Decision Change) → decision m t c ≡ d → Each (AtPage m.page_counts t.ledger) (writes_of d)
    go (refuse r) f = tt
    go (accept x) f = by (accepted_is m t c f)

past_kept : (pages : ℕ) (counts ledger table : List ℕ) (ws : List Write) → Each (AtPage counts table) ws → pages ≡ sum counts
    → drop pages (after_writes ledger ws) ≡ drop pages ledger
unfolding after_writes Each
past_kept pages counts ledger table [] h e = refl
past_kept pages counts ledger table (w ∷ ws) h e =
    past_kept pages counts (set ledger w.at w.value) table ws h.1 e
    ∙ drop-set-lt pages ledger w.at w.value (rw e h.0.of_machine)

-- "Bytes past the last page are never changed": by any call, on any tables
pub past_pages_kept : (m : Machine) (t : Tables) (c : Call)
    → drop (sum m.page_counts) (step m t c).tables.ledger ≡ drop (sum m.page_counts) t.ledger
past_pages_kept m t c =
    ap (drop (sum m.page_counts)) (ledger_by_writes m t c)
    ∙ past_kept (sum m.page_counts) m.page_counts t.ledger t.ledger _ (writes_at_pages m t c) refl
