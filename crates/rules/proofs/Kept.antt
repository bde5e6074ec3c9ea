-- Every call leaves a well-formed record well formed.
-- Assumes nothing.
use Prim.Native.Nat.{ℕ, ◌^◌, ◌≤◌, ◌<◌}
use mathlib.Core.Path.{◌≡◌, refl, sym, ap, subst, ◌∙◌}
use mathlib.Core.Logic.{⊎_elim}
use mathlib.Core.Bool.{Bool, true, false, ◌&&◌, cond}
use mathlib.Core.List.Memᴰ
use mathlib.Core.List.{List, [], ◌∷◌, map}
use mathlib.Core.Option.{Option, none, some}
use native.Mathlib.Nat.{lt_of_le_of_lt}
use native.Mathlib.Decide.{ℕ_discrete}
use native.Mathlib.Omega.{arith}
use lib.Dec.{leb, eqb}
use lib.ListN.{length}
use borrow.Author.Tests.{ltb-true, leb-true, eqb-true}
use Rattle.rules.specs.Basics.{around, Each}
use Rattle.rules.specs.Machine.{Machine, node_count, nodes_ok, node_of_cpu}
use Rattle.rules.specs.Masks.{most_nodes, has, is_empty}
use Rattle.rules.specs.Records.{Mode, default, preferred, bind, interleave, list, ring, early, unknownMode, row_of, Carries, nothing, aMask}
use Rattle.rules.specs.Records.{aList, unknown, aPlace}
use Rattle.rules.specs.Records.{Flag, plain, static, relative, unknownFlag, carries, mode_of, flag_of, Policy, Turn, last_is, Record, job_count}
use Rattle.rules.specs.Records.{
  job_table_ok,
  places_of,
  closes,
  record_at,
  put_record,
  unused_zero,
  cursor_limit,
  no_masks,
  effective_fits,
  masks_fit,
  data_fits,
}
use Rattle.rules.specs.Records.{mode_known, flag_known, well_formed, installed, rebound, with_turn}
use Rattle.rules.specs.Maps.{map_bytes, turned, within_map}
use Rattle.rules.specs.SearchOrder.{near, Try, try, Plan, nearest, placed, closed, tried, node_at, ring_tries, target, interleaved, listed, plan_in}
use Rattle.rules.specs.SearchOrder.{mode_in_force, ring_places, plan, order, counted, chosen}
use Rattle.rules.specs.Decisions.{Decision, refuse, accept}
use Rattle.rules.specs.Calls.{
  Tables,
  Change,
  Store,
  after_stores,
  applied,
  jobs_ok,
  request_tables_ok,
  record_tables_ok,
  mapped_tables_ok,
  flag_fits,
  policy_known,
}
use Rattle.rules.specs.Calls.{map_of, is_mapped, policy_fits, install_fits, limit_of, order_of}
use Rattle.rules.specs.Book.{Call, request, release, install, rebind, clear, fresh_table, keep_nodes, set_map, drain, decision, step, final}
use Rattle.rules.proofs.Admission.{Passes, accepted}
use Rattle.rules.proofs.Calls.{InstallPasses, RebindPasses, installs, rebinds, clears, keepings, set_maps, releases, freshens, drains_so}
use Rattle.rules.proofs.InOrder.{release_ok, fresh_ok, pages_in_order_lem}
use Rattle.rules.proofs.Maps.{turned_known, turned_bytes, map_nodes}
use Rattle.rules.proofs.Lists.{◌∈◌, both_true, both_hold, between_true, keep_member, first_keep, first_member, map_member, around_below}
use Rattle.rules.proofs.Masks.{within_bits, below_width}
use Rattle.rules.proofs.Records.{Storable, record_storable, fresh_storable, installed_storable, rebound_storable, turn_storable, record_same}
use Rattle.rules.proofs.Records.{record_other, length_put}
use Rattle.rules.proofs.WellFormed.{Formed, formed, well_formed_lem, effective_within, rebound_formed, mode_small, flag_small, few_places}
use Rattle.rules.proofs.WellFormed.{installed_formed, fresh_formed, limit_small, some_pos, rest_zero, carries_list}

-- ---- the turn that a grant leaves

-- the target of an interleaved search is a node below N
target_below : (n : ℕ) (r : Record) (t : ℕ) → n ≤ most_nodes → Formed n r → target r.effective r.turn.cursor ≡ some t → t < n
unfolding target
target_below n r t l h e =
    let f = first_keep (has r.effective) (around most_nodes r.turn.cursor most_nodes) e in
    below_width n r.allowed t h.allowed_below (within_bits r.effective r.allowed (effective_within n r l h) t (eqb-true _ _ f.passes))

module _ (n : ℕ) (distances : List ℕ) (limit : ℕ) (r : Record) (x : ℕ) (l : n ≤ most_nodes) (h : Formed n r) where
  -- a turn is within the limit of mode k, and its unused bits are zero
  Fits : Mode → Turn → Type 0
  Fits k t = (t.cursor ≤ cursor_limit n r.len (row_of k).cursor) × (t.rest ≡ 0)

  -- the record's own turn
  stays : (k : Mode) → mode_of r.mode ≡ k → Fits k r.turn
  unfolding Fits
  stays k e = rw (sym e) (h.cursor_within, rest_zero n r h)

  -- every try of a plan leaves a turn within the limit
  TurnsFit : Mode → Plan → Type 0
  TurnsFit k (nearest set y turn) = Fits k turn
  TurnsFit k (placed ts) = (t : Try) → t ∈ ts → Fits k t.turn
  TurnsFit k (closed ts y turn) = ((t : Try) → t ∈ ts → Fits k t.turn) × Fits k turn

  -- place p for the last: within the limit of a mode whose cursor is a place
  place_turn : (k : Mode) → (row_of k).cursor ≡ aPlace → (p : ℕ) → p < r.len → Fits k (last_is p)
  unfolding Fits cursor_limit
  place_turn k e p below-len = rw e (below-len, refl)

  -- "Ring sets it to the granted place"
  ring_turn : (k : Mode) → (row_of k).cursor ≡ aPlace → (t : Try) → t ∈ ring_tries r → Fits k t.turn
  unfolding ring_tries
  ring_turn k e t i =
      let p = map_member (λ p. try (last_is p) (node_at r p)) (ring_places r) i in
      rw p.2 (place_turn k e p.0 (around_below r.len r.turn.cursor p.1))

  to_target : (o : Option ℕ) → target r.effective r.turn.cursor ≡ o → TurnsFit interleave (interleaved limit o)
  unfolding TurnsFit Fits interleaved cursor_limit row_of
  to_target none e = λ t i. absurd (Memᴰ.not-nil i)
  to_target (some y) e = (target_below n r y l h e, refl)

  -- "List: places in order", with a closing 255 or without: the turn stays
  in_list : (closing : Bool) → mode_of r.mode ≡ list → TurnsFit list (listed closing (map (try r.turn) (places_of r)) x r.turn)
  unfolding TurnsFit listed
  in_list true e = ((λ t i. rw (map_member (try r.turn) (places_of r) i).2 (stays list e)), stays list e)
  in_list false e = λ t i. rw (map_member (try r.turn) (places_of r) i).2 (stays list e)

  moves : (k : Mode) → mode_of r.mode ≡ k → TurnsFit k (plan_in k limit r x)
  unfolding TurnsFit plan_in row_of
  moves default e = stays default e
  moves preferred e = stays preferred e
  moves bind e = stays bind e
  moves interleave e = to_target (target r.effective r.turn.cursor) refl
  moves list e = in_list (closes (places_of r)) e
  moves ring e = λ t i. ring_turn ring refl t i
  moves early e =
      let first = place_turn early refl 0 (carries_list n r (rw e at h.data_fits_lem)).3 in
      λ t i. ⊎_elim (λ q. rw q first) (λ q. ring_turn early refl t q) (Memᴰ.cases_cons i)
  moves unknownMode e = λ t i. absurd (Memᴰ.not-nil i)

  planned_fits : (k : Mode) (p : Plan) → TurnsFit k p → (t : Try) → t ∈ order n distances limit p → Fits k t.turn
  unfolding order tried TurnsFit
  planned_fits k (nearest set y turn) f t i = rw (map_member (try turn) (near n distances set y) i).2 f
  planned_fits k (placed ts) f t i = f t (keep_member _ _ i).0
  planned_fits k (closed ts y turn) f t i =
      ⊎_elim
      (λ h. f.0 t (keep_member _ _ h).0)
      (λ h. let e = (map_member (try turn) (near n distances limit y) h).2 in subst (λ (s : Try). Fits k s.turn) (sym e) f.1)
      (Memᴰ.append_cases (tried n limit ts) i)

  -- every try of a search order leaves a turn within its limit
  order_fits : (t : Try) → t ∈ order n distances limit (plan limit r x) → Fits (mode_of r.mode) t.turn
  unfolding plan mode_in_force plan_in TurnsFit
  order_fits t i = go (eqb r.flag 1 && is_empty r.effective) i
    where
      go : (b : Bool) → t ∈ order n distances limit (plan_in (cond b default (mode_of r.mode)) limit r x) → Fits (mode_of r.mode) t.turn
      go true i = planned_fits (mode_of r.mode) (plan_in default limit r x) (stays (mode_of r.mode) refl) t i
      go false i = planned_fits (mode_of r.mode) (plan_in (mode_of r.mode) limit r x) (moves (mode_of r.mode) refl) t i

-- a record with another turn within its limit is well formed
turn_formed : (n : ℕ) (r : Record) (t : Turn) → Formed n r → t.cursor ≤ cursor_limit n r.len (row_of (mode_of r.mode)).cursor
    → t.rest ≡ 0 → Formed n (with_turn r t)
unfolding with_turn unused_zero data_fits masks_fit no_masks effective_fits
turn_formed n r t h l z = record {
  unused_zero_lem = rw z (both_hold refl (both_true {a = eqb r.turn.rest 0} h.unused_zero_lem).1);
  mode_known_lem = h.mode_known_lem;
  flag_known_lem = h.flag_known_lem;
  allowed_below = h.allowed_below;
  allowed_some = h.allowed_some;
  cursor_within = l;
  data_fits_lem = same_data (carries (mode_of r.mode)) ∙ h.data_fits_lem;
}
  where
    same_flag : (f : Flag) → effective_fits n (with_turn r t) f ≡ effective_fits n r f
    same_flag plain = refl
    same_flag static = refl
    same_flag relative = refl
    same_flag unknownFlag = refl

    same_data : (k : Carries) → data_fits n (with_turn r t) k ≡ data_fits n r k
    same_data nothing = refl
    same_data aMask = rw (same_flag (flag_of r.flag))
    same_data aList = refl
    same_data unknown = refl

-- ---- tables in order

-- "N nodes, 1 to 64"
pub nodes_few : (n : ℕ) → nodes_ok n ≡ true → n ≤ most_nodes
unfolding nodes_ok
nodes_few n e = leb-true n most_nodes (both_true {a = leb 1 n} {b = leb n most_nodes} e).1

-- tables in order at a request have at most 64 nodes
request_nodes : (m : Machine) (t : Tables) → request_tables_ok m t ≡ true → node_count m ≤ most_nodes
request_nodes m t e = (pages_in_order_lem m.page_counts _ _ (fresh_ok m.page_counts t (release_ok m t e))).counts_ok_lem.nodes_most

-- N in order is at most 64
record_nodes : (n words : ℕ) → record_tables_ok n words ≡ true → n ≤ most_nodes
unfolding record_tables_ok
record_nodes n words e = nodes_few n (both_true {a = nodes_ok n} {b = job_table_ok words} e).0

-- and at least 1, also where the maps are lent
pub mapped_nodes : (n words bytes : ℕ) → mapped_tables_ok n words bytes ≡ true → (1 ≤ n) × (n ≤ most_nodes)
unfolding mapped_tables_ok nodes_ok
mapped_nodes n words bytes ok = between_true 1 most_nodes n (both_true {a = nodes_ok n} {b = jobs_ok words bytes} ok).0

-- ---- what each call stores

-- a record that a call stores: its job is there, it can be stored, and it is well formed
pub record Good (n : ℕ) (records : List ℕ) (s : Store) : Type 0 where
  pub there : s.job < job_count (length records)
  pub storable : Storable s.stored
  pub is_formed_lem : Formed n s.stored

abbrev store_as : ℕ → Record → Store
store_as j r = record { job = j; stored = r }

-- the record that a granted request stores
pub request_good : (m : Machine) (t : Tables) (j k : ℕ) (s : Try) → Passes m t j k
    → chosen t.free (order_of m t j k) ≡ some s
    → Good (node_count m) t.records (store_as j (with_turn (record_at t.records j) s.turn))
unfolding order_of Fits chosen
request_good m t j k s p e =
    let n = node_count m in
    let r = record_at t.records j in
    let l = request_nodes m t p.tables_ok in
    let h = formed n r p.formed in
    let member = first_member (first_keep (λ s. counted t.free s.node) (order_of m t j k) e) in
    let fits = order_fits n m.distances (limit_of t j) r (node_of_cpu m.cpu_nodes k) l h s member in
    record {
      there = ltb-true j (job_count (length t.records)) p.job;
      storable = turn_storable r s.turn (record_storable t.records j)
          (lt_of_le_of_lt fits.0 (limit_small n r.len (row_of (mode_of r.mode)).cursor l (record_storable t.records j).len_fits));
      is_formed_lem = turn_formed n r s.turn h fits.0 fits.1;
    }

-- an accepted install names entries of the map, and what they name fits
pub install_fits_lem : (n : ℕ) (t : Tables) (j : ℕ) (p : Policy) → InstallPasses n t j p → let q = turned (map_of t j) p in
    (within_map (map_of t j) p ≡ true) × (policy_fits (carries (mode_of q.mode)) n (record_at t.records j).allowed q ≡ true)
unfolding install_fits turned
install_fits_lem n t j p h = both_true {a = within_map (map_of t j) p} h.fits

install_good : (n : ℕ) (t : Tables) (j : ℕ) (p : Policy) → InstallPasses n t j p
    → Good n t.records (store_as j (installed (record_at t.records j) (turned (map_of t j) p)))
unfolding policy_known is_mapped map_of
install_good n t j p h =
    let r = record_at t.records j in
    let nodes = map_of t j in
    let q = turned nodes p in
    let fits = install_fits_lem n t j p h in
    let known : policy_known q ≡ true = turned_known nodes p fits.0 ∙ h.known in
    let k = both_true {a = mode_known (mode_of q.mode) && flag_known (flag_of q.flag)} {b = flag_fits (carries (mode_of q.mode)) q} known in
    let mf = both_true {a = mode_known (mode_of q.mode)} {b = flag_known (flag_of q.flag)} k.0 in
    let few = few_places (carries (mode_of q.mode)) n r.allowed q fits.1 in
    let nodes_ok = (mapped_nodes n (length t.records) (length t.maps) h.tables_ok).1 in
    let bytes = turned_bytes n nodes p nodes_ok (map_nodes n (map_bytes t.maps j) h.mapped).known in
    record {
      there = ltb-true j (job_count (length t.records)) h.job;
      storable = installed_storable r q (omega (arith, mode_small q.mode mf.0)) (omega (arith, flag_small q.flag mf.1)) (omega arith) bytes;
      is_formed_lem = installed_formed n r q nodes_ok (formed n r h.formed) (some_pos r.allowed h.allowed) known fits.1;
    }

rebind_good : (n : ℕ) (records : List ℕ) (j new : ℕ) → RebindPasses n records j new → Good n records (store_as j (rebound (record_at records j) new))
rebind_good n records j new h =
    let r = record_at records j in
    record {
      there = ltb-true j (job_count (length records)) h.job;
      storable = rebound_storable r new (record_storable records j);
      is_formed_lem = rebound_formed n r new (record_nodes n (length records) h.tables_ok) (formed n r h.formed) (ltb-true new (2 ^ n) h.in_range)
          (some_pos new h.some_node);
    }

-- whatever an accepted call stores is good
stores_good : (m : Machine) (t : Tables) (c : Call) {x : Change} → decision m t c ≡ accept x
    → Each (Good (node_count m) t.records) x.stores
unfolding decision Each
stores_good m t (request j k) e =
    let a = accepted m t j k e in
    rw a.4 (request_good m t j k a.1 a.0 a.2, tt)
stores_good m t (release j p) e = rw (releases m.page_counts t j p e).1 tt
stores_good m t (install j p) e =
    let a = installs (node_count m) t j p e in
    rw a.1 (install_good (node_count m) t j p a.0, tt)
stores_good m t (rebind j allowed) e =
    let a = rebinds (node_count m) t.records j allowed e in
    rw a.1 (rebind_good (node_count m) t.records j allowed a.0, tt)
stores_good m t (clear j) e =
    let a = clears (node_count m) t.records j e in
    rw a.1 (record { there = ltb-true j (job_count (length t.records)) a.0; storable = fresh_storable; is_formed_lem = fresh_formed (node_count m) }, tt)
stores_good m t fresh_table e = rw (freshens m.page_counts t e).1 tt
stores_good m t (keep_nodes j kept) e = rw (keepings (node_count m) t j kept e).1 tt
stores_good m t (set_map j nodes) e = rw (set_maps (node_count m) t j nodes e).1 tt
stores_good m t (drain y room) e = rw (drains_so m.page_counts m.distances y t room e).2 tt

-- ---- every call

-- a good record in the table leaves every job's record well formed
put_kept : (n : ℕ) (records : List ℕ) (s : Store) (i : ℕ) → Good n records s → well_formed n (record_at records i) ≡ true
    → well_formed n (record_at (put_record records s.job s.stored) i) ≡ true
put_kept n records s i g h = go (ℕ_discrete s.job i)
  where
    after : List ℕ
    after = put_record records s.job s.stored

    go : Dec (s.job ≡ i) → well_formed n (record_at after i) ≡ true
    go (yes e) =
        ap (well_formed n) (ap (record_at after) (sym e) ∙ record_same records s.job s.stored g.there g.storable)
        ∙ well_formed_lem n s.stored g.is_formed_lem
    go (no ne) = ap (well_formed n) (record_other records s.job i s.stored ne) ∙ h

good_after : (n : ℕ) (records : List ℕ) (v : Store) (ss : List Store) → Each (Good n records) ss
    → Each (Good n (put_record records v.job v.stored)) ss
unfolding Each
good_after n records v [] g = tt
good_after n records v (s ∷ ss) g = (
  record { there = rw (length_put records v.job v.stored) g.0.there; storable = g.0.storable; is_formed_lem = g.0.is_formed_lem },
  good_after n records v ss g.1,
)

all_put_kept : (n : ℕ) (records : List ℕ) (ss : List Store) (i : ℕ) → Each (Good n records) ss → well_formed n (record_at records i) ≡ true
    → well_formed n (record_at (after_stores records ss) i) ≡ true
unfolding after_stores Each
all_put_kept n records [] i g h = h
all_put_kept n records (s ∷ ss) i g h =
    all_put_kept n (put_record records s.job s.stored) ss i (good_after n records s ss g.1) (put_kept n records s i g.0 h)

-- every call leaves a well-formed record well formed
pub kept : (m : Machine) (t : Tables) (c : Call) (i : ℕ)
    → well_formed (node_count m) (record_at t.records i) ≡ true → well_formed (node_count m) (record_at (step m t c).tables.records i) ≡ true
unfolding step applied
kept m t c i h = go (decision m t c) refl
  where
    go : (d : Decision Change) → decision m t c ≡ d → well_formed (node_count m) (record_at (applied t d).tables.records i) ≡ true
    go (refuse r) e = h
    go (accept x) e = all_put_kept (node_count m) t.records x.stores i (stores_good m t c e) h

-- every list of calls does
pub all_kept : (m : Machine) (t : Tables) (cs : List Call) (i : ℕ)
    → well_formed (node_count m) (record_at t.records i) ≡ true → well_formed (node_count m) (record_at (final m t cs).records i) ≡ true
unfolding final
all_kept m t [] i h = h
all_kept m t (c ∷ cs) i h = all_kept m (step m t c).tables cs i (kept m t c i h)
