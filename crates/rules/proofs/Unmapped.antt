-- M-103: with map 0 to N-1 the calls do what they did before, except that a place at N or above, but for M-104's closing 255, is now 6 at
-- install.
-- Assumes nothing.
use Prim.Native.Nat.{ℕ, zero, suc, ◌+◌, ◌-◌, ◌*◌, ◌^◌, ◌≤◌, ◌<◌}
use mathlib.Core.Path.{◌≡◌, refl, sym, ap, ap₂, subst, ◌∙◌}
use mathlib.Core.Logic.{⊎_elim}
use mathlib.Core.Bool.{Bool, true, false, not, ◌&&◌, ◌||◌, cond, false≢true, and-true, and-false}
use mathlib.Core.Option.{Option, none, some}
use mathlib.Core.List.{List, [], ◌∷◌, ◌++◌, map}
use native.Mathlib.Decide.{ℕ_discrete}
use native.Mathlib.Omega.{arith}
use borrow.Author.Tests.{eqb-true, eq-eqb, ne_eqb, leb-true, leb-false, ltb-true, ltb-false, lt-ltb, le-ltb}
use lib.Arith.{lt_of_le-ne}
use lib.Pow.{pow_pos}
use lib.ListN.{length, take, drop, get_or-eq_default}
use lib.Seq.{take_at, drop_at}
use lib.Dec.{leb, ltb, eqb}
use Rattle.rules.specs.Basics.{all, any, last_or, but_last, each, from}
use Rattle.rules.specs.Machine.{Machine, node_count, nodes_ok, pages_ok, cpus_ok, page_table_ok, machine_ok, node_of_page, node_of_cpu}
use Rattle.rules.specs.Masks.{most_nodes, bit, both, is_empty, below, image}
use Rattle.rules.specs.Records.{Carries, nothing, aMask, aList, unknown, carries, mode_of, Policy, policy, Record, job_count, job_table_ok}
use Rattle.rules.specs.Records.{closing_place, closes, record_at, well_formed, installed}
use Rattle.rules.specs.Maps.{map_size, no_node, map_table_ok, map_bytes, nodes_in, bytes_for, is_in, different, good_map, set_of, system_node, entry_from}
use Rattle.rules.specs.Maps.{application_node, system_mask, turned, named_places, within_map, identity_maps}
use Rattle.rules.specs.SearchOrder.{Try, plan, order, has_room, pick_page, counted, chosen}
use Rattle.rules.specs.Decisions.{Decision, refuse, accept, unless, then}
use Rattle.rules.specs.Calls.{granted, released, Tables, Change, storing, map_of, freeing, is_job, is_cpu, free_ok, jobs_ok, request_tables_ok}
use Rattle.rules.specs.Calls.{fresh_tables_ok, release_tables_ok, record_tables_ok, mapped_tables_ok, is_mapped, policy_known, mask_fits, policy_fits}
use Rattle.rules.specs.Calls.{holds, count_fits, admitted, limit_of, order_of, granting, serve, request_decision, release_decision}
use Rattle.rules.specs.Calls.{install_fits, install_decision, applied, after_remaps}
use Rattle.rules.specs.Book.{Call, request, release, install, rebind, clear, fresh_table, keep_nodes, set_map, drain, decision, step, final}
use Rattle.rules.specs.Unmapped.{Identity, sets_map, Past, answering, order_unmapped, serve_unmapped, request_unmapped, release_unmapped, install_unmapped}
use Rattle.rules.proofs.AsBefore.{in_chain}
use Rattle.rules.proofs.Admission.{accepted}
use Rattle.rules.proofs.Calls.{installs, rebinds, clears, releases, freshens, drains_so, lengths_kept, order_allowed, held_page}
use Rattle.rules.proofs.Lists.{both_true, both_hold, either_true, either_false, between_true, true_any, true_all, fails, any_true}
use Rattle.rules.proofs.Lists.{length_from, entry_from_lem, first_keep, first_member, from_member, member_from, each_from_add}
use Rattle.rules.proofs.Maps.{in_set, GoodNodes, bytes_long, length_each, bytes_nodes, bytes_good}
use Rattle.rules.proofs.Masks.{below_width, bits_within, same_nodes, image_lt, image_has, image_only}
use Rattle.rules.proofs.Pages.{node_page, page_node_lt}
use Rattle.rules.proofs.WellFormed.{formed}

-- ---- the nodes 0 to n - 1

-- application node k is node k
node_same : (n k : ℕ) → k < n → system_node (from 0 n) k ≡ k
node_same n k l = omega (arith, entry_from_lem 0 n k no_node l)

-- each number from a on stands in the entry of that number
number_from : (a n k : ℕ) → a ≤ k → k < a + n → entry_from a (from a n) k ≡ k
unfolding from entry_from
number_from a zero k l h = absurd (omega arith)
number_from a (suc n) k l h = go (ℕ_discrete a k) (number_from (suc a) n k)
  where
    go : Dec (a ≡ k) → (suc a ≤ k → k < suc a + n → entry_from (suc a) (from (suc a) n) k ≡ k)
        → cond (eqb a k) a (entry_from (suc a) (from (suc a) n) k) ≡ k
    go (yes e) ih = rw (eq-eqb a k e) e
    go (no ne) ih = rw (ne_eqb a k ne) (ih (lt_of_le-ne l ne) (omega arith))

-- node k is application node k
number_same : (n k : ℕ) → k < n → application_node (from 0 n) k ≡ k
number_same n k l = number_from 0 n k (omega arith) (omega arith)

-- they are the nodes below n
in_from : (n k : ℕ) → k < n → is_in (from 0 n) k ≡ true
in_from n k l = true_any (eqb k) (member_from 0 n k (omega arith) (omega arith)) (eq-eqb k k refl)

-- no number comes twice
different_from : (a n : ℕ) → different (from a n) ≡ true
unfolding different from
different_from a zero = refl
different_from a (suc n) = rw (earlier, different_from (suc a) n) refl
  where
    earlier : is_in (from (suc a) n) a ≡ false
    earlier =
        fails (λ h. let r = any_true (eqb a) (from (suc a) n) h in
        let e = eqb-true a r.0 r.2 in
        let l = (from_member (suc a) n r.1).0 in
        omega arith)

-- and so a good list
good_from : (n : ℕ) → 1 ≤ n → n ≤ most_nodes → GoodNodes n (from 0 n)
good_from n least few = record {
  some = rw (length_from 0 n) least;
  few = rw (length_from 0 n) few;
  known = true_all (λ k. ltb k n) (from 0 n) (λ k h. lt-ltb k n (omega (arith, (from_member 0 n h).1)));
  distinct = different_from 0 n;
}

-- ---- the map table of map 0 to n - 1

module _ (bytes : List ℕ) (long : length bytes ≡ map_size) where
  -- the same bytes for k jobs from job a on
  same_each : ℕ → ℕ → List ℕ
  same_each a k = each (λ j. bytes) (from a k)

  -- the bytes of each job are these
  job_bytes : (jobs j : ℕ) → j < jobs → map_bytes (same_each 0 jobs) j ≡ bytes
  unfolding same_each map_bytes each from
  job_bytes jobs j l =
      let rest = same_each (suc j) (jobs - suc j) in
      let count : jobs ≡ j + suc (jobs - suc j) = omega arith in
      let start : 0 + j ≡ j = omega arith in
      let parts : same_each 0 jobs ≡ same_each 0 j ++ (bytes ++ rest) =
      ap (same_each 0) count ∙ each_from_add (λ i. bytes) 0 j (suc (jobs - suc j))
      ∙ ap (λ (i : ℕ). same_each 0 j ++ same_each i (suc (jobs - suc j))) start in
      ap (λ (l : List ℕ). take map_size (drop (map_size * j) l)) parts
      ∙ ap (take map_size) (drop_at (same_each 0 j) (bytes ++ rest) (map_size * j) (length_each bytes long 0 j))
      ∙ take_at bytes rest map_size long

-- ---- what the map makes of a policy

-- a limit of nodes below n is as it was
limit_same : (n a : ℕ) → n ≤ most_nodes → a < 2 ^ n → both a (set_of (from 0 n)) ≡ a
limit_same n a few l =
    bits_within n a (set_of (from 0 n)) l
    (λ k one. let small = below_width n a k l one in eqb-true _ 1 (in_set (from 0 n) k (omega arith) (in_from n k small)))

-- a mask of nodes below n is turned into itself
mask_same : (n user : ℕ) → user < 2 ^ n → system_mask (from 0 n) user ≡ user
unfolding system_mask
mask_same n user l =
    ap (image user (system_node (from 0 n))) (length_from 0 n)
    ∙ same_nodes n (image user (system_node (from 0 n)) n) user (image_lt n user (system_node (from 0 n)) n (λ b h one. rw (node_same n b h) h)) l
    (λ k h one. let r = image_only user (system_node (from 0 n)) n k one in
    let same : r.0 ≡ k = sym (node_same n r.0 r.1) ∙ r.3 in
    subst (λ (b : ℕ). bit user b ≡ 1) same r.2)
    (λ k h one. subst (λ (b : ℕ). bit (image user (system_node (from 0 n)) n) b ≡ 1) (node_same n k h) (image_has user (system_node (from 0 n)) n k h one))

-- and so are places below n
places_same : (n : ℕ) (places : List ℕ) → all (λ a. ltb a n) places ≡ true → map (system_node (from 0 n)) places ≡ places
unfolding all
places_same n [] h = refl
places_same n (a ∷ rest) h =
    let b = both_true {a = ltb a n} h in
    ap₂ (λ (x : ℕ) (xs : List ℕ). x ∷ xs) (node_same n a (ltb-true a n b.0)) (places_same n rest b.1)

-- and a closing 255 after such places stays
closing_same : (n : ℕ) (places : List ℕ) → n ≤ most_nodes → last_or places 0 ≡ closing_place → all (λ a. ltb a n) (but_last places) ≡ true
    → map (system_node (from 0 n)) places ≡ places
unfolding last_or but_last all
closing_same n [] few e h = refl
closing_same n (a ∷ []) few e h =
    let past = get_or-eq_default (from 0 n) no_node {n = a} (rw (length_from 0 n) (omega arith)) in
    ap (λ (x : ℕ). x ∷ []) (past ∙ sym e)
closing_same n (a ∷ b ∷ rest) few e h =
    let t = both_true {a = ltb a n} h in
    ap₂ (λ (x : ℕ) (xs : List ℕ). x ∷ xs) (node_same n a (ltb-true a n t.0)) (closing_same n (b ∷ rest) few e t.1)

-- so the places of a policy stay, where those that name a node are below n
named_same : (n : ℕ) (p : Policy) → n ≤ most_nodes → all (λ a. ltb a n) (named_places p) ≡ true → map (system_node (from 0 n)) p.places ≡ p.places
unfolding named_places closes
named_same n p few h = go (eqb p.mode 4 && closes p.places) refl h
  where
    go : (b : Bool) → (eqb p.mode 4 && closes p.places) ≡ b → all (λ a. ltb a n) (cond b (but_last p.places) p.places) ≡ true
        → map (system_node (from 0 n)) p.places ≡ p.places
    go true e t = closing_same n p.places few (eqb-true _ closing_place (both_true {a = eqb p.mode 4} e).1) t
    go false e t = places_same n p.places t

-- where no place is at n or above, all are below
none_past : (n : ℕ) (places : List ℕ) → any (λ a. leb n a) places ≡ false → all (λ a. ltb a n) places ≡ true
unfolding all any
none_past n [] h = refl
none_past n (a ∷ rest) h =
    let b = either_false {a = leb n a} h in
    both_hold (lt-ltb a n (leb-false n a b.0)) (none_past n rest b.1)

-- where one is, not all are
some_past : (n : ℕ) (places : List ℕ) → any (λ a. leb n a) places ≡ true → all (λ a. ltb a n) places ≡ false
unfolding all any
some_past n [] h = absurd (false≢true h)
some_past n (a ∷ rest) h =
    ⊎_elim (λ e. rw (le-ltb a n (leb-true n a e)) refl) (λ e. rw (some_past n rest e) (and-false (ltb a n))) (either_true {a = leb n a} h)

-- what names no node at n or above is turned into itself
turned_same : (n : ℕ) (p : Policy) → n ≤ most_nodes → within_map (from 0 n) p ≡ true → turned (from 0 n) p ≡ p
unfolding within_map turned
turned_same n p few h =
    let within : ((eqb p.flag 2 || below n p.user) && all (λ a. ltb a n) (named_places p)) ≡ true = rw (length_from 0 n) at h in
    let b = both_true {a = eqb p.flag 2 || below n p.user} within in
    ap₂ (λ (user : ℕ) (places : List ℕ). policy p.mode p.flag user places) (same_user (eqb p.flag 2) b.0) (named_same n p few b.1)
  where
    same_user : (relative : Bool) → (relative || below n p.user) ≡ true → cond relative p.user (system_mask (from 0 n) p.user) ≡ p.user
    same_user true h = refl
    same_user false h = mask_same n p.user (ltb-true _ _ h)

-- a mask with a node at n or above, flag not relative, did not fit before
wide_misfits : (k : Carries) (n allowed : ℕ) (p : Policy) → eqb p.flag 2 ≡ false → below n p.user ≡ false → policy_fits k n allowed p ≡ false
unfolding policy_fits mask_fits
wide_misfits k n allowed p flag wide = go k
  where
    not_empty : is_empty p.user ≡ false
    not_empty = ne_eqb p.user 0 (λ e. let l = ltb-false p.user (2 ^ n) wide in let o = pow_pos n in omega arith)

    go : (k : Carries) → policy_fits k n allowed p ≡ false
    go nothing = rw not_empty refl
    go aMask = rw (flag, wide, and-false (eqb p.mode 1 || not (is_empty p.user))) refl
    go aList = rw not_empty refl
    go unknown = refl

-- with no place at n or above an install fits as before
fits_same : (n allowed : ℕ) (p : Policy) → n ≤ most_nodes → Past n p ≡ false
    → install_fits n (from 0 n) allowed p ≡ policy_fits (carries (mode_of p.mode)) n allowed p
unfolding install_fits Past within_map
fits_same n allowed p few none_there = go (within_map (from 0 n) p) refl
  where
    kind : Carries
    kind = carries (mode_of p.mode)

    go : (b : Bool) → within_map (from 0 n) p ≡ b → (b && policy_fits kind n allowed (turned (from 0 n) p)) ≡ policy_fits kind n allowed p
    go true e = ap (policy_fits kind n allowed) (turned_same n p few e)
    go false e =
        let places = none_past n (named_places p) none_there in
        let user : (eqb p.flag 2 || below n p.user) ≡ false = sym (and-true _) ∙ rw (length_from 0 n, places) at e in
        let b = either_false {a = eqb p.flag 2} user in
        sym (wide_misfits kind n allowed p b.0 b.1)

-- with one it does not fit
past_misfits : (n allowed : ℕ) (p : Policy) → Past n p ≡ true → install_fits n (from 0 n) allowed p ≡ false
unfolding install_fits Past within_map
past_misfits n allowed p there = rw (length_from 0 n, some_past n (named_places p) there, and-false (eqb p.flag 2 || below n p.user)) refl

-- ---- tests in order

-- the same test, and then the same
unless_same : {A : Type 0} (b : Bool) (r : ℕ) (d e : Decision A) → (b ≡ true → d ≡ e) → unless b r d ≡ unless b r e
unless_same true r d e h = h refl
unless_same false r d e h = refl

-- likewise, the test in another form
unless_both : {A : Type 0} {b c : Bool} (r : ℕ) (d e : Decision A) → b ≡ c → (b ≡ true → d ≡ e) → unless b r d ≡ unless c r e
unless_both {b} r d e same h = unless_same b r d e h ∙ ap (λ (x : Bool). unless x r e) same

-- a test that holds is passed
unless_passed : {A : Type 0} {b : Bool} (r : ℕ) (d : Decision A) → b ≡ true → unless b r d ≡ d
unless_passed r d h = rw h refl

-- "install 1, 2, 4, 5, 7, 6", with 6 in place of an acceptance
six_instead : {A : Type 0} (a b c d f g : Bool) (x : A)
    → then (unless a 1 (unless b 2 (unless c 4 (unless d 5 (unless f 7 (unless g 6 (accept x))))))) (λ (y : A). refuse 6)
    ≡ unless {A = A} a 1 (unless b 2 (unless c 4 (unless d 5 (unless f 7 (refuse 6)))))
six_instead false b c d f g x = refl
six_instead true false c d f g x = refl
six_instead true true false d f g x = refl
six_instead true true true false f g x = refl
six_instead true true true true false g x = refl
six_instead true true true true true false x = refl
six_instead true true true true true true x = refl

-- tests that are the same where those before them hold
and_same : (a b c : Bool) → (a ≡ true → b ≡ c) → (a && b) ≡ (a && c)
and_same true b c h = h refl
and_same false b c h = refl

-- tables in order at a release have N in order
fresh_nodes : (counts : List ℕ) (bytes entries : ℕ) → fresh_tables_ok counts bytes entries ≡ true → nodes_ok (length counts) ≡ true
unfolding fresh_tables_ok
fresh_nodes counts bytes entries h =
    let a = both_true {a = nodes_ok (length counts) && pages_ok counts && page_table_ok counts bytes} h in
    let b = both_true {a = nodes_ok (length counts) && pages_ok counts} a.0 in
    (both_true {a = nodes_ok (length counts)} b.0).0

-- and so has a machine in order
machine_nodes : (m : Machine) → machine_ok m ≡ true → nodes_ok (node_count m) ≡ true
unfolding machine_ok
machine_nodes m h =
    let counts = m.page_counts in
    let a = both_true {a = nodes_ok (node_count m) && pages_ok counts && cpus_ok (node_count m) m.cpu_nodes} h in
    let b = both_true {a = nodes_ok (node_count m) && pages_ok counts} a.0 in
    (both_true {a = nodes_ok (node_count m)} b.0).0

-- ---- tables with map 0 to N-1

module _ (m : Machine) (t : Tables) (identity : Identity m t) (ok : nodes_ok (node_count m) ≡ true) where
  -- N is at least 1 and at most 64
  in_range_lem : (1 ≤ node_count m) × (node_count m ≤ most_nodes)
  unfolding nodes_ok
  in_range_lem = between_true 1 most_nodes (node_count m) ok

  -- 0 to N-1 is a good list
  good_identity : GoodNodes (node_count m) (from 0 (node_count m))
  good_identity = good_from (node_count m) in_range_lem.0 in_range_lem.1

  -- and makes 64 bytes
  identity_long : length (bytes_for (from 0 (node_count m))) ≡ map_size
  identity_long = bytes_long (from 0 (node_count m)) good_identity.few

  -- the map table is in order where the job table is
  jobs_same : jobs_ok (length t.records) (length t.maps) ≡ job_table_ok (length t.records)
  unfolding jobs_ok map_table_ok identity_maps same_each
  jobs_same = rw (eq-eqb (length t.maps) _ long) (and-true (job_table_ok (length t.records)))
    where
      long : length t.maps ≡ map_size * job_count (length t.records)
      long = ap length identity ∙ length_each (bytes_for (from 0 (node_count m))) identity_long 0 (job_count (length t.records))

  module _ (j : ℕ) (job : is_job t.records j ≡ true) where
    -- each job has these bytes
    bytes_same : map_bytes t.maps j ≡ bytes_for (from 0 (node_count m))
    unfolding identity_maps same_each
    bytes_same =
        ap (λ (maps : List ℕ). map_bytes maps j) identity
        ∙ job_bytes (bytes_for (from 0 (node_count m))) identity_long (job_count (length t.records)) j (ltb-true j _ job)

    -- each job's map is good
    is_mapped_lem : is_mapped (node_count m) t j ≡ true
    unfolding is_mapped
    is_mapped_lem = ap (good_map (node_count m)) bytes_same ∙ bytes_good (node_count m) (from 0 (node_count m)) in_range_lem.1 good_identity

    -- and has the nodes 0 to N-1
    map_is : map_of t j ≡ from 0 (node_count m)
    unfolding map_of
    map_is = ap nodes_in bytes_same ∙ bytes_nodes (node_count m) (from 0 (node_count m)) in_range_lem.1 good_identity

    -- each node's number is its own
    number_is : (k : ℕ) → k < node_count m → application_node (map_of t j) k ≡ k
    number_is k l = ap (λ (nodes : List ℕ). application_node nodes k) map_is ∙ number_same (node_count m) k l

    -- ---- the search

    module _ (k : ℕ) (is_formed : well_formed (node_count m) (record_at t.records j) ≡ true) where
      -- the allowed set lies below N
      allowed_below : (record_at t.records j).allowed < 2 ^ node_count m
      allowed_below = (formed (node_count m) (record_at t.records j) is_formed).allowed_below

      -- so the map is no limit, and the order is as before
      order_same : order_of m t j k ≡ order_unmapped m t j k
      unfolding order_of order_unmapped limit_of
      order_same =
          ap (λ (limit : ℕ). order (node_count m) m.distances limit (plan limit (record_at t.records j) (node_of_cpu m.cpu_nodes k)))
          (ap (λ (nodes : List ℕ). both (record_at t.records j).allowed (set_of nodes)) map_is
          ∙ limit_same (node_count m) (record_at t.records j).allowed in_range_lem.1 allowed_below)

      -- the node that serves lies below N, and its number is its own
      served_same : (o : Option Try) → chosen t.free (order_unmapped m t j k) ≡ o → serve m.page_counts t j o ≡ serve_unmapped m.page_counts t j o
      unfolding serve serve_unmapped chosen order_unmapped
      served_same none e = refl
      served_same (some s) e =
          let page = pick_page m.page_counts t.ledger j s.node in
          let r = record_at t.records j in
          let member = first_member (first_keep (λ s. counted t.free s.node) (order_unmapped m t j k) e) in
          let inside = order_allowed (node_count m) m.distances r.allowed r (node_of_cpu m.cpu_nodes k) member in
          let small = below_width (node_count m) r.allowed s.node allowed_below (eqb-true _ 1 inside) in
          ap (λ (a : ℕ). unless (has_room m.page_counts t.ledger s.node) 14 (accept (answering (granted a page) (granting m.page_counts t j s))))
          (number_is s.node small)

-- ---- the calls

module _ (m : Machine) (t : Tables) (j : ℕ) where
  -- a request does what it did before
  pub request_unmapped_lem : (k : ℕ) → Identity m t → request_decision m t j k ≡ request_unmapped m t j k
  unfolding request_decision admitted request_unmapped request_tables_ok
  request_unmapped_lem k identity =
      in_chain (request_tables_ok m t) (is_job t.records j) (is_mapped (node_count m) t j) (is_cpu m.cpu_nodes k) is_formed (record_at t.records j) search
      ∙ unless_both 1 _ _ tables_same
      (λ ok. unless_same (is_job t.records j) 2 _ _
      (λ job. unless_passed 15 _ (is_mapped_lem m t identity (tables_nodes ok) j job)
      ∙ unless_same (is_cpu m.cpu_nodes k) 3 _ _
      (λ cpu. unless_same is_formed 4 _ _
      (λ f. ap (λ (ts : List Try). serve m.page_counts t j (chosen t.free ts)) (order_same m t identity (tables_nodes ok) j job k f)
      ∙ served_same m t identity (tables_nodes ok) j job k f (chosen t.free (order_unmapped m t j k)) refl))))
    where
      is_formed : Bool
      is_formed = well_formed (node_count m) (record_at t.records j)

      search : Record → Decision Change
      search r = serve m.page_counts t j (chosen t.free (order_of m t j k))

      machine : Bool
      machine = machine_ok m && page_table_ok m.page_counts (length t.ledger)

      one_each : Bool
      one_each = free_ok (node_count m) (length t.free)

      tables_nodes : request_tables_ok m t ≡ true → nodes_ok (node_count m) ≡ true
      tables_nodes ok =
          let a = both_true {a = machine && jobs_ok (length t.records) (length t.maps)} ok in
          machine_nodes m (both_true {a = machine_ok m} (both_true {a = machine} a.0).0).0

      tables_same : request_tables_ok m t ≡ (machine && job_table_ok (length t.records) && one_each)
      tables_same =
          ap (λ (b : Bool). b && one_each)
          (and_same machine (jobs_ok (length t.records) (length t.maps)) (job_table_ok (length t.records))
          (λ h. jobs_same m t identity (machine_nodes m (both_true {a = machine_ok m} h).0)))

  -- a release does what it did before
  pub release_unmapped_lem : (p : ℕ) → Identity m t → release_decision m.page_counts t j p ≡ release_unmapped m.page_counts t j p
  unfolding release_decision release_unmapped release_tables_ok
  release_unmapped_lem p identity =
      unless_both 1 _ _ tables_same
      (λ ok. unless_same (is_job t.records j) 2 _ _
      (λ job. unless_passed 15 _ (is_mapped_lem m t identity (tables_nodes ok) j job)
      ∙ unless_same (holds counts t.ledger j p) 10 _ _
      (λ held. unless_same (count_fits counts t.free (node_of_page counts p)) 14 _ _
      (λ fits. ap (λ (a : ℕ). accept (answering (released a p) (freeing counts t j p)))
      (number_is m t identity (tables_nodes ok) j job (node_of_page counts p) (held_node held))))))
    where
      counts : List ℕ
      counts = m.page_counts

      pages : Bool
      pages = fresh_tables_ok counts (length t.ledger) (length t.free)

      tables_nodes : release_tables_ok counts t ≡ true → nodes_ok (node_count m) ≡ true
      tables_nodes ok = fresh_nodes counts _ _ (both_true {a = pages} ok).0

      tables_same : release_tables_ok counts t ≡ (pages && job_table_ok (length t.records))
      tables_same =
          and_same pages (jobs_ok (length t.records) (length t.maps)) (job_table_ok (length t.records))
          (λ h. jobs_same m t identity (fresh_nodes counts _ _ h))

      held_node : holds counts t.ledger j p ≡ true → node_of_page counts p < node_count m
      held_node held = page_node_lt (node_page counts p (held_page counts t.ledger j p held).0)

  -- the last test of an install, by the nodes of its job's map
  last_test : Policy → List ℕ → Decision Change
  last_test p nodes =
      unless (install_fits (node_count m) nodes (record_at t.records j).allowed p) 6
      (accept (storing j (installed (record_at t.records j) (turned nodes p))))

  -- an install's tests are those before, but for the last
  install_tests_lem : (p : Policy) (last : Decision Change) → Identity m t → (node_count m ≤ most_nodes → last_test p (from 0 (node_count m)) ≡ last)
      → install_decision (node_count m) t j p
      ≡ unless (record_tables_ok (node_count m) (length t.records)) 1
      (unless (is_job t.records j) 2
      (unless (well_formed (node_count m) (record_at t.records j)) 4
      (unless (policy_known p) 5
      (unless (not (is_empty (record_at t.records j).allowed)) 7 last))))
  unfolding install_decision mapped_tables_ok record_tables_ok last_test
  install_tests_lem p last identity same =
      unless_both 1 _ _ tables_same
      (λ ok. unless_same (is_job t.records j) 2 _ _
      (λ job. unless_passed 15 _ (is_mapped_lem m t identity (tables_nodes ok) j job)
      ∙ unless_same (well_formed (node_count m) (record_at t.records j)) 4 _ _
      (λ f. unless_same (policy_known p) 5 _ _
      (λ known. unless_same (not (is_empty (record_at t.records j).allowed)) 7 _ _
      (λ some_node. ap (last_test p) (map_is m t identity (tables_nodes ok) j job) ∙ same (in_range_lem m t identity (tables_nodes ok)).1)))))
    where
      tables_nodes : mapped_tables_ok (node_count m) (length t.records) (length t.maps) ≡ true → nodes_ok (node_count m) ≡ true
      tables_nodes ok = (both_true {a = nodes_ok (node_count m)} ok).0

      tables_same : mapped_tables_ok (node_count m) (length t.records) (length t.maps) ≡ record_tables_ok (node_count m) (length t.records)
      tables_same =
          and_same (nodes_ok (node_count m)) (jobs_ok (length t.records) (length t.maps)) (job_table_ok (length t.records))
          (λ h. jobs_same m t identity h)

  -- an install that names no place at N or above does what it did before
  pub install_unmapped_lem : (p : Policy) → Identity m t → Past (node_count m) p ≡ false
      → install_decision (node_count m) t j p ≡ install_unmapped (node_count m) t.records j p
  unfolding install_unmapped install_fits last_test
  install_unmapped_lem p identity none_there =
      let n = node_count m in
      let r = record_at t.records j in
      install_tests_lem p _ identity
      (λ few. unless_both 6 _ _ (fits_same n r.allowed p few none_there)
      (λ fits. ap (λ (q : Policy). accept (storing j (installed r q))) (turned_same n p few (both_true {a = within_map (from 0 n) p} fits).0)))

  -- and one that names one does too, with 6 in place of an acceptance
  pub install_past : (p : Policy) → Identity m t → Past (node_count m) p ≡ true
      → install_decision (node_count m) t j p ≡ then (install_unmapped (node_count m) t.records j p) (λ x. refuse 6)
  unfolding install_unmapped last_test
  install_past p identity there =
      let n = node_count m in
      let r = record_at t.records j in
      install_tests_lem p (refuse 6) identity (λ few. rw (past_misfits n r.allowed p there) refl)
      ∙ sym (six_instead (record_tables_ok n (length t.records)) (is_job t.records j) (well_formed n r) (policy_known p) (not (is_empty r.allowed))
      (policy_fits (carries (mode_of p.mode)) n r.allowed p) (storing j (installed r p)))

-- ---- call after call

-- an accepted call that sets no map changes no map
no_remaps : (m : Machine) (t : Tables) (c : Call) {x : Change} → sets_map c ≡ false → decision m t c ≡ accept x → x.remaps ≡ []
unfolding decision
no_remaps m t (request j k) h e = ap (λ (x : Change). x.remaps) (accepted m t j k e).4
no_remaps m t (release j p) h e = ap (λ (x : Change). x.remaps) (releases m.page_counts t j p e).1
no_remaps m t (install j p) h e = ap (λ (x : Change). x.remaps) (installs (node_count m) t j p e).1
no_remaps m t (rebind j allowed) h e = ap (λ (x : Change). x.remaps) (rebinds (node_count m) t.records j allowed e).1
no_remaps m t (clear j) h e = ap (λ (x : Change). x.remaps) (clears (node_count m) t.records j e).1
no_remaps m t fresh_table h e = ap (λ (x : Change). x.remaps) (freshens m.page_counts t e).1
no_remaps m t (keep_nodes j kept) h e = absurd (false≢true (sym h))
no_remaps m t (set_map j nodes) h e = absurd (false≢true (sym h))
no_remaps m t (drain x room) h e = ap (λ (x : Change). x.remaps) (drains_so m.page_counts m.distances x t room e).2

-- so such a call leaves the maps as they are
maps_stay : (m : Machine) (t : Tables) (c : Call) → sets_map c ≡ false → (step m t c).tables.maps ≡ t.maps
unfolding step applied after_remaps
maps_stay m t c h = go (decision m t c) refl
  where
    go : (d : Decision Change) → decision m t c ≡ d → (applied t d).tables.maps ≡ t.maps
    go (refuse r) e = refl
    go (accept x) e = ap (after_remaps t.maps) (no_remaps m t c h e)

-- every list of the calls that there were before leaves every job the map 0 to N-1: each of them does what it did before
pub identity_stays : (m : Machine) (t : Tables) (cs : List Call) → any sets_map cs ≡ false → Identity m t → Identity m (final m t cs)
unfolding final any
identity_stays m t [] h identity = identity
identity_stays m t (c ∷ cs) h identity =
    let f = either_false {a = sets_map c} h in
    let jobs = (lengths_kept m t c).records in
    identity_stays m (step m t c).tables cs f.1 (maps_stay m t c f.0 ∙ identity ∙ ap (λ (n : ℕ). identity_maps (node_count m) (job_count n)) (sym jobs))
