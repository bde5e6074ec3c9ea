-- `explain` meets its contract: the search of the job's order, 14, and the reasons by what its plan comes to.
-- Assumes nothing.
use Prim.Native.Nat.{ℕ, ◌^◌, ◌≤◌, ◌<◌}
use mathlib.Core.Path.{◌≡◌, refl, sym, ap, subst, ◌∙◌}
use mathlib.Core.List.{List, ◌++◌, map}
use mathlib.Core.Option.{Option}
use native.Mathlib.Omega.{arith}
use borrow.Author.Rules.{rules}
use Rattle.std.proofs.lemmas.List.{length-take}
use lib.ListN.{length, take, drop}
use Rattle.rules.specs.Basics.{from}
use Rattle.rules.specs.Masks.{most_nodes}
use Rattle.rules.specs.Maps.{set_of}
use Rattle.rules.specs.Records.{Record, places_per_job, places_of, bytes_of}
use Rattle.rules.specs.SearchOrder.{Try, Plan, plan, order, chosen}
use Rattle.rules.specs.Reasons.{reason_in, meets_room}
use Rattle.rules.proofs.Lists.{map_from_same}
use Rattle.rules.proofs.Machine.{distances_in_order}
use Rattle.rules.proofs.WellFormed.{formed, few_listed}
use Rattle.records.specs.Jobs.{record_with, job_of, record_of}
use Rattle.placement.specs.Plans.{plan_of, Plannable}
use Rattle.placement.specs.Searches.{chosen_by}
use Rattle.reasons.specs.Reasons.{reason_at, Reaches}
use Rattle.reasons.proofs.Reaches.{reason_is}
use Rattle.reasons.proofs.Explains.{is_node_lem, no_room, reasons_put}
use Rattle.reasons.proofs.explain.Goals as goal
use Rattle.reasons.proofs.explain.Goals.{After-search-chosen, After-meets_room, After-reach_of-reach}

-- ---- the search

-- the job's record, and how many nodes there are
abbrev job : (c : After-search-chosen) → Record
job c = record_of c.args.loaded

abbrev nodes : (c : After-search-chosen) → ℕ
nodes c = length c.args.layout.counts.now

-- the job's plan, and the try that its order comes to
abbrev planned : (c : After-search-chosen) → Plan
planned c = plan c.args.limit.0 (job c) c.args.x.0

abbrev choice : (c : After-search-chosen) → Option Try
choice c = chosen c.args.free.now (order (nodes c) c.args.distances.now c.args.limit.0 (planned c))

-- the job is decoded, and has a plan on these nodes
decoded : (c : After-search-chosen) → job_of c.job-decoded.result ≡ job c
decoded c = c.job-decoded.ensures _ c.requires.0.searchable.plannable.formed

plannable : (c : After-search-chosen) → Plannable (nodes c) c.args.limit.0 (job c) c.args.x.0
plannable c = rw (sym c.requires.0.one_each) c.requires.0.searchable.plannable

-- the search finds that try
found : (c : After-search-chosen) → chosen_by c.search-chosen.result ≡ choice c
found c = rw (sym c.requires.0.one_each, ← decoded c) c.search-chosen.ensures

-- 14 is tested of it
met : (c : After-meets_room)
    → c.meets_room.result ≡ meets_room c.args.layout.counts.now c.args.pages.now (choice (goal.at.After-meets_room c).After-search-chosen)
met c =
    c.meets_room.ensures ∙ ap (meets_room c.args.layout.counts.now c.args.pages.now) (found (goal.at.After-meets_room c).After-search-chosen)

pub meets_room-requires : goal.meets_room-requires
meets_room-requires c = (
  c.requires.0.paged,
  is_node_lem c.args.layout.counts.now c.args.free.now _ c.search-chosen.result c.requires.0.one_each
      (found (goal.at.meets_room-requires c).After-search-chosen),
)

pub returns-then-not-meets_room : goal.returns-then-not-meets_room
returns-then-not-meets_room c =
    no_room _ _ _ _ _ _ _ _ (sym (met (goal.at.returns-then-not-meets_room c).After-meets_room) ∙ c.if-not-meets_room.true)

-- ---- the reasons

-- the places of the list are some of the sixteen
few : (c : After-search-chosen) → c.args.loaded.len ≤ places_per_job
unfolding record_of
few c = few_listed (nodes c) (job c) (formed (nodes c) (job c) (plannable c).formed)

pub slice_bounds-places-end : goal.slice_bounds-places-end
slice_bounds-places-end c = omega (arith, few (goal.at.slice_bounds-places-end c).After-search-chosen)

-- and as many as the length says
all_there : (n : ℕ) (places : List ℕ) → length places ≡ 16 → n ≤ 16 → n ≡ length (take n places)
all_there n places e l = omega (arith, length-take n places, e, l)

pub slice_bounds-named-end : goal.slice_bounds-named-end
slice_bounds-named-end c = all_there _ _ (search rules) (omega (arith, few (goal.at.slice_bounds-named-end c).After-search-chosen))

pub reach_of-reach-requires : goal.reach_of-reach-requires
reach_of-reach-requires c = let square = (distances_in_order _ c.args.distances.now c.requires.0.searchable.table).square in
    (c.requires.0.paged.few, rw c.requires.0.one_each at square, c.of-plan.ensures.inside)

-- What the plan comes to, by the places of the job's record: as many as the length says, however that number is written.
reaches : (c : After-reach_of-reach) → let at = (goal.at.After-reach_of-reach c).After-search-chosen in
    Reaches (nodes at) c.args.distances.now c.args.limit.0 (set_of (places_of (job at))) c.of-plan.result c.reach_of-reach.result
unfolding places_of job_of record_with record_of bytes_of
reaches c = let at = (goal.at.After-reach_of-reach c).After-search-chosen in
    let named : c.named-named.result.0 ≡ set_of (places_of (job at)) = c.named-named.ensures
    ∙ ap (λ (k : ℕ). set_of (take k c.job-decoded.result.places)) (omega arith)
    ∙ ap (λ (r : Record). set_of (take c.args.loaded.len r.bytes)) (decoded at) in
    subst (λ (set : ℕ). Reaches (nodes at) c.args.distances.now c.args.limit.0 set c.of-plan.result c.reach_of-reach.result) named
    c.reach_of-reach.ensures

-- the reason of each node is the rules'
reasoned : (c : After-reach_of-reach) → let at = (goal.at.After-reach_of-reach c).After-search-chosen in
    (k : ℕ) → k < nodes at → reason_at c.args.free.now c.args.limit.0 c.reach_of-reach.result (chosen_by c.search-chosen.result) k
    ≡ reason_in (nodes at) c.args.distances.now c.args.free.now c.args.limit.0 (job at) (planned at) k
unfolding places_of job_of record_with record_of bytes_of
reasoned c k l = let at = (goal.at.After-reach_of-reach c).After-search-chosen in
    let as_planned : plan_of c.job-decoded.result.places c.of-plan.result ≡ planned at = rw (decoded at) at c.of-plan.ensures.as_ruled in
    let sixteen : length (job at).bytes ≡ places_per_job = refl in
    let word : (job at).user < 2 ^ most_nodes = omega arith in
    ap (λ (o : Option Try). reason_at c.args.free.now c.args.limit.0 c.reach_of-reach.result o k) (found at)
    ∙ reason_is (nodes at) c.args.distances.now c.args.free.now c.args.limit.0 (job at) c.args.x.0 c.requires.0.paged.few (plannable at).formed sixteen word
    _ _ _ as_planned (reaches c) k l

pub returns : goal.returns
returns c = let at = (goal.at.returns c).After-search-chosen in
    let rule : ℕ → ℕ = λ k. reason_in (nodes at) c.args.distances.now c.args.free.now c.args.limit.0 (job at) (planned at) k in
    let code = reason_at c.args.free.now c.args.limit.0 c.reach_of-reach.result (chosen_by c.search-chosen.result) in
    reasons_put c.args.layout.counts.now c.args.distances.now c.args.pages.now c.args.free.now c.args.limit.0 (job at) c.args.x.0 c.args.out.now
    (sym (met (goal.at.returns c).After-meets_room) ∙ c.if-not-meets_room.false)
    (c.put_reasons.ensures ∙ ap (λ (k : ℕ). map code (from 0 k) ++ drop k c.args.out.now) c.requires.0.one_each
    ∙ ap (λ (bs : List ℕ). bs ++ drop (nodes at) c.args.out.now)
    (map_from_same code rule 0 (nodes at) (λ k l. reasoned (goal.at.returns c).After-reach_of-reach k (omega arith))))
