-- Demand 3: fair turns, over every list of calls of every job.
-- Assumes nothing.
use Rattle.std.specs.Prelude.{ℕ, ◌*◌, ◌≤◌, ◌<◌, ◌≡◌, Bool, true, false, ◌&&◌, cond, List, [], ◌∷◌, ◌++◌, length, take, drop, eqb, ltb}
use Rattle.std.proofs.Math.Option.{Option, none, some}
use Rattle.rules.specs.Basics.{keep, first, count, Each}
use Rattle.rules.specs.Machine.{Machine, node_count, node_of_page}
use Rattle.rules.specs.Masks.{most_nodes, has, size}
use Rattle.rules.specs.Records.{Record, record_at}
use Rattle.rules.specs.SearchOrder.{node_at, ring_places, has_room}
use Rattle.rules.specs.Calls.{Answer, granted, released, done, drained, refused, Tables, limit_of}
use Rattle.rules.specs.Book.{Call, request, release, install, rebind, clear, fresh_table, keep_nodes, set_map, drain, step}
use Rattle.rules.specs.FreeCounts.{Matches}

-- the record of job j in some tables
abbrev pub record_in : Tables → ℕ → Record
record_in t j = record_at t.records j

-- A granted request: the tables before it, and the page that it got.
pub record Grant : Type 0 where
  pub before : Tables
  pub page : ℕ

unfoldable pub grant_by : Tables → Answer → List Grant
grant_by t (granted n p) = record { before = t; page = p } ∷ []
grant_by t (released n p) = []
grant_by t done = []
grant_by t (drained moves) = []
grant_by t (refused r) = []

-- "granted requests of that job": the one in a call, if it is one; M-107: a move "isn't a granted request"
unfoldable pub grant_in : Machine → ℕ → Tables → Call → List Grant
grant_in m j t (request i k) = cond (eqb i j) (grant_by t (step m t (request i k)).answer) []
grant_in m j t (release i p) = []
grant_in m j t (install i p) = []
grant_in m j t (rebind i allowed) = []
grant_in m j t (clear i) = []
grant_in m j t fresh_table = []
grant_in m j t (keep_nodes i kept) = []
grant_in m j t (set_map i nodes) = []
grant_in m j t (drain x room) = []

-- "whatever other jobs do between them": those in a list of calls, in their order
unfoldable pub grants : Machine → ℕ → Tables → List Call → List Grant
grants m j t [] = []
grants m j t (c ∷ cs) = grant_in m j t c ++ grants m j (step m t c).tables cs

-- "A call to set its policy or limits, even to what they were, is in the list only if refused". Clear need not be barred: it makes
-- the record fresh, and a fresh job is allowed no node until a rebind is granted, which is barred; so all its grants came before. M-103's
-- two calls set limits; M-107's drain sets neither.
unfoldable pub sets_policy : ℕ → Call → Bool
sets_policy j (request i k) = false
sets_policy j (release i p) = false
sets_policy j (install i p) = eqb i j
sets_policy j (rebind i allowed) = eqb i j
sets_policy j (clear i) = false
sets_policy j fresh_table = false
sets_policy j (keep_nodes i kept) = eqb i j
sets_policy j (set_map i nodes) = eqb i j
sets_policy j (drain x room) = false

unfoldable pub is_refused : Answer → Bool
is_refused (granted n p) = false
is_refused (released n p) = false
is_refused done = false
is_refused (drained moves) = false
is_refused (refused r) = true

unfoldable pub PolicyKept : Machine → ℕ → Tables → List Call → Type 0
PolicyKept m j t [] = Unit {0}
PolicyKept m j t (c ∷ cs) = (sets_policy j c ≡ true → is_refused (step m t c).answer ≡ true) × PolicyKept m j (step m t c).tables cs

-- "allowed and has a free page": node n, for job j; "a byte of N or more is not allowed"; M-103: "In demand 3 "allowed" then means in both", the
-- allowed set and the map, "for places and effective nodes alike"
unfoldable pub is_open : Machine → Tables → ℕ → ℕ → Bool
is_open m t j n = ltb n (node_count m) && has (limit_of t j) n && has_room m.page_counts t.ledger n

-- "A place goes by the node it names"
unfoldable pub place_open : Machine → Tables → ℕ → ℕ → Bool
place_open m t j p = is_open m t j (node_at (record_in t j) p)

-- "Ring: the place granted is the first that is allowed and has a free page", from one past the last, once round
unfoldable pub place_granted : Machine → ℕ → Grant → Option ℕ
place_granted m j g = first (keep (place_open m g.before j) (ring_places (record_in g.before j)))

-- "Interleave: the node granted is the page's"
unfoldable pub node_granted : Machine → Grant → ℕ
node_granted m g = node_of_page m.page_counts g.page

abbrev pub is_place : ℕ → Option ℕ → Bool
is_place p none = false
is_place p (some q) = eqb q p

-- how often some grants were at place p, and at node n
abbrev pub times_place : Machine → ℕ → ℕ → List Grant → ℕ
times_place m j p gs = count (λ g. is_place p (place_granted m j g)) gs

abbrev pub times_node : Machine → ℕ → List Grant → ℕ
times_node m n gs = count (λ g. eqb (node_granted m g) n) gs

-- "any k times L granted requests of that job in a row": n of them, after the first s
abbrev pub row : Machine → ℕ → Tables → List Call → ℕ → ℕ → List Grant
row m j t cs s n = take n (drop s (grants m j t cs))

-- For k times L granted requests gs in a row, of a job j that starts "in ring mode with L list places": "Any of those places .. that is
-- allowed and has a free page before each of these requests is granted at least k times in them. If every one is allowed and has a free
-- page before each, each is granted exactly k times."
pub record FairPlaces (m : Machine) (j L k : ℕ) (gs : List Grant) : Type 0 where
  pub at_least : (p : ℕ) → p < L → Each (λ g. place_open m g.before j p ≡ true) gs → k ≤ times_place m j p gs
  pub exactly : Each (λ g. (q : ℕ) → q < L → place_open m g.before j q ≡ true) gs → (p : ℕ) → p < L → times_place m j p gs ≡ k

-- and of one that starts "in interleave mode over L effective nodes", the nodes of the mask e
pub record FairNodes (m : Machine) (j e k : ℕ) (gs : List Grant) : Type 0 where
  pub at_least : (n : ℕ) → n < most_nodes → has e n ≡ true → Each (λ g. is_open m g.before j n ≡ true) gs → k ≤ times_node m n gs
  pub exactly : Each (λ g. (q : ℕ) → q < most_nodes → has e q ≡ true → is_open m g.before j q ≡ true) gs
      → (n : ℕ) → n < most_nodes → has e n ≡ true → times_node m n gs ≡ k

-- "Take every list of these calls .. It starts from any page table and job table": the one claim, for every job
pub record Fair (m : Machine) (t : Tables) (cs : List Call) (j : ℕ) : Type 0 where
  pub ring : (record_in t j).mode ≡ 5 → (k s : ℕ) → let L : ℕ = (record_in t j).len in
      length (row m j t cs s (k * L)) ≡ k * L → FairPlaces m j L k (row m j t cs s (k * L))
  pub interleave : (record_in t j).mode ≡ 3 → (k s : ℕ) → let L : ℕ = size most_nodes (record_in t j).effective in
      length (row m j t cs s (k * L)) ≡ k * L → FairNodes m j (record_in t j).effective k (row m j t cs s (k * L))
  -- "The page answered in ring mode lies in the node of the place granted"
  pub ring_page : (record_in t j).mode ≡ 5
      → Each (λ g. (p : ℕ) × (place_granted m j g ≡ some p) × (node_granted m g ≡ node_at (record_in g.before j) p)) (grants m j t cs)

-- M-100: "Demands 2 and 3 then read for matching counts": they match at the start
abbrev pub Demand3 : Machine → Tables → List Call → Type 0
Demand3 m t cs = Matches m.page_counts t → (j : ℕ) → PolicyKept m j t cs → Fair m t cs j
