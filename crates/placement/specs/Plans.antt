-- What the code's plan stands for in the rules (document 01, "Search order").
use Rattle.std.specs.Prelude.{ℕ, ◌^◌, ◌≤◌, ◌<◌, ◌≡◌, Bool, true, cond, List, [], ◌∷◌, ◌++◌, map, get_or}
use Rattle.rules.specs.Basics.{around}
use Rattle.rules.specs.Masks.{most_nodes}
use Rattle.rules.specs.Records.{Record, Turn, last_is, places_per_job, well_formed}
use Rattle.rules.specs.SearchOrder.{Try, try, Plan as LawPlan, nearest, placed, closed}
use Rattle.records.specs.Jobs.{turn_of}
use Rattle.placement.specs.declared.plan.Walk.{Walk}
use Rattle.placement.specs.declared.plan.Plan.{Plan}
use Rattle.placement.specs.declared.plan.Plan.TheVariants.{Near, Places, Closed}

-- a walk of its parts
abbrev pub walk_with : Bool → Bool → ℕ → ℕ → Walk
walk_with early moves len cursor = record { early = early; moves = moves; len = len; cursor = cursor }

-- "Ring sets it to the granted place", and so does early (M-101); in a list the turn stays
unfoldable pub leaves : Bool → Turn → ℕ → Turn
leaves moves turn p = cond moves (last_is p) turn

-- the try of place p
abbrev pub try_place : Bool → List ℕ → Turn → ℕ → Try
try_place moves places turn p = try (leaves moves turn p) (get_or places p 0)

-- "places from one past the cursor, once round": k of len places, from position c on
unfoldable pub round_tries : Bool → List ℕ → Turn → ℕ → ℕ → ℕ → List Try
round_tries moves places turn len c k = map (try_place moves places turn) (around len c k)

-- "Early: place 0, then as ring"
unfoldable pub early_tries : Walk → List ℕ → List Try
early_tries w places = cond w.early (try_place w.moves places (turn_of w.cursor) 0 ∷ []) []

-- the tries of a walk
unfoldable pub walk_tries : Walk → List ℕ → List Try
walk_tries w places = early_tries w places ++ round_tries w.moves places (turn_of w.cursor) w.len w.cursor w.len

-- the plan, over the places of the job
abbrev pub plan_of : List ℕ → Plan → LawPlan
plan_of places (Near set x cursor) = nearest set.0 x.0 (turn_of cursor)
plan_of places (Places w) = placed (walk_tries w places)
plan_of places (Closed w x) = closed (walk_tries w places) x.0 (turn_of w.cursor)

-- What a plan may count on: at most 64 nodes, the limit and x among them, and a record that is well formed on them.
pub record Plannable (n limit : ℕ) (r : Record) (x : ℕ) : Type 0 where
  pub few : n ≤ most_nodes
  pub limit_below : limit < 2 ^ n
  pub from_node : x < n
  pub formed : well_formed n r ≡ true

-- a plan stays within n nodes and sixteen places
abbrev pub Inside : ℕ → Plan → Type 0
Inside n (Near set x cursor) = (set.0 < 2 ^ n) × (x.0 < n)
Inside n (Places w) = (w.len ≤ places_per_job) × (w.cursor ≤ w.len)
Inside n (Closed w x) = (w.len ≤ places_per_job) × (w.cursor ≤ w.len) × (x.0 < n)
