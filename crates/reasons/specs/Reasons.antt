-- What the code's reasons stand for in the rules (request M-106).
use Rattle.std.specs.Prelude.{ℕ, ◌<◌, ◌≡◌, Bool, not, ◌||◌, cond, List}
use Rattle.std.proofs.Math.Option.{Option}
use Rattle.rules.specs.Masks.{has}
use Rattle.rules.specs.SearchOrder.{Try, counted}
use Rattle.rules.specs.Reasons.{is_far, is_chosen}
use Rattle.placement.specs.declared.plan.Plan.{Plan}
use Rattle.placement.specs.declared.plan.Plan.TheVariants.{Near, Places, Closed}
use Rattle.reasons.specs.declared.reach.Reach.{Reach}
use Rattle.reasons.specs.declared.reason.Reason.{Reason}
use Rattle.reasons.specs.declared.reason.Reason.TheVariants.{NotAllowed, OutsideBind, Unreachable, NotNamed, Full, Chosen, Later}

-- "1 not allowed; 2 outside a bind set in force; 3 unreachable, ..; 4 named by no place, ..; 5 full; 6 chosen; 7 had room but came later"
abbrev pub code_of : Reason → ℕ
code_of NotAllowed = 1
code_of OutsideBind = 2
code_of Unreachable = 3
code_of NotNamed = 4
code_of Full = 5
code_of Chosen = 6
code_of Later = 7

-- "the first that fits", by what a search may come to
unfoldable pub reason_by : ℕ → Reach → Bool → Bool → ℕ → ℕ
reason_by limit reach is_counted chosen n =
    cond (not (has limit n)) 1
    (cond (not (has reach.set.0 n)) 2
    (cond (not (has reach.found.0 n)) (code_of reach.missed)
    (cond (not is_counted) 5
    (cond chosen 6
    7))))

-- the reason of node n, by the free counts and the try that is chosen
abbrev pub reason_at : List ℕ → ℕ → Reach → Option Try → ℕ → ℕ
reason_at free limit reach chosen n = reason_by limit reach (counted free n) (is_chosen chosen n) n

-- the set that a plan goes over: near(x)'s own, else all nodes that the job may get
abbrev pub set_by : ℕ → Plan → ℕ
set_by limit (Near set x cursor) = set.0
set_by limit (Places w) = limit
set_by limit (Closed w x) = limit

-- node k is reached, or in the set of those named
abbrev pub found_by : ℕ → List ℕ → ℕ → Plan → ℕ → Bool
found_by n distances named (Near set x cursor) k = not (is_far n distances x.0 k)
found_by n distances named (Places w) k = has named k
found_by n distances named (Closed w x) k = has named k || not (is_far n distances x.0 k)

-- the reason of a node that is not
abbrev pub missed_by : Plan → ℕ
missed_by (Near set x cursor) = 3
missed_by (Places w) = 4
missed_by (Closed w x) = 4

-- What a plan comes to on n nodes.
pub record Reaches (n : ℕ) (distances : List ℕ) (limit named : ℕ) (p : Plan) (r : Reach) : Type 0 where
  pub set : r.set.0 ≡ set_by limit p
  pub found : (k : ℕ) → k < n → has r.found.0 k ≡ found_by n distances named p k
  pub missed : code_of r.missed ≡ missed_by p
