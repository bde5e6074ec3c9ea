-- Where a page goes, by the counts alone (request M-107): the order that is gone through, and what is kept of each job that has been met.
use Rattle.std.specs.Prelude.{Option, None, Some, ℕ, ◌+◌, ◌-◌, ◌≤◌, ◌<◌, ◌≡◌, Bool, true, false, ◌&&◌, cond, List, [], ◌∷◌, eqb, length, get_or, set, drop}
use Rattle.std.proofs.Math.Option as Math
use Rattle.std.proofs.Math.Option.{none, some}
use Rattle.rules.specs.Basics.{keep, first}
use Rattle.rules.specs.Masks.{has, all_nodes}
use Rattle.rules.specs.Records.{most_jobs}
use Rattle.rules.specs.SearchOrder.{near, counted}
use Rattle.rules.specs.Calls.{tables_of, limit_of}
use Rattle.rules.specs.Drain.{is_movable}
use Rattle.nodemask.specs.declared.Mask.{Mask}
use Rattle.rules.specs.declared.SysNode.{SysNode}
use Rattle.drain.specs.declared.goals.MetJob.{MetJob}

-- the nodes other than x, nearest first: near(x) over all nodes, but for x, which stands first in it
unfoldable pub near_others : ℕ → List ℕ → ℕ → List ℕ
near_others n distances x = drop 1 (near n distances (all_nodes n) x)

-- 17's test of the holder, by job table and maps
unfoldable pub may_move : ℕ → List ℕ → List ℕ → ℕ → Bool
may_move n jobs maps j = is_movable n (tables_of [] jobs [] maps) j

-- the nodes that job j may get, by job table and maps
unfoldable pub limit_in : List ℕ → List ℕ → ℕ → ℕ
limit_in jobs maps j = limit_of (tables_of [] jobs [] maps) j

-- the node is in the limit and counted above 0
abbrev pub opens : List ℕ → ℕ → ℕ → Bool
opens free limit k = has limit k && counted free k

-- where a page that job j holds goes: the first node of the order that is in its limit and counted above 0
unfoldable pub goal_by : ℕ → List ℕ → List ℕ → List ℕ → List ℕ → ℕ → Math.Option ℕ
goal_by n order jobs maps free j = cond (may_move n jobs maps j) (first (keep (opens free (limit_in jobs maps j)) order)) none

-- what the code's options stand for
abbrev pub goal_of : Option SysNode → Math.Option ℕ
goal_of (Some k) = some k.0
goal_of None = none

abbrev pub holder_of : Option Mask → Math.Option ℕ
holder_of (Some limit) = some limit.0
holder_of None = none

-- no node of the order from position `begin` on and before position `at` is open
abbrev pub AllShut : List ℕ → List ℕ → ℕ → ℕ → ℕ → Type 0
AllShut order free limit begin at = (i : ℕ) → begin ≤ i → i < at → opens free limit (get_or order i 0) ≡ false

-- no node of the order before position `at` is open
unfoldable pub ClosedTo : List ℕ → List ℕ → ℕ → ℕ → Type 0
ClosedTo order free limit at = (i : ℕ) → i < at → has limit (get_or order i 0) ≡ true → get_or free (get_or order i 0) 0 ≡ 0

-- What is kept of the job that byte b names, once it has been met: its limit, and a position of the order up to which no node is open.
pub record Kept (n : ℕ) (order jobs maps free : List ℕ) (job : MetJob) (b : ℕ) : Type 0 where
  pub movable : may_move n jobs maps (b - 1) ≡ true
  pub limit : job.limit.0 ≡ limit_in jobs maps (b - 1)
  pub within : job.from ≤ length order
  pub closed : ClosedTo order free (limit_in jobs maps (b - 1)) job.from

-- of every byte that has been met
pub record Met (n : ℕ) (order jobs maps free : List ℕ) (met : List (Option MetJob)) : Type 0 where
  pub long : length met ≡ most_jobs + 1
  pub kept : (b : ℕ) (job : MetJob) → get_or met b None ≡ Some job → Kept n order jobs maps free job b

-- What may be counted on: the nodes of the order are nodes other than x, there is a count for each node, and job table and maps are in order.
pub record Ordered (n x : ℕ) (order free : List ℕ) : Type 0 where
  pub short : length order ≤ 64
  pub nodes : (i : ℕ) → i < length order → get_or order i 0 < n
  pub others : (i : ℕ) → i < length order → get_or order i 0 ≡ x → ⊥
  pub one_each : length free ≡ n
  pub node : x < n

-- the counts after a move from x to k: x has one free page more, k one less
abbrev pub after_move : ℕ → List ℕ → ℕ → List ℕ
after_move x free k = set (set free x (get_or free x 0 + 1)) k (get_or free k 0 - 1)

-- what comes after a page that goes to a node, or nowhere
abbrev pub if_goes : Math.Option ℕ → (ℕ → Bool) → Bool
if_goes none rest = false
if_goes (some k) rest = rest k

-- the pages that have these bytes all have somewhere to go, each at its turn
unfoldable pub passes : ℕ → List ℕ → List ℕ → List ℕ → ℕ → List ℕ → List ℕ → Bool
passes n order jobs maps x free [] = true
passes n order jobs maps x free (b ∷ bs) =
    cond (eqb b 0)
    (passes n order jobs maps x free bs)
    (if_goes (goal_by n order jobs maps free (b - 1)) (λ k. passes n order jobs maps x (after_move x free k) bs))
