-- The reasons at a request that has passed its tests (request M-106).
use Rattle.std.specs.Prelude.{ℕ, ◌<◌, ◌≡◌, List, ◌++◌, map, length, drop, Option, Some, None}
use Rattle.rules.specs.Basics.{from}
use Rattle.rules.specs.Records.{Record}
use Rattle.rules.specs.SearchOrder.{plan, order, chosen}
use Rattle.rules.specs.Reasons.{reason_in, meets_room}
use Rattle.rules.specs.Decisions.{accept, unless, decided, Written, wrote, not_written}
use Rattle.placement.specs.Grants.{Paged}
use Rattle.placement.specs.Searches.{Searchable}
use Rattle.placement.specs.declared.search.Chosen.{Chosen}

-- a node that is chosen is one of n
abbrev pub IsNode : ℕ → Option Chosen → Type 0
IsNode n (Some c) = c.node.0 < n
IsNode n None = Unit {0}

-- What the reasons may count on: the pages of each node, a free count for each, and a request that may be searched for.
pub record Explainable (counts starts distances ledger free : List ℕ) (limit : ℕ) (r : Record) (x : ℕ) : Type 0 where
  pub paged : Paged counts starts ledger
  pub one_each : length free ≡ length counts
  pub searchable : Searchable free distances limit r x

-- 14, and the reasons
unfoldable pub explained : List ℕ → List ℕ → List ℕ → List ℕ → ℕ → Record → ℕ → List ℕ → Written
explained counts distances ledger free limit r x out =
    decided
    (not_written out)
    (λ reasons. wrote (accept (length counts)) (reasons ++ drop (length counts) out))
    (unless (meets_room counts ledger (chosen free (order (length counts) distances limit (plan limit r x)))) 14
    (accept (map (reason_in (length counts) distances free limit r (plan limit r x)) (from 0 (length counts)))))
