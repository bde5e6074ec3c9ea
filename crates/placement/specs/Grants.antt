-- M-105, the page picked inside a node: what the page that is marked stands for, and what a grant may count on.
use Rattle.std.specs.Prelude.{ℕ, ◌+◌, ◌-◌, ◌*◌, ◌%◌, ◌≤◌, ◌<◌, ◌≡◌, List, ◌++◌, length, get_or, Option, Some, None}
use Rattle.std.proofs.Math.Option as Math
use Rattle.std.proofs.Math.Option.{none, some}
use Rattle.rules.specs.declared.Page.{Page}
use Rattle.rules.specs.Basics.{keep, first, sum}
use Rattle.rules.specs.Masks.{most_nodes}
use Rattle.rules.specs.Records.{most_jobs}
use Rattle.rules.specs.SearchOrder.{free_pages, has_colour}
use Rattle.machine.specs.Tables.{Starts}
use Rattle.placement.specs.Hints.{hint_at, all_pages}
use Rattle.placement.specs.declared.grant.Part.{Part}

-- the page that is marked, if there is one
abbrev pub page_by : Option Page → Math.Option ℕ
page_by (Some p) = some p.0
page_by None = none

-- the page of node n that job j gets, if the node has a free one: "of the colour; failing that, the lowest free page"
unfoldable pub page_for : List ℕ → List ℕ → ℕ → ℕ → Math.Option ℕ
page_for counts ledger j n = first (keep (has_colour counts j n) (free_pages counts ledger n) ++ free_pages counts ledger n)

-- where each node's pages start, and that the page table has them
pub record Paged (counts starts ledger : List ℕ) : Type 0 where
  pub few : length counts ≤ most_nodes
  pub pages : sum counts ≤ 1048576
  pub begin : Starts counts starts
  pub fits : sum counts ≤ length ledger

-- What a grant may count on: page counts in order, where each node's pages start, a page table that has them, and one of the jobs.
pub record Ready (counts starts ledger : List ℕ) (j : ℕ) : Type 0 where
  pub few : length counts ≤ most_nodes
  pub pages : sum counts ≤ 1048576
  pub begin : Starts counts starts
  pub fits : sum counts ≤ length ledger
  pub job : j < most_jobs

-- the colour of job j in a part that starts at s, of a node whose first page is a
abbrev pub part_colour : ℕ → ℕ → ℕ → ℕ
part_colour j a s = (j % 4 + 3 * (s - a)) % 4

-- The part of node n's pages that is searched for job j: what comes before it, and before the pages of the job's colour, stands before the hints.
pub record Searched (starts hints : List ℕ) (j n : ℕ) (r : Part) : Type 0 where
  pub first : get_or starts n 0 ≤ r.low.0
  pub last : r.low.0 + r.ahead ≤ r.end.0
  pub end : r.end.0 ≡ get_or starts (n + 1) 0
  pub colour : r.colour ≡ part_colour j (get_or starts n 0) r.low.0
  pub passed : (p : ℕ) → get_or starts n 0 ≤ p → p < r.low.0 → p < get_or hints (hint_at n all_pages) 0
  pub skipped : (p : ℕ) → r.low.0 ≤ p → p < r.low.0 + r.ahead → p < get_or hints (hint_at n (j % 4)) 0

-- and a node that a search has chosen: one of the machine's, with a count above 0
pub record Chose (counts free : List ℕ) (n : ℕ) : Type 0 where
  pub one_each : length free ≡ length counts
  pub node : n < length counts
  pub above : 0 < get_or free n 0
