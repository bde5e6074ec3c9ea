-- What a list of calls keeps beside the lent tables, so that a search for a free page goes over no held page twice: five hints to a node, one
-- for each colour (M-105) and one for all its pages. Each is a page number before which the node's pages of that colour, or all of them, are
-- held. Document 01 does not speak of them, and no answer depends on them; no hints at all, as a single call has, are hints too.
use Rattle.std.specs.Prelude.{ℕ, ◌+◌, ◌*◌, ◌-◌, ◌%◌, ◌≤◌, ◌<◌, ◌≡◌, ◌⊎◌, cond, List, eqb, ltb, get_or, set, Result, Ok, Err}
use Rattle.rules.specs.Machine.{first_page}
use Rattle.rules.specs.Masks.{most_nodes}
use Rattle.rules.specs.SearchOrder.{colour_of}
use Rattle.rules.specs.declared.Refusal.{Refusal}
use Rattle.placement.specs.declared.placed.Placed.{Placed}
use Rattle.placement.specs.declared.placed.Placed.TheVariants.{Granted, Released}

-- where node n's hint for a colour stands, 0 to 3, and its hint for all pages, 4
abbrev pub hint_at : ℕ → ℕ → ℕ
hint_at n c = 5 * n + c

abbrev pub all_pages : ℕ
all_pages = 4

-- the hint speaks of page p of node n
abbrev pub Covers : List ℕ → ℕ → ℕ → ℕ → Type 0
Covers counts n c p = (c ≡ all_pages) ⊎ (c ≡ colour_of counts n p)

-- hints for a page table
pub record Hints (counts ledger hints : List ℕ) : Type 0 where
  pub held : (n c p : ℕ) → first_page counts n ≤ p → p < first_page counts n + get_or counts n 0 → Covers counts n c p → p < get_or hints (hint_at n c) 0
      → 0 < get_or ledger p 1

-- a hint goes down to a page that is released before it
abbrev pub lowered : List ℕ → ℕ → ℕ → List ℕ
lowered hints i p = cond (ltb p (get_or hints i 0)) (set hints i p) hints

-- the hints after a page is placed for job j, by where the nodes' pages start. A page of the job's colour was the lowest free one of it. If a
-- page of another colour was granted, it was the lowest free one, and none of the job's colour is free.
abbrev pub hinted : List ℕ → ℕ → List ℕ → Result Placed Refusal → List ℕ
hinted starts j hints (Ok (Granted n p)) =
    cond (eqb ((p.0 - get_or starts n.0 0) % 4) (j % 4))
    (set hints (hint_at n.0 (j % 4)) (p.0 + 1))
    (set (set hints (hint_at n.0 all_pages) (p.0 + 1)) (hint_at n.0 (j % 4)) (get_or starts (n.0 + 1) 0))
hinted starts j hints (Ok (Released n p)) =
    lowered (lowered hints (hint_at n.0 all_pages) p.0) (hint_at n.0 ((p.0 - get_or starts n.0 0) % 4)) p.0
hinted starts j hints (Err why) = hints

-- node and page are such as a machine may have, whose nodes' pages start so
abbrev pub Named : List ℕ → Result Placed Refusal → Type 0
Named starts (Ok (Granted n p)) = (n.0 < most_nodes) × (get_or starts n.0 0 ≤ p.0) × (p.0 < 1048576)
Named starts (Ok (Released n p)) = (n.0 < most_nodes) × (get_or starts n.0 0 ≤ p.0) × (p.0 < 1048576)
Named starts (Err why) = Unit {0}
