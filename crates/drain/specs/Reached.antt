-- How far a drain has come (request M-107): the moves of the pages before some page of x are made, those from it on are left.
use Rattle.std.specs.Prelude.{ℕ, ◌+◌, ◌-◌, ◌≤◌, ◌<◌, ◌≡◌, Bool, true, false, not, List, ◌++◌, eqb, length, get_or}
use Rattle.rules.specs.Basics.{keep, each, from}
use Rattle.rules.specs.Machine.{first_page}
use Rattle.rules.specs.SearchOrder.{free_counts, pick_page}
use Rattle.rules.specs.Decisions.{Decision, refuse, accept, then}
use Rattle.rules.specs.Calls.{Tables, after_writes}
use Rattle.rules.specs.Drain.{Move, held_pages, moves, move_writes, recounts_of}
use Rattle.placement.specs.Grants.{Paged}
use Rattle.drain.specs.Goals.{Ordered}

-- What the passes over the pages of node x may count on: where each node's pages are, the order of the other nodes, counts that match.
pub record Drainable (counts starts : List ℕ) (x : ℕ) (order pages free : List ℕ) : Type 0 where
  pub paged : Paged counts starts pages
  pub ordered : Ordered (length counts) x order free
  pub matches : free ≡ free_counts counts pages

-- whether every page has somewhere to go: the moves are made, or 17
abbrev pub Goes : Bool → Decision (List Move) → Type 0
Goes true d = (vs : List Move) × (d ≡ accept vs)
Goes false d = d ≡ refuse 17

-- the move of page p, which has this byte, to node k
abbrev pub move_by : List ℕ → List ℕ → ℕ → ℕ → ℕ → Move
move_by counts ledger p k byte = record { old = p; new = pick_page counts ledger (byte - 1) k; node = k; job = byte - 1 }

-- the held pages of node x from its page number i on
abbrev pub held_from : List ℕ → List ℕ → ℕ → ℕ → List ℕ
held_from counts ledger x i = keep (λ p. not (eqb (get_or ledger p 0) 0)) (from (first_page counts x + i) (get_or counts x 0 - i))

-- From the tables `start`, i pages of node x have been gone through: the moves `vs` led to the tables `now`.
pub record Reached (counts distances : List ℕ) (x : ℕ) (start : Tables) (i : ℕ) (now : Tables) (vs : List Move) : Type 0 where
  pub left : moves counts distances x start (held_pages counts start.ledger x)
      ≡ then (moves counts distances x now (held_from counts start.ledger x i)) (λ ws. accept (vs ++ ws))
  pub records : now.records ≡ start.records
  pub maps : now.maps ≡ start.maps
  pub matches : now.free ≡ free_counts counts now.ledger
  pub ledger : now.ledger ≡ after_writes start.ledger (each move_writes vs)
  pub free : now.free ≡ after_writes start.free (recounts_of x start.free vs)
  pub long : length now.ledger ≡ length start.ledger
  pub bytes : (p : ℕ) → first_page counts x + i ≤ p → p < first_page counts x + get_or counts x 0 → get_or now.ledger p 0 ≡ get_or start.ledger p 0
