-- Request M-101, "Early mode forgets where it stopped": over every list of requests and releases, a search in mode 6 goes on from where the
-- last one stopped.
-- Assumes nothing.
use Rattle.std.specs.Prelude.{ℕ, suc, ◌≡◌, ◌≢◌, Bool, ◌&&◌, List, ◌∷◌, ltb}
use Rattle.std.proofs.Math.Option.{Option, none, some}
use Rattle.rules.specs.Basics.{keep, first, around, Each}
use Rattle.rules.specs.Machine.{Machine, node_count}
use Rattle.rules.specs.Masks.{has}
use Rattle.rules.specs.Records.{last_is, with_turn}
use Rattle.rules.specs.SearchOrder.{node_at, ring_places, place_tries, tried, counted}
use Rattle.rules.specs.Calls.{Tables, limit_of, order_of}
use Rattle.rules.specs.Book.{Call, clear, final}
use Rattle.rules.specs.Ledger.{last_else}
use Rattle.fairness.specs.Demand3.{record_in, Grant, grants, PolicyKept, node_granted}

-- place p of job j can grant: the node that it names is one of the machine's, allowed and in the map, and (M-100) counted above 0
unfoldable pub place_serves : Machine → Tables → ℕ → ℕ → Bool
place_serves m t j p =
    let n = node_at (record_in t j) p in
    ltb n (node_count m) && has (limit_of t j) n && counted t.free n

-- "Early: place 0, then as ring": the place granted is the first that can grant
unfoldable pub early_place : Machine → ℕ → Grant → Option ℕ
early_place m j g = first (keep (place_serves m g.before j) (0 ∷ ring_places (record_in g.before j)))

-- Grant g of job j, and the tables `later`. "There a search begins one past where the last search on that list concluded, and a search served
-- by the first place also concluded somewhere": from any CPU the next search tries place 0 and then, in its ring part, the places from one
-- past the place that granted, once round.
pub record GoesOn (m : Machine) (j : ℕ) (g : Grant) (later : Tables) : Type 0 where
  pub place : ℕ
  pub granted_at : early_place m j g ≡ some place
  pub in_node : node_granted m g ≡ node_at (record_in g.before j) place
  -- "any grant in mode 6 sets the cursor to the granted place", and nothing else of the record changes
  pub stored : record_in later j ≡ with_turn (record_in g.before j) (last_is place)
  pub next_search : (k : ℕ) → let r = record_in g.before j in
      order_of m later j k ≡ tried (node_count m) (limit_of g.before j) (place_tries r (0 ∷ around r.len (suc place) r.len))

-- Of every list of calls, from any tables in which job j is in mode 6, that sets its policy by no granted call and does not clear it, as every
-- list of requests, releases and drains: after the list the job goes on from its last grant in it.
abbrev pub EarlyGoesOn : Machine → Tables → List Call → Type 0
EarlyGoesOn m t cs = (j : ℕ) → PolicyKept m j t cs → Each (λ c. c ≢ clear j) cs → (record_in t j).mode ≡ 6
    → (g : Grant) → last_else none (grants m j t cs) ≡ some g → GoesOn m j g (final m t cs)
