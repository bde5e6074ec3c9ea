-- 17 and 11: what a drain with counts that match comes to, by whether every page goes somewhere, and by the room.
-- Assumes nothing.
use Prim.Native.Nat.{ℕ, ◌-◌, ◌*◌, ◌≤◌, ◌<◌}
use mathlib.Core.Path.{◌≡◌}
use mathlib.Core.Bool.{Bool, true, false}
use mathlib.Core.List.{List}
use native.Mathlib.Omega.{arith}
use borrow.Author.Tests.{le-leb, lt-leb}
use lib.ListN.{length, get_or}
use Rattle.rules.specs.SearchOrder.{free_counts}
use Rattle.rules.specs.Decisions.{refuse, accept}
use Rattle.rules.specs.Calls.{Tables}
use Rattle.rules.specs.Drain.{Move, held_pages, moves, moves_within}
use Rattle.rules.proofs.FreeCounts.{count_is, count_most}
use Rattle.drain.specs.Reached.{Drainable, Goes}
use Rattle.drain.proofs.Reached.{moves_count}

-- The answer r of the pass by the counts alone.
module _ {counts starts order : List ℕ} {x : ℕ} (t : Tables) (d : Drainable counts starts x order t.ledger t.free) (distances : List ℕ) (room : ℕ)
    {r : Bool} (g : Goes r (moves counts distances x t (held_pages counts t.ledger x))) where
  -- some page has nowhere to go
  pub within_17 : r ≡ false → moves_within counts distances x t room ≡ refuse 17
  unfolding moves_within
  within_17 e = let stuck : Goes false (moves counts distances x t (held_pages counts t.ledger x)) = rw e at g in rw stuck

  -- all go: the moves, and how many there are
  pub all_moved : r ≡ true → (vs : List Move) × (moves counts distances x t (held_pages counts t.ledger x) ≡ accept vs)
      × (length vs ≡ get_or counts x 0 - get_or t.free x 0)
  all_moved e =
      let all : Goes true (moves counts distances x t (held_pages counts t.ledger x)) = rw e at g in
      (all.0, all.1, moves_count counts distances x t d.matches d.paged.fits all.1)

  -- and there is no room for the pairs
  pub within_11 : r ≡ true → room < 2 * (get_or counts x 0 - get_or t.free x 0) → moves_within counts distances x t room ≡ refuse 11
  unfolding moves_within
  within_11 e l = let v = all_moved e in rw (v.1, lt-leb (2 * length v.0) room (omega (arith, v.2)))

  -- or there is
  pub within_ok : (e : r ≡ true) → 2 * (get_or counts x 0 - get_or t.free x 0) ≤ room → moves_within counts distances x t room ≡ accept (all_moved e).0
  unfolding moves_within
  within_ok e l = let v = all_moved e in rw (v.1, le-leb (2 * length v.0) room (omega (arith, v.2)))

-- a node's count is at most the number of its pages
pub count_low : (counts ledger free : List ℕ) (x : ℕ) → free ≡ free_counts counts ledger → get_or free x 0 ≤ get_or counts x 0
count_low counts ledger free x e = rw (e, count_is counts ledger x) (count_most counts ledger x)
