-- `counting::counts_match` meets its contract.
-- Assumes nothing.
use Prim.Native.Nat.{ℕ, ◌<◌}
use mathlib.Core.Path.{◌≡◌}
use lib.ListN.{length, get_or}
use Rattle.rules.specs.SearchOrder.{free_pages}
use Rattle.drain.proofs.counting.counts_match.Given as goal

abbrev pub invariant-loop-node : goal.invariant-loop-node
invariant-loop-node l = (k : ℕ) → k < l.node → get_or l.free k 0 ≡ length (free_pages l.layout.counts.now l.pages k)
