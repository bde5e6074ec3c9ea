-- `calls_ok` meets its contract. The loop: the tests made so far and those to come are the tests of all calls.
-- Assumes nothing.
use Rattle.std.proofs.Common.{ℕ, ◌≡◌, ◌*◌, drop}
use Rattle.std.specs.Slice.Iter.{chunks_rest, chunks_size}
use Rattle.replay.proofs.Words.{Tested}
use Rattle.replay.proofs.encoding.calls_ok.Given as goal

abbrev pub invariant-loop-call : goal.invariant-loop-call
invariant-loop-call l = (chunks_size l.call-iterator ≡ 16) × ((i : ℕ) × (chunks_rest l.call-iterator ≡ drop (16 * i) l.calls) × Tested l.calls i l.ok)
