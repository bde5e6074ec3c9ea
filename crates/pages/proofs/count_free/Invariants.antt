-- `count_free` meets its contract.
-- Assumes nothing.
use Rattle.std.proofs.Common.{◌≡◌, ◌+◌}
use Rattle.std.specs.Slice.Iter.{chunks_rest, chunks_size}
use Rattle.pages.specs.FirstZero.{zeros}
use Rattle.pages.proofs.count_free.Given as goal

abbrev pub invariant-loop-block : goal.invariant-loop-block
invariant-loop-block l = (chunks_size l.block-iterator ≡ 128) × (l.count + zeros (chunks_rest l.block-iterator) ≡ zeros l.part)
