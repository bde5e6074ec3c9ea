-- `zero_from` shifts the bytes before k out of the number of the eight.
-- Assumes nothing.
use Prim.Native.Nat.{ℕ, ◌*◌, ◌/◌, ◌^◌}
use mathlib.Core.Path.{ap, ◌∙◌}
use native.Mathlib.Omega.{arith}
use lib.Dec.{eqb}
use Rattle.journal.proofs.Unused.{shifted_zero}
use Rattle.journal.proofs.record.zero_from.Goals as goal

pub returns : goal.returns
returns c = ap (λ (x : ℕ). eqb (x / 2 ^ (8 * c.args.k)) 0) c.u64_at.ensures
    ∙ shifted_zero c.args.at c.args.k c.args.bytes.now (λ i. omega (arith, c.shared_slice_known-1.given i)) c.requires.0 (omega arith)
