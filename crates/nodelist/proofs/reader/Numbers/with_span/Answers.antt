-- `Numbers::with_span` meets its contract: all numbers up to high, less those below low.
-- Assumes nothing.
use Prim.Native.Nat.{◌+◌, ◌^◌, ◌≤◌}
use native.Mathlib.Omega.{arith}
use lib.Pow.{pow_mono}
use Rattle.nodelist.proofs.reader.Numbers.with_span.Goals as goal

pub overflow_sub-result : goal.overflow_sub-result
overflow_sub-result c = let under : 2 ^ c.args.low ≤ 2 ^ (c.args.high + 1) = pow_mono (omega arith) in
    omega (arith, c.low_bits.ensures, c.low_bits-under.ensures, under)
