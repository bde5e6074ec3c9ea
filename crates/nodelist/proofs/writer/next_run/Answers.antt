-- `next_run` meets its contract: the trailing zeros lead to the run, the trailing ones are its nodes.
-- Assumes nothing.
use Rattle.std.specs.Prelude.{ℕ, ◌≡◌, ◌≢◌, ◌+◌, ◌-◌, ◌/◌, ◌^◌, ◌<◌}
use Rattle.std.proofs.Common.{sym, arith, ◌∙◌}
use native.Mathlib.Nat.{pos_of_ne-zero}
use lib.Count.{count_trailing_zeros}
use Rattle.rules.specs.Masks.{all_nodes}
use Rattle.nodelist.proofs.Runs.{FirstRun, no_run_from, no_run_past, first_run}
use Rattle.nodelist.proofs.writer.next_run.Goals as goal

-- the run that is found
found : {above : ℕ} (m from : ℕ) → m < 2 ^ 64 → above ≡ m / 2 ^ from → above ≢ 0
    → let low = from + count_trailing_zeros 64 above in FirstRun m from low (count_trailing_zeros 64 (all_nodes 64 - m / 2 ^ low))
found m from h e n = rw e (first_run m from h (pos_of_ne-zero (λ z. n (e ∙ z))))

pub returns-in_err-above : goal.returns-in_err-above
returns-in_err-above c = rw c.from_residual.ensures (no_run_past c.args.mask.0 c.args.from (omega (arith, c.in_err-above.ensures)))

pub returns-then-above-eq0 : goal.returns-then-above-eq0
returns-then-above-eq0 c = no_run_from c.args.mask.0 c.args.from (sym c.in_ok-above.ensures.1 ∙ c.if-above-eq0.true)

pub overflow_shr-ones : goal.overflow_shr-ones
overflow_shr-ones c = let f = found c.args.mask.0 c.args.from (omega arith) c.in_ok-above.ensures.1 c.if-above-eq0.false in
    omega (arith, f.some, f.within)

pub overflow_sub-result : goal.overflow_sub-result
overflow_sub-result c = let f = found c.args.mask.0 c.args.from (omega arith) c.in_ok-above.ensures.1 c.if-above-eq0.false in
    omega (arith, f.some)

pub returns : goal.returns
returns c = let f = found c.args.mask.0 c.args.from (omega arith) c.in_ok-above.ensures.1 c.if-above-eq0.false in
    (omega arith, omega (arith, f.some), omega (arith, f.some, f.within), f.first)
