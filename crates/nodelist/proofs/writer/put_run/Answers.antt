-- `put_run` meets its contract: a comma, a number, and for more nodes a dash and a number.
-- Assumes nothing.
use Rattle.std.specs.Prelude.{Bool, ℕ, false, ◌≡◌, ◌≢◌, eqb}
use Rattle.std.proofs.Common.{sym, ◌∙◌, arith}
use borrow.Author.Tests.{eqb-true, eqb-false}
use Rattle.nodelist.proofs.LineLaws.{run_length, double_room, put_single, put_double}
use Rattle.nodelist.proofs.writer.put_run.Goals as goal

-- what the test of the run's ends tells
differ : {r : Bool} {a b : ℕ} → r ≡ eqb a b → r ≡ false → a ≢ b
differ {a = a} {b = b} e f = eqb-false a b (sym e ∙ f)

pub put_number-mid-requires : goal.put_number-mid-requires
put_number-mid-requires c = omega (arith, run_length c.args.run.low.0 c.args.run.high.0)

pub returns-then-eq : goal.returns-then-eq
returns-then-eq c = let both = put_single c.args.run.low.0 c.args.run.high.0 c.args.line.now c.args.at c.put_number-mid.ensures.end
    c.put_number-mid.ensures.put (eqb-true _ _ (sym c.eq.ensures ∙ c.if-eq.true)) in
    record { end = both.0; put = both.1 }

pub bounds-line-mid : goal.bounds-line-mid
bounds-line-mid c = omega (arith, c.put_number-mid.ensures.end, double_room c.args.run.low.0 c.args.run.high.0 (differ c.eq.ensures c.if-eq.false))

pub overflow_add-mid : goal.overflow_add-mid
overflow_add-mid c = omega (arith, c.put_number-mid.ensures.end, double_room c.args.run.low.0 c.args.run.high.0 (differ c.eq.ensures c.if-eq.false))

pub put_number-requires : goal.put_number-requires
put_number-requires c = omega (arith, c.put_number-mid.ensures.end, double_room c.args.run.low.0 c.args.run.high.0 (differ c.eq.ensures c.if-eq.false))

pub returns : goal.returns
returns c = let both = put_double c.args.run.low.0 c.args.run.high.0 c.args.line.now c.args.at c.put_number-mid.ensures.end c.put_number-mid.ensures.put
    (differ c.eq.ensures c.if-eq.false) c.put_number.ensures.end c.put_number.ensures.put in
    record { end = both.0; put = both.1 }
