-- `put_number` meets its contract: one digit or two.
-- Assumes nothing.
use mathlib.Core.Path.{refl}
use native.Mathlib.Omega.{arith}
use native.Mathlib.Numerals.{towards_suc}
use borrow.Author.Tests.{lt-ltb, le-ltb}
use Rattle.rules.specs.Text.{decimal}
use Rattle.nodelist.proofs.writer.put_number.Goals as goal

pub bounds-line-at : goal.bounds-line-at
unfolding decimal
bounds-line-at c = omega (arith, rw (lt-ltb c.args.n 10 c.if-n-lt10.true) at c.requires.1)

pub returns-then-n-lt10 : goal.returns-then-n-lt10
unfolding decimal
returns-then-n-lt10 c = rw (lt-ltb c.args.n 10 c.if-n-lt10.true) record {
  end = refl;
  put = refl;
}

pub bounds-line-at-2 : goal.bounds-line-at-2
unfolding decimal
bounds-line-at-2 c = omega (arith, rw (le-ltb c.args.n 10 c.if-n-lt10.false) at c.requires.1)

pub bounds-line-at-3 : goal.bounds-line-at-3
unfolding decimal
bounds-line-at-3 c = omega (arith, rw (le-ltb c.args.n 10 c.if-n-lt10.false) at c.requires.1)

pub returns : goal.returns
unfolding decimal
returns c = rw (le-ltb c.args.n 10 c.if-n-lt10.false) record {
  end = refl;
  put = simp towards_suc;
}
