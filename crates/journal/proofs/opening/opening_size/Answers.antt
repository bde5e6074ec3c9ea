-- `opening_size` goes by the counts of the six head bytes.
-- Assumes nothing.
use mathlib.Core.Path.{◌≡◌, sym, ◌∙◌}
use native.Mathlib.Omega.{arith}
use Rattle.journal.specs.Opening.{opening_size}
use Rattle.journal.proofs.MachineRecord.{opening_between}
use borrow.Author.Rules.{rules}
use Rattle.journal.proofs.opening.opening_size.Goals as goal

pub returns-then-not-counts_ok : goal.returns-then-not-counts_ok
unfolding opening_size
returns-then-not-counts_ok c = let bad = sym c.counts_ok.ensures ∙ c.if-not-counts_ok.true in
    (rw bad, search rules, search rules)

pub returns : goal.returns
unfolding opening_size
returns c = let good = sym c.counts_ok.ensures ∙ c.if-not-counts_ok.false in
    let e : c.machine_size.result ≡ opening_size c.args.bytes.now = rw good c.machine_size.ensures in
    (e, omega (arith, (opening_between c.args.bytes.now).0), omega (arith, (opening_between c.args.bytes.now).1))
