-- `verdict` makes the tests in the order of the rule.
-- Assumes nothing.
use mathlib.Core.Path.{◌≡◌, sym, ◌∙◌}
use mathlib.Core.Bool.{true}
use borrow.Author.Tests.{lt-leb, le-leb}
use lib.Dec.{leb}
use lib.ListN.{length}
use Rattle.rules.specs.Journal.{head_ok, counts_ok, machine_size, opening}
use Rattle.journal.proofs.MachineRecord.{head_long}
use Rattle.journal.proofs.opening.verdict.Goals as goal

-- ---- the answers
pub returns-then-not-head_ok : goal.returns-then-not-head_ok
unfolding opening
returns-then-not-head_ok c = rw (sym c.head_ok.ensures ∙ c.if-not-head_ok.true)

pub returns-then-not-counts_ok : goal.returns-then-not-counts_ok
unfolding opening
returns-then-not-counts_ok c = let head : head_ok c.args.bytes.now ≡ true = sym c.head_ok.ensures ∙ c.if-not-head_ok.false in
    rw (head, sym c.counts_ok.ensures ∙ c.if-not-counts_ok.true)

pub returns-then-bytes-size : goal.returns-then-bytes-size
unfolding opening
returns-then-bytes-size c = let head : head_ok c.args.bytes.now ≡ true = sym c.head_ok.ensures ∙ c.if-not-head_ok.false in
    let counts : counts_ok c.args.bytes.now ≡ true = sym c.counts_ok.ensures ∙ c.if-not-counts_ok.false in
    rw (head, counts, sym c.machine_size-size.ensures, lt-leb _ _ c.if-bytes-size.true)

pub returns-then-not-machine_ok : goal.returns-then-not-machine_ok
unfolding opening
returns-then-not-machine_ok c = let head : head_ok c.args.bytes.now ≡ true = sym c.head_ok.ensures ∙ c.if-not-head_ok.false in
    let counts : counts_ok c.args.bytes.now ≡ true = sym c.counts_ok.ensures ∙ c.if-not-counts_ok.false in
    let long : leb (machine_size c.args.bytes.now) (length c.args.bytes.now) ≡ true = rw (sym c.machine_size-size.ensures) (le-leb _ _ c.if-bytes-size.false) in
    rw (head, counts, long, sym c.machine_ok.ensures ∙ c.if-not-machine_ok.true)

pub returns : goal.returns
unfolding opening
returns c = let head : head_ok c.args.bytes.now ≡ true = sym c.head_ok.ensures ∙ c.if-not-head_ok.false in
    let counts : counts_ok c.args.bytes.now ≡ true = sym c.counts_ok.ensures ∙ c.if-not-counts_ok.false in
    let long : leb (machine_size c.args.bytes.now) (length c.args.bytes.now) ≡ true = rw (sym c.machine_size-size.ensures) (le-leb _ _ c.if-bytes-size.false) in
    rw (
      head,
      counts,
      long,
      sym c.machine_ok.ensures ∙ c.if-not-machine_ok.false,
      c.machine_size-size.ensures,
    )

pub counts_ok-requires : goal.counts_ok-requires
counts_ok-requires c = let head : head_ok c.args.bytes.now ≡ true = sym c.head_ok.ensures ∙ c.if-not-head_ok.false in
    head_long _ head

pub machine_size-size-requires : goal.machine_size-size-requires
machine_size-size-requires c = let head : head_ok c.args.bytes.now ≡ true = sym c.head_ok.ensures ∙ c.if-not-head_ok.false in
    head_long _ head
