-- `reason_of` meets its contract: test by test.
-- Assumes nothing.
use mathlib.Core.Path.{◌≡◌, sym, ◌∙◌}
use mathlib.Core.Bool.{true}
use borrow.Author.Tests.{lt-ltb, le-ltb}
use native.Mathlib.Omega.{arith}
use lib.Dec.{ltb}
use Rattle.rules.specs.Masks.{has}
use Rattle.reasons.specs.Reasons.{reason_by}
use Rattle.reasons.proofs.reason.reason_of.Goals as goal

-- ---- the reasons
pub returns-then-not-has : goal.returns-then-not-has
unfolding reason_by
returns-then-not-has c = rw (sym c.has.ensures ∙ c.if-not-has.true)

pub returns-then-not-has-2 : goal.returns-then-not-has-2
unfolding reason_by
returns-then-not-has-2 c = let allowed : has c.args.limit.0 c.args.node.0 ≡ true = sym c.has.ensures ∙ c.if-not-has.false in
    rw (allowed, sym c.has-2.ensures ∙ c.if-not-has-2.true)

pub returns-then-not-has-3 : goal.returns-then-not-has-3
unfolding reason_by
returns-then-not-has-3 c = let allowed : has c.args.limit.0 c.args.node.0 ≡ true = sym c.has.ensures ∙ c.if-not-has.false in
    let in-set : has c.args.reach.set.0 c.args.node.0 ≡ true = sym c.has-2.ensures ∙ c.if-not-has-2.false in
    rw (allowed, in-set, sym c.has-3.ensures ∙ c.if-not-has-3.true)

pub returns-then-count-eq0 : goal.returns-then-count-eq0
unfolding reason_by
returns-then-count-eq0 c = let allowed : has c.args.limit.0 c.args.node.0 ≡ true = sym c.has.ensures ∙ c.if-not-has.false in
    let in-set : has c.args.reach.set.0 c.args.node.0 ≡ true = sym c.has-2.ensures ∙ c.if-not-has-2.false in
    let found : has c.args.reach.found.0 c.args.node.0 ≡ true = sym c.has-3.ensures ∙ c.if-not-has-3.false in
    rw (allowed, in-set, found, le-ltb 0 c.args.count (omega (arith, c.if-count-eq0.true)))

pub returns-then-chosen : goal.returns-then-chosen
unfolding reason_by
returns-then-chosen c = let allowed : has c.args.limit.0 c.args.node.0 ≡ true = sym c.has.ensures ∙ c.if-not-has.false in
    let in-set : has c.args.reach.set.0 c.args.node.0 ≡ true = sym c.has-2.ensures ∙ c.if-not-has-2.false in
    let found : has c.args.reach.found.0 c.args.node.0 ≡ true = sym c.has-3.ensures ∙ c.if-not-has-3.false in
    let counted : ltb 0 c.args.count ≡ true = lt-ltb 0 c.args.count (omega (arith, c.if-count-eq0.false)) in
    rw (allowed, in-set, found, counted, c.if-chosen.true)

pub returns : goal.returns
unfolding reason_by
returns c = let allowed : has c.args.limit.0 c.args.node.0 ≡ true = sym c.has.ensures ∙ c.if-not-has.false in
    let in-set : has c.args.reach.set.0 c.args.node.0 ≡ true = sym c.has-2.ensures ∙ c.if-not-has-2.false in
    let found : has c.args.reach.found.0 c.args.node.0 ≡ true = sym c.has-3.ensures ∙ c.if-not-has-3.false in
    let counted : ltb 0 c.args.count ≡ true = lt-ltb 0 c.args.count (omega (arith, c.if-count-eq0.false)) in
    rw (allowed, in-set, found, counted, c.if-chosen.false)
