-- `read_record` makes the tests of the rule, and reads the call of each kind.
-- Assumes nothing.
use Prim.Native.Nat.{ℕ, ◌≤◌}
use mathlib.Core.Path.{◌≡◌, refl, sym, ap, ap₂, ◌∙◌}
use mathlib.Core.Bool.{Bool, true, ◌&&◌}
use mathlib.Core.List.{List}
use native.Mathlib.Omega.{arith}
use borrow.Author.Rules.{rules}
use lib.Dec.{eqb}
use lib.ListN.{length}
use Rattle.rules.specs.Journal.{byte_at, marked, kind_of, call_in}
use Rattle.journal.specs.Parts.{is_whole}
use Rattle.journal.proofs.Unused.{request_zero, release_zero, rebind_zero, install_zero, clear_zero}
use Rattle.journal.proofs.Records.{whole_long, short_damaged, mark_damaged, kind_damaged, kind_unknown, known_read, places_listed}
use Rattle.journal.proofs.record.read_record.Goals as goal
use Rattle.journal.proofs.record.read_record.Goals.{in-1, in-2, in-3, in-4, in-5}

pub returns-then-not-whole : goal.returns-then-not-whole
returns-then-not-whole c = short_damaged _ (sym c.whole.ensures.tells ∙ c.if-not-whole.true)

pub returns-then-not-marked : goal.returns-then-not-marked
returns-then-not-marked c = mark_damaged _ (sym c.whole.ensures.tells ∙ c.if-not-whole.false) (sym c.marked.ensures ∙ c.if-not-marked.true)

pub returns-in_default : goal.returns-in_default
returns-in_default c =
    kind_damaged _ (sym c.whole.ensures.tells ∙ c.if-not-whole.false) (sym c.marked.ensures ∙ c.if-not-marked.false)
    (kind_unknown _ (search rules) (search rules) (search rules) (search rules) (search rules))

pub returns : goal.returns
unfolding call_in
returns c =
    let bytes : List ℕ = c.args.bytes.now in
    let passed : (is_whole bytes ≡ true) × (marked bytes ≡ true) =
    (sym c.whole.ensures.tells ∙ c.if-not-whole.false, sym c.marked.ensures ∙ c.if-not-marked.false) in
    let long : 32 ≤ length bytes = whole_long bytes passed.0 in
    let job = c.byte_at-job.ensures.0 in
    let size = c.size_of-size.ensures in
    elim c.match-kind.branch [
      | in-1 w ↦ let cpu = w.byte_at-cpu.ensures.0 in
          known_read bytes _ passed (ap kind_of w.in-1.is) size w.call-is
          (w.rest_zero.ensures ∙ request_zero bytes long) refl (λ z. cc) c.then_some.ensures
      | in-2 w ↦ let page = w.u32_at-page.ensures in
          known_read bytes _ passed (ap kind_of w.in-2.is) size w.call-is
          (w.rest_zero-in-2.ensures ∙ release_zero bytes long) refl (λ z. cc) c.then_some.ensures
      | in-3 w ↦ let allowed = w.u64_at-allowed.ensures in
          known_read bytes _ passed (ap kind_of w.in-3.is) size w.call-is
          (ap₂ ◌&&◌ w.zero_from.ensures w.places_zero.ensures ∙ rebind_zero bytes long) refl (λ z. cc) c.then_some.ensures
      | in-4 w ↦ let len = w.byte_at.ensures in
          known_read bytes _ passed (ap kind_of w.in-4.is) size w.call-is
          (ap (λ (t : Bool). eqb (byte_at bytes 4) 0 && t) (rw len.0 at w.places_zero-in-4.ensures) ∙ install_zero bytes long) refl
          (λ z. rw w.install_in.ensures (_, refl, places_listed bytes long z (omega (arith, len.0, len.1)))) c.then_some.ensures
      | in-5 w ↦ known_read bytes _ passed (ap kind_of w.in-5.is) size w.call-is
          (w.rest_zero-in-5.ensures ∙ clear_zero bytes long) refl (λ z. cc) c.then_some.ensures
    ]
