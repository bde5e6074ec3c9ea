-- `read_form` meets its contract, form by form.
-- Assumes nothing.
use Rattle.std.specs.Prelude.{◌≡◌, ◌≢◌, false, drop, List, Bool, ℕ, ◌<◌, length}
use Rattle.std.proofs.Common.{sym, ap, ◌∙◌, get_or, arith}
use Rattle.std.proofs.Math.Dec.{eqb}
use borrow.Author.Tests.{eqb-true, eqb-false}
use lib.Pointwise.{pointwise}
use native.Mathlib.Nat.{pos_of_ne-zero}
use Rattle.rules.specs.Basics.{same}
use Rattle.rules.specs.Text.{all_word, form_ok, form_mask}
use Rattle.nodelist.specs.Forms.{form_read}
use Rattle.nodelist.proofs.FormLaws.{same_pointwise, form_none, form_all, form_except, form_ranks, form_items, read_plain, read_except, read_ranks}
use Rattle.nodelist.proofs.forms.read_form.Goals as goal

-- what the test for the word `all` tells
is_all : {r b : Bool} {word : List ℕ} (text : List ℕ) → r ≡ pointwise eqb text word → word ≡ all_word → r ≡ b → same text all_word ≡ b
is_all text e w f = sym (same_pointwise text all_word) ∙ ap (pointwise eqb text) (sym w) ∙ sym e ∙ f

-- what the test for an empty text tells
some_bytes : {r : Bool} (text : List ℕ) → r ≡ eqb (length text) 0 → r ≡ false → 0 < length text
some_bytes text e f = pos_of_ne-zero (eqb-false _ 0 (sym e ∙ f))

pub returns-then-is_empty : goal.returns-then-is_empty
unfolding form_read form_ok form_mask
returns-then-is_empty c = rw (form_none c.args.text.now (eqb-true _ 0 (sym c.is_empty.ensures ∙ c.if-is_empty.true)))

pub returns-then-eq : goal.returns-then-eq
unfolding form_read form_ok form_mask
returns-then-eq c = rw (form_all c.args.text.now (is_all c.args.text.now c.eq.ensures c.as_slice.ensures c.if-eq.true))

pub returns-in-33 : goal.returns-in-33
returns-in-33 c = c.read_except.ensures
    ∙ read_except c.args.nodes c.args.allowed.0 (drop 1 c.args.text.now) c.requires.0
    ∙ ap (form_read c.args.nodes c.args.allowed.0)
    (sym (form_except c.args.text.now (some_bytes c.args.text.now c.is_empty.ensures c.if-is_empty.false)
    (is_all c.args.text.now c.eq.ensures c.as_slice.ensures c.if-eq.false) c.in-33.is))

pub returns-in-43 : goal.returns-in-43
returns-in-43 c = c.read_ranks.ensures
    ∙ read_ranks c.args.nodes c.args.allowed.0 (drop 1 c.args.text.now) c.requires.0 c.requires.1
    ∙ ap (form_read c.args.nodes c.args.allowed.0)
    (sym (form_ranks c.args.text.now (some_bytes c.args.text.now c.is_empty.ensures c.if-is_empty.false)
    (is_all c.args.text.now c.eq.ensures c.as_slice.ensures c.if-eq.false) c.in-43.is))

pub returns-in_default : goal.returns-in_default
returns-in_default c =
    let not_bang : get_or c.args.text.now 0 0 ≢ 33 = λ e. omega arith in
    let not_plus : get_or c.args.text.now 0 0 ≢ 43 = λ e. omega arith in
    c.read_plain.ensures
    ∙ read_plain c.args.nodes c.args.allowed.0 c.args.text.now c.requires.0
    ∙ ap (form_read c.args.nodes c.args.allowed.0)
    (sym (form_items c.args.text.now (some_bytes c.args.text.now c.is_empty.ensures c.if-is_empty.false)
    (is_all c.args.text.now c.eq.ensures c.as_slice.ensures c.if-eq.false) not_bang not_plus))
