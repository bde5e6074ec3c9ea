-- `place_of` meets its contract: ANY, no match, a match outside the map, a match in it.
-- Assumes nothing.
use Rattle.std.proofs.Common.{ℕ, ◌≡◌, false, arith, ap, sym, ◌∙◌}
use Rattle.std.proofs.Math.Option.{some}
use Rattle.rules.specs.Basics.{same}
use Rattle.rules.specs.Maps.{nodes_in, application_node}
use Rattle.rules.specs.Notes.{closing_word}
use Rattle.notes.specs.Steps.{found_of}
use Rattle.notes.proofs.NamePlaces.{match_most, found_closing, found_none, found_outside, found_inside}
use Rattle.notes.proofs.Words.{equal_is}
use Rattle.notes.proofs.places.place_of.Goals as goal

pub returns-then-eq : goal.returns-then-eq
returns-then-eq c = found_closing _ _ _ c.requires.1 _ (sym (equal_is _ _ _ closing_word c.if-eq.ensures c.as_slice.ensures))

pub returns-in_err-node : goal.returns-in_err-node
returns-in_err-node c = let other : same c.args.word.now closing_word ≡ false = sym (equal_is _ _ _ closing_word c.if-eq.ensures c.as_slice.ensures) in
    ap found_of c.from_residual.ensures ∙ found_none _ _ _ c.requires.1 _ other c.in_err-node.ensures

pub overflow_cast-number : goal.overflow_cast-number
overflow_cast-number c = omega (arith, c.in_ok-node.ensures.1, match_most _ _ _ c.requires.1 c.args.word.now)

pub returns-then-place : goal.returns-then-place
returns-then-place c = let other : same c.args.word.now closing_word ≡ false = sym (equal_is _ _ _ closing_word c.if-eq.ensures c.as_slice.ensures) in
    let at = application_node (nodes_in c.args.map.now) in
    found_outside _ _ _ c.requires.1 _ other (ap at (sym c.in_ok-node.ensures.1) ∙ sym c.named-place.ensures ∙ c.if-place.true)

pub returns : goal.returns
returns c = let other : same c.args.word.now closing_word ≡ false = sym (equal_is _ _ _ closing_word c.if-eq.ensures c.as_slice.ensures) in
    let at = application_node (nodes_in c.args.map.now) in
    let is = c.named-place.ensures ∙ ap at c.in_ok-node.ensures.1 in
    ap (λ (p : ℕ). some p) is ∙ found_inside _ _ _ c.requires.1 _ other c.in_ok-node.ensures.0 (λ q. c.if-place.false (is ∙ q))
