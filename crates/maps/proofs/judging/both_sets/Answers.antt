-- `both_sets` meets its contract. The loop: the sets are those of the nodes before this one in either part.
-- Assumes nothing.
use Prim.Native.Nat.{ℕ, ◌+◌, ◌<◌}
use mathlib.Core.Path.{◌≡◌, ap, ap₂, ◌∙◌}
use mathlib.Core.List.{List}
use native.Mathlib.Numerals.{add-one}
use native.Mathlib.Omega.{arith}
use borrow.Author.Rules.{rules}
use lib.ListN.{length, get_or, take, length-append}
use lib.Seq.{take-suc, take_all}
use Rattle.rules.specs.Masks.{insert, either}
use Rattle.rules.specs.Maps.{set_of}
use Rattle.rules.proofs.Maps.{entry_below}
use Rattle.std.proofs.lemmas.Slice.Zip.{zip_turn, zip_end}
use Rattle.maps.proofs.NodeSets.{set_none, set_more, set_either}
use Rattle.maps.proofs.judging.both_sets.Goals as goal

-- the set of one node more of a list
step : (xs : List ℕ) (i : ℕ) {set next : ℕ} → i < length xs → get_or xs i 0 < 64 → set ≡ set_of (take i xs) → next ≡ insert set (get_or xs i 0)
    → next ≡ set_of (take (i + 1) xs)
step xs i h l e q = rw (q, e, add-one i, take-suc xs i 0 h) (set_more (take i xs) (get_or xs i 0) l)

pub loop-node-init : goal.loop-node-init
loop-node-init c = (set_none, set_none)

pub insert-set-requires : goal.insert-set-requires
insert-set-requires c =
    let turn = zip_turn c.args.one.now c.args.other.now c.loop-node.yielded c.into_iter-node-iterator.result _ c.next.new.self _ (search rules) (search rules)
    c.loop-node.yielded_by _ c.in-Some.is c.next.ensures.steps in
    rw (turn.2 0) (entry_below 64 c.args.one.now (length c.loop-node.yielded) 0 c.requires.1 turn.0)

pub insert-more-requires : goal.insert-more-requires
insert-more-requires c =
    let turn = zip_turn c.args.one.now c.args.other.now c.loop-node.yielded c.into_iter-node-iterator.result _ c.next.new.self _ (search rules) (search rules)
    c.loop-node.yielded_by _ c.in-Some.is c.next.ensures.steps in
    rw (turn.3 0) (entry_below 64 c.args.other.now (length c.loop-node.yielded) 0 c.requires.2 turn.1)

pub loop-node-preserved : goal.loop-node-preserved
loop-node-preserved c =
    let turn = zip_turn c.args.one.now c.args.other.now c.loop-node.yielded c.into_iter-node-iterator.result _ c.next.new.self _ (search rules) (search rules)
    c.loop-node.yielded_by _ c.in-Some.is c.next.ensures.steps in
    let one = entry_below 64 c.args.one.now (length c.loop-node.yielded) 0 c.requires.1 turn.0 in
    let other = entry_below 64 c.args.other.now (length c.loop-node.yielded) 0 c.requires.2 turn.1 in
    rw length-append (
      step c.args.one.now (length c.loop-node.yielded) turn.0 one c.loop-node.invariant.0
          (c.insert-set.ensures ∙ ap (insert c.loop-node.set.0) (turn.2 0)),
      step c.args.other.now (length c.loop-node.yielded) turn.1 other c.loop-node.invariant.1
          (c.insert-more.ensures ∙ ap (insert c.loop-node.more.0) (turn.3 0)),
    )

pub returns : goal.returns
returns c =
    let end = zip_end c.args.one.now c.args.other.now c.loop-node.yielded c.into_iter-node-iterator.result _ c.next.new.self _ (search rules) (search rules)
    c.loop-node.yielded_by c.in-None.is c.next.ensures.steps in
    c.either.ensures
    ∙ ap₂ either (c.loop-node.invariant.0 ∙ ap set_of (take_all (length c.loop-node.yielded) c.args.one.now (omega (arith, c.requires.0, end))))
    (c.loop-node.invariant.1 ∙ ap set_of (take_all (length c.loop-node.yielded) c.args.other.now (omega (arith, c.requires.0, end))))
    ∙ set_either c.args.one.now c.args.other.now
