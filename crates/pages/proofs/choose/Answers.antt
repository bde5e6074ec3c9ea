-- `choose` meets its contract.
-- Assumes nothing.
use Rattle.std.proofs.Common.{◌∙◌, sym, arith}
use Rattle.pages.proofs.Choice.{pick_next, pick_behind, ahead_lowest, pick_ahead, pick_found, pick_lowest}
use Rattle.pages.proofs.choose.Goals as goal
use Rattle.pages.proofs.choose.Goals.{in-Some+else-is_free-2+else-is_some, in_default}

pub returns-then-is_free : goal.returns-then-is_free
returns-then-is_free c =
    let n = c.next_of-next.ensures in
    sym (pick_next c.args.colour c.args.part.now c.args.from c.requires.0 c.requires.2 _ n.0 n.1 n.2 (sym c.if-is_free.ensures))

pub next_of-near-requires : goal.next_of-near-requires
next_of-near-requires c =
    let w = ahead_lowest c.args.colour c.args.part.now c.args.from c.requires.0 c.requires.2 _ (sym c.in-Some.ensures) in
    (omega (arith, w.end), c.requires.1)

pub returns-then-is_free-2 : goal.returns-then-is_free-2
returns-then-is_free-2 c =
    let n = c.next_of-near.ensures in
    sym (pick_ahead c.args.colour c.args.part.now c.args.from c.requires.0 c.requires.2 _ (sym c.in-Some.ensures) _ n.0 n.1 n.2 (sym c.if-is_free-2.ensures))

pub first_coloured-coloured-requires : goal.first_coloured-coloured-requires
first_coloured-coloured-requires c =
    let w = ahead_lowest c.args.colour c.args.part.now c.args.from c.requires.0 c.requires.2 _ (sym c.in-Some.ensures) in
    (omega (arith, w.end), omega arith, c.requires.1)

pub returns-then-is_some : goal.returns-then-is_some
returns-then-is_some c =
    pick_found c.args.colour c.args.part.now c.args.from c.requires.0 c.requires.2 _ (sym c.in-Some.ensures) _ (omega arith)
    _ c.first_coloured-coloured.ensures (sym c.is_some.ensures ∙ c.if-is_some.true)

pub returns : goal.returns
returns c =
    elim c.match-ahead.branch [
      | in-Some+else-is_free-2+else-is_some w ↦
          c.lowest_free.ensures
          ∙ sym
          (pick_lowest c.args.colour c.args.part.now c.args.from c.requires.0 c.requires.2 _ (sym w.in-Some.ensures) _ (omega arith)
          _ w.first_coloured-coloured.ensures (sym w.is_some.ensures ∙ w.if-is_some.false))
      | in_default w ↦ c.lowest_free.ensures ∙ sym (pick_behind c.args.colour c.args.part.now c.args.from c.requires.0 c.requires.2 (sym w.in_default.ensures))
    ]
