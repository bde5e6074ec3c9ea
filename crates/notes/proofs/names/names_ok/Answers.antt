-- `names_ok` meets its contract: the table is good if its names passed and its rest are.
-- Assumes nothing.
use Rattle.std.proofs.Common.{◌∙◌, arith, sym}
use Rattle.notes.proofs.Tables.{rest_start, rest_last, rest_bad, rest_good}
use Rattle.notes.proofs.names.names_ok.Goals as goal

pub loop-name-init : goal.loop-name-init
loop-name-init c = record { room = omega arith; good = rest_start _ _ }

pub returns-then-not-name_ok : goal.returns-then-not-name_ok
returns-then-not-name_ok c = sym (c.loop-name.invariant.good ∙ rest_bad _ _ _ _ _ c.in-Some.ensures (sym c.if-not-name_ok.ensures))

pub loop-name-preserved : goal.loop-name-preserved
loop-name-preserved c = let v = c.loop-name.invariant in record {
  room = omega (arith, v.room, c.in-Some.ensures.size);
  good = v.good ∙ rest_good _ _ _ _ _ c.in-Some.ensures (sym c.if-not-name_ok.ensures);
}

pub returns : goal.returns
returns c = rest_last _ _ _ _ c.is_empty.ensures c.in_default.ensures ∙ sym c.loop-name.invariant.good
