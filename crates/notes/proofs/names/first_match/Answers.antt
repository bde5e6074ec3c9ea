-- `first_match` meets its contract: no name passed is the one looked for.
-- Assumes nothing.
use Rattle.std.proofs.Common.{refl, sym}
use Rattle.notes.proofs.Tables.{match_none, match_here, match_later}
use Rattle.notes.proofs.Words.{equal_is}
use Rattle.notes.proofs.names.first_match.Goals as goal

pub returns-then-eq : goal.returns-then-eq
returns-then-eq c = match_here _ _ _ _ c.loop-name.invariant _ _ c.in-Some.ensures (sym (equal_is _ _ _ _ c.if-eq.ensures refl))

pub loop-name-preserved : goal.loop-name-preserved
loop-name-preserved c = match_later _ _ _ _ c.loop-name.invariant _ _ c.in-Some.ensures (sym (equal_is _ _ _ _ c.if-eq.ensures refl))

pub returns : goal.returns
returns c = match_none _ _ _ _ c.loop-name.invariant c.in_default.ensures
