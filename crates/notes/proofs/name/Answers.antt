-- `name` hands back the part that `name_part` says.
-- Assumes nothing.
use mathlib.Core.Path.{ap, ◌∙◌}
use Rattle.rules.specs.Basics.{is_nil}
use Rattle.notes.proofs.Handed.{lent_part, empty_part}
use Rattle.notes.proofs.name.Goals as goal

pub returns : goal.returns
returns c = let e = lent_part c.args.note.now c.args.k _ _ c.name_part-part.ensures.part in
    record {
      part = e;
      empty = ap is_nil e ∙ empty_part c.args.note.now c.args.k;
    }
