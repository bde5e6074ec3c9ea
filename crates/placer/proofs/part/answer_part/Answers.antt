-- The bytes kept and those that came are answered together.
use Rattle.std.proofs.Common.{true, false, refl, sym, arith, add-zero}
use Rattle.placer.proofs.Came.{turned}
use Rattle.placer.proofs.part.answer_part.Goals as goal

pub returns-in-Some : goal.returns-in-Some
returns-in-Some g c =
    turned c.args.input.now _ c.args.kept c.in-Some.came false (omega arith) refl c.answer_there.ensures

pub returns-in-None : goal.returns-in-None
returns-in-None g c = turned c.args.input.now _ c.args.kept 0 true (omega arith) (sym (add-zero c.args.kept)) c.answer_there-in-None.ensures
