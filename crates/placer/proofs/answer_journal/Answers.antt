-- The record is accepted with its size.
use Rattle.std.proofs.Common.{sym, ap, ◌∙◌}
use Rattle.rules.specs.Answers.{decision_of}
use Rattle.journal.proofs.MachineRecord.{good_opening}
use Rattle.placer.proofs.answer_journal.Goals as goal

pub answer_records-requires : goal.answer_records-requires
answer_records-requires g c =
    let v = sym c.verdict.ensures ∙ ap decision_of c.in-Ok.is in
    rw (sym (good_opening _ v).size) v
