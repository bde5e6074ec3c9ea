-- `write_note` meets its contract: refusal by refusal; good lists are at most 256 bytes long, so no sum can wrap.
-- Assumes nothing.
use Rattle.std.proofs.Common.{arith}
use Rattle.notes.proofs.GoodLists.{list_short}
use Rattle.notes.proofs.Writes.{write_bad_text, write_bad_data, write_short, write_done}
use Rattle.notes.proofs.write_note.Goals as goal

pub returns-in_default : goal.returns-in_default
returns-in_default c = write_bad_text _ _ _ c.in_default.ensures

pub returns-in_default-count : goal.returns-in_default-count
returns-in_default-count c = write_bad_data _ _ _ c.in-Some.ensures.0 c.in_default-count.ensures

pub overflow_add-size-2 : goal.overflow_add-size-2
overflow_add-size-2 c = omega (arith, list_short _ c.in-Some.ensures.0, list_short _ c.in-Some-count.ensures.0)

pub returns-then-out-size : goal.returns-then-out-size
returns-then-out-size c = write_short _ _ _ c.in-Some.ensures.0 c.in-Some-count.ensures.0 c.if-out-size.true

pub returns : goal.returns
returns c = let text = c.in-Some.ensures in let datas = c.in-Some-count.ensures in
    write_done _ _ _ text.0 datas.0 _ _ _ c.if-out-size.false text.1 datas.1 c.put_note.ensures
