-- `split_string` meets its contract: the string ends at the first zero.
-- Assumes nothing.
use Rattle.std.proofs.Common.{◌+◌, arith, refl}
use Rattle.notes.proofs.Words.{strings_none, split_at, rest_is}
use Rattle.notes.proofs.list.split_string.Goals as goal

pub returns-then-end-bytes : goal.returns-then-end-bytes
returns-then-end-bytes c = strings_none _ (omega (arith, c.end_of-end.ensures.end, c.if-end-bytes.true))

pub returns : goal.returns
returns c = let end = c.end_of-end.ensures in split_at _ _ _ _ end.end end.within c.if-end-bytes.false refl (rest_is c.args.bytes.now (c.end_of-end.result + 1))
