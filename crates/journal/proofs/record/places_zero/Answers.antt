-- `places_zero` tests the places eight at a time.
-- Assumes nothing.
use Rattle.journal.proofs.Unused.{places_low, places_past}
use Rattle.journal.proofs.record.places_zero.Goals as goal

pub returns-then-len-lt8 : goal.returns-then-len-lt8
returns-then-len-lt8 c = rw (c.zero_from.ensures, c.zero_from-then-len-lt8.ensures) (places_low c.args.bytes.now c.requires c.args.len c.if-len-lt8.true)

pub returns : goal.returns
returns c = places_past c.args.bytes.now c.requires c.args.len c.if-len-lt16.false
