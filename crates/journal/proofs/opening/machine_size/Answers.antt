-- `machine_size` adds up the parts of the record.
-- Assumes nothing.
use Rattle.rules.specs.Journal.{machine_size}
use Rattle.journal.proofs.opening.machine_size.Goals as goal

pub returns : goal.returns
unfolding machine_size
returns c = rw (c.byte_at-n.ensures.0, c.byte_at-cpus.ensures.0)
