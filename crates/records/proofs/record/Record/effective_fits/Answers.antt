-- `Record::effective_fits` tests the effective mask by the flag.
-- Assumes nothing.
use Rattle.rules.specs.Records.{effective_fits}
use Rattle.records.specs.Jobs.{record_of}
use Rattle.records.proofs.Numbers.{no_flag_fits}
use Rattle.records.proofs.record.Record.effective_fits.Goals as goal

pub returns-in-0 : goal.returns-in-0
unfolding effective_fits record_of
returns-in-0 c = rw (c.in-0.is, c.below.ensures, c.is_empty.ensures, c.within.ensures)

pub returns-in-1 : goal.returns-in-1
unfolding effective_fits record_of
returns-in-1 c = rw (c.in-1.is, c.below-in-1.ensures, c.eq.ensures, c.both.ensures)

pub returns-in-2 : goal.returns-in-2
unfolding effective_fits record_of
returns-in-2 c = rw (c.in-2.is, c.eq-in-2.ensures, c.folded.ensures)

pub returns-in_default : goal.returns-in_default
unfolding effective_fits record_of
returns-in_default c = no_flag_fits c.args.nodes (record_of c.args.self) c.args.self.flag c.in_default.in_default-own.rest.0.0.1
    c.in_default.in_default-own.rest.0.1 c.in_default.in_default-own.rest.1
