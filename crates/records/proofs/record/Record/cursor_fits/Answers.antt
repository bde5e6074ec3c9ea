-- `Record::cursor_fits` tests the cursor against its limit.
-- Assumes nothing.
use mathlib.Core.Path.{sym}
use Rattle.rules.specs.Records.{cursor_limit, cursor_fits}
use Rattle.records.specs.Jobs.{record_of}
use Rattle.records.proofs.record.Record.cursor_fits.Goals as goal

pub returns-in-NoCursor : goal.returns-in-NoCursor
unfolding cursor_limit cursor_fits record_of
returns-in-NoCursor c = rw (sym c.of.ensures, c.in-NoCursor.is)

pub returns-in-ANode : goal.returns-in-ANode
unfolding cursor_limit cursor_fits record_of
returns-in-ANode c = rw (sym c.of.ensures, c.in-ANode.is)

pub returns-in-APlace : goal.returns-in-APlace
unfolding cursor_limit cursor_fits record_of
returns-in-APlace c = rw (sym c.of.ensures, c.in-APlace.is)
