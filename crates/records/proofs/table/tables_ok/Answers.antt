-- `tables_ok` tests N and the length of the job table.
-- Assumes nothing.
use Rattle.rules.specs.Records.{job_table_ok}
use Rattle.rules.specs.Calls.{record_tables_ok}
use Rattle.records.proofs.table.tables_ok.Goals as goal

pub returns : goal.returns
unfolding record_tables_ok job_table_ok
returns c = cc
