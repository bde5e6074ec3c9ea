-- `run_record` performs the call that is read, or answers that the record is damaged.
-- Assumes nothing.
use mathlib.Core.List.{[]}
use native.Mathlib.Omega.{arith}
use Rattle.book.specs.Says.{Says}
use Rattle.journal.proofs.Records.{is_good, is_damaged, good_record}
use Rattle.journal.proofs.Output.{record_done, record_damaged}
use Rattle.journal.proofs.run.run_record.Goals as goal

pub places_in-places-requires : goal.places_in-places-requires
places_in-places-requires c =
    let good = is_good _ c.in-Some.is c.read_record.ensures in
    let g = good_record _ good.is in omega (arith, g.least, g.within)

pub returns-in-Some : goal.returns-in-Some
returns-in-Some c =
    let good = is_good _ c.in-Some.is c.read_record.ensures in
    let says : Says c.in-Some.entry.call c.places_in-places.result [] good.law = rw c.places_in-places.ensures good.says in
    let did = c.perform-answer.ensures.did good.law says in
    record {
      did = record_done _ _ _ _ good.is did c.line-bytes.ensures c.copy.ensures.count c.copy.ensures.bytes;
      kept = c.perform-answer.ensures.kept;
    }

pub returns-in-None : goal.returns-in-None
returns-in-None c =
    let damage = is_damaged _ c.in-None.is c.read_record.ensures in
    record {
      did = record_damaged _ _ _ _ damage c.fault-bytes.ensures c.copy-in-None.ensures.count c.copy-in-None.ensures.bytes;
      kept = c.requires.2;
    }
