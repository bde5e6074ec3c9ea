-- `Record::well_formed` tests a record as document 01 says.
-- Assumes nothing.
use mathlib.Core.Bool.{◌&&◌}
use mathlib.Core.Path.{◌≡◌, ◌∙◌}
use lib.Dec.{leb}
use Rattle.rules.specs.Records.{unused_zero}
use Rattle.rules.proofs.Lists.{both_true}
use Rattle.rules.proofs.WellFormed.{allowed_facts}
use Rattle.records.specs.Jobs.{record_of}
use Rattle.records.proofs.Tests.{first_tests, tested}
use Rattle.records.proofs.record.Record.well_formed.Goals as goal

pub returns-then-not-unused_zero-self : goal.returns-then-not-unused_zero-self
unfolding record_of
returns-then-not-unused_zero-self c = let first : first_tests c.args.nodes (record_of c.args.self) ≡
    (c.unused_zero.result && leb c.args.self.mode 6 && leb c.args.self.flag 2 && c.allowed_fits.result) = rw
    (c.unused_zero.ensures, c.allowed_fits.ensures) in
    rw (tested _ _, first ∙ c.if-not-unused_zero-self.true)

pub data_fits-requires : goal.data_fits-requires
unfolding record_of
data_fits-requires c = let first : first_tests c.args.nodes (record_of c.args.self) ≡
    (c.unused_zero.result && leb c.args.self.mode 6 && leb c.args.self.flag 2 && c.allowed_fits.result) = rw
    (c.unused_zero.ensures, c.allowed_fits.ensures) in
    let x = record_of c.args.self in
    let passed = first ∙ c.if-not-unused_zero-self.false in
    (allowed_facts c.args.nodes x (both_true {a = unused_zero x && leb x.mode 6 && leb x.flag 2} passed).1).1

pub returns : goal.returns
unfolding record_of
returns c = let first : first_tests c.args.nodes (record_of c.args.self) ≡
    (c.unused_zero.result && leb c.args.self.mode 6 && leb c.args.self.flag 2 && c.allowed_fits.result) = rw
    (c.unused_zero.ensures, c.allowed_fits.ensures) in
    rw (tested _ _, first ∙ c.if-not-unused_zero-self.false, c.data_fits.ensures, c.cursor_fits.ensures)
