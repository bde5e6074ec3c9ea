-- `run_records` does one record after the other: those done and the part still to come are the part of the whole input.
-- Assumes nothing.
use native.Mathlib.Omega.{arith}
use borrow.Author.Rules.{rules}
use borrow.Author.Tests.{not-true, not-false}
use Rattle.rules.proofs.InOrder.{lengths_then, same_lengths_ok}
use Rattle.journal.proofs.Output.{finished, lent_room, came, advanced, stopped}
use Rattle.journal.proofs.run.run_records.Goals as goal

pub run_record-one-requires : goal.run_record-one-requires
run_record-one-requires c = let i = c.loop-output.invariant in (
  same_lengths_ok _ _ _ i.0 c.requires.0,
  lent_room i.2 c.ready.ensures c.loop-output-test.true,
  i.3,
)

pub overflow_add-at : goal.overflow_add-at
overflow_add-at c = let far = came c.loop-output.invariant.2 c.ready.ensures c.loop-output-test.true _ c.run_record-one.ensures.did in search rules

pub overflow_add-written : goal.overflow_add-written
overflow_add-written c = let far = came c.loop-output.invariant.2 c.ready.ensures c.loop-output-test.true _ c.run_record-one.ensures.did in search rules

pub returns-then-not-one : goal.returns-then-not-one
returns-then-not-one c =
    stopped c.loop-output.invariant.2 c.ready.ensures c.loop-output-test.true _ c.run_record-one.ensures.did (not-true _ c.if-not-one.true)

pub loop-output-smaller : goal.loop-output-smaller
loop-output-smaller c =
    let far = came c.loop-output.invariant.2 c.ready.ensures c.loop-output-test.true _ c.run_record-one.ensures.did in
    omega (arith, far.0, far.2 (not-false _ c.if-not-one.false))

pub loop-output-preserved : goal.loop-output-preserved
loop-output-preserved c = (
  lengths_then c.loop-output.invariant.0 (record {
    ledger = c.run_record-one.auto.pages;
    records = c.run_record-one.auto.jobs;
    free = c.run_record-one.auto.free;
    maps = c.run_record-one.auto.maps;
  }),
  search rules,
  advanced c.loop-output.invariant.2 c.ready.ensures c.loop-output-test.true _ c.run_record-one.ensures.did (not-false _ c.if-not-one.false),
  c.run_record-one.ensures.kept,
)

pub returns : goal.returns
returns c = finished c.loop-output.invariant.2 c.ready.ensures c.loop-output-test.false
