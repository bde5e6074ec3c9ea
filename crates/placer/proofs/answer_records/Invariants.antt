-- Tables that keep their lengths stay in order.
use Rattle.std.proofs.Common.{◌≡◌, ◌≤◌, length}
use Rattle.rules.specs.Calls.{tables_of}
use Rattle.rules.proofs.InOrder.{SameLengths}
use Rattle.placer.proofs.answer_records.Given as goal

abbrev pub invariant-loop : goal.invariant-loop
invariant-loop g l = record {
  same : SameLengths (tables_of l.initial.pages l.initial.jobs l.initial.free l.initial.maps) (tables_of l.pages l.jobs l.free l.maps);
  input : 65536 ≡ length l.input;
  output : 24588 ≡ length l.output;
  kept : l.kept ≤ 65536;
}
