-- `run_calls` meets its contract. The loop: i calls are done, and every table has its length.
-- Assumes nothing.
use Prim.Native.Nat.{ℕ, ◌<◌}
use mathlib.Core.Path.{◌≡◌, refl, ap, ◌∙◌}
use mathlib.Core.List.{List}
use native.Mathlib.Omega.{arith}
use lib.ListN.{length, length-set}
use Rattle.rules.specs.Machine.{Machine}
use Rattle.rules.specs.Calls.{Tables, tables_of}
use Rattle.machine.specs.Tables.{machine_of}
use Rattle.rules.proofs.Decisions.{accepted_some}
use Rattle.rules.proofs.InOrder.{same_lengths, lengths_then, same_lengths_ok}
use Rattle.placement.proofs.Hints.{zero_hints}
use Rattle.replay.specs.Encoding.{call_in, call_count, words_of}
use Rattle.replay.proofs.Words.{part_words, call_ok}
use Rattle.replay.proofs.Run.{begun, advance, accepted, finished}
use Rattle.replay.proofs.run_calls.Goals as goal

pub loop-i-init : goal.loop-i-init
loop-i-init c = record {
  long = same_lengths;
  long-answers = refl;
  long-list = refl;
  hinted = zero_hints _ _ 320;
  done = begun _ _ _ _;
}

pub perform-answer-requires : goal.perform-answer-requires
perform-answer-requires c = let tables : Tables = tables_of c.args.pages.now c.args.jobs.now c.args.free.now c.args.maps.now in
    (same_lengths_ok _ tables _ c.loop-i.invariant.long c.requires.0, c.loop-i.invariant.hinted)

pub loop-i-preserved : goal.loop-i-preserved
loop-i-preserved c = let machine : Machine = machine_of c.args.layout.counts.now c.args.cpus.now c.args.distances.now in
    let tables : Tables = tables_of c.args.pages.now c.args.jobs.now c.args.free.now c.args.maps.now in
    let words : List ℕ = c.args.calls.now in
    let list-long : length c.read_call-read.new.list ≡ 64 = c.read_call-read.ensures.long in
    let more : c.loop-i.i < call_count words = c.loop-i-test.true in
    let x = accepted_some (call_in (words_of words c.loop-i.i)) (call_ok words c.loop-i.i c.requires.1 more) in
    let says = c.read_call-read.ensures.says x.0 (ap call_in (part_words words c.loop-i.i) ∙ x.1) in
    record {
      long = lengths_then c.loop-i.invariant.long (record {
        ledger = c.perform-answer.auto.pages;
        records = c.perform-answer.auto.jobs;
        free = c.perform-answer.auto.free;
        maps = c.perform-answer.auto.maps;
      });
      long-answers = simp length-set c.loop-i.invariant.long-answers;
      long-list = list-long;
      hinted = c.perform-answer.ensures.kept;
      done = advance machine tables words c.args.answers.now c.loop-i.i _ _ x.0 _ _ _ x.1 (omega (arith, c.requires.2)) c.loop-i.invariant.done
          (c.perform-answer.ensures.did x.0 says) c.answer_word.ensures;
    }

pub returns : goal.returns
returns c = let machine : Machine = machine_of c.args.layout.counts.now c.args.cpus.now c.args.distances.now in
    let tables : Tables = tables_of c.args.pages.now c.args.jobs.now c.args.free.now c.args.maps.now in
    let words : List ℕ = c.args.calls.now in
    let all : c.loop-i.i ≡ call_count words = omega (arith, c.loop-i-test.false) in
    finished machine tables words c.args.answers.now _ _
    (accepted machine tables words _ c.requires.0 c.requires.1 c.requires.2) (rw all at c.loop-i.invariant.done)
