-- `run_records` does one record after the other: those done and the part still to come are the part of the whole input.
-- Assumes nothing.
use Prim.Native.Nat.{◌-◌}
use mathlib.Core.Path.{◌≡◌}
use lib.ListN.{length}
use Rattle.rules.specs.Calls.{tables_of}
use Rattle.machine.specs.Tables.{machine_of}
use Rattle.placement.specs.Hints.{Hints}
use Rattle.rules.proofs.InOrder.{SameLengths}
use Rattle.journal.proofs.Output.{Held}
use Rattle.journal.proofs.run.run_records.Given as goal

abbrev pub invariant-loop-output : goal.invariant-loop-output
invariant-loop-output l = let t₀ = tables_of l.initial.pages l.initial.jobs l.initial.free l.initial.maps in
    let t = tables_of l.pages l.jobs l.free l.maps in
    SameLengths t₀ t × (length l.output ≡ length l.initial.output) × Held (machine_of l.layout.counts.now l.cpus l.distances) t₀ l.input l.ended
    l.initial.output t l.output l.written l.at
    × Hints l.layout.counts.now l.pages l.hints

abbrev pub decreases-loop-output : goal.decreases-loop-output
decreases-loop-output l = length l.input - l.at
