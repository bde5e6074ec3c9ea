-- `run_calls` meets its contract. The loop: i calls are done, and every table has its length.
-- Assumes nothing.
use Prim.Native.Nat.{ℕ}
use mathlib.Core.Path.{◌≡◌}
use mathlib.Core.List.{List}
use lib.ListN.{length}
use Rattle.rules.specs.Machine.{Machine}
use Rattle.rules.specs.Calls.{Tables, tables_of}
use Rattle.machine.specs.Tables.{machine_of}
use Rattle.rules.proofs.InOrder.{SameLengths}
use Rattle.placement.specs.Hints.{Hints}
use Rattle.replay.proofs.Run.{Done}
use Rattle.replay.proofs.run_calls.Given as goal

pub record Held (m : Machine) (t₀ : Tables) (calls answers₀ : List ℕ) (n : ℕ) (t : Tables) (answers hints list : List ℕ) (i : ℕ)
    : Type 0 where
  pub long : SameLengths t₀ t
  pub long-answers : length answers ≡ length answers₀
  pub long-list : length list ≡ 64
  pub hinted : Hints m.page_counts t.ledger hints
  pub done : Done m t₀ calls answers₀ i t answers

abbrev pub invariant-loop-i : goal.invariant-loop-i
invariant-loop-i l = Held (machine_of l.layout.counts.now l.cpus l.distances) (tables_of l.initial.pages l.initial.jobs l.initial.free l.initial.maps) l.calls
    l.initial.answers l.n (tables_of l.pages l.jobs l.free l.maps) l.answers l.hints l.list l.i
