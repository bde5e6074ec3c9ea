-- `part` copies the bytes at the place.
-- Assumes nothing.
use Prim.Native.Nat.{ℕ}
use mathlib.Core.Path.{ap, ◌∙◌}
use native.Mathlib.Nat.{add-sub_cancel_left}
use lib.ListN.{take, drop}
use Rattle.rules.specs.Journal.{part}
use Rattle.journal.proofs.reading.part.Goals as goal

pub returns : goal.returns
unfolding part
returns g c =
    c.copy_from_slice.ensures.after
    ∙ ap (λ (n : ℕ). take n (drop c.args.at c.args.bytes.now)) (add-sub_cancel_left c.args.at g.row.N)
