-- `store_cursor` writes word 0 of a job.
-- Assumes nothing.
use Prim.Native.Nat.{ℕ, ◌%◌, ◌*◌, ◌^◌, ◌<◌}
use mathlib.Core.Path.{sym}
use native.Mathlib.Nat.{add-zero}
use native.Mathlib.Omega.{arith}
use lib.Bits.{and_mask}
use lib.ListN.{get_or}
use Rattle.rules.proofs.Records.{put_turn}
use Rattle.records.specs.Jobs.{turn_of}
use Rattle.records.proofs.Shifts.{joined}
use Rattle.records.proofs.table.store_cursor.Goals as goal

pub returns : goal.returns
returns c = let w = get_or c.args.jobs.now (6 * c.args.job) 0 in
    let wide : (k : ℕ) → get_or c.args.jobs.now k 0 < 2 ^ 64 = λ k. omega (arith, c.slice_known-1.given k) in
    rw (and_mask w 24, joined c.args.cursor (w % 2 ^ 24) 24 (omega arith) (omega arith))
    (simp add-zero at (sym (put_turn c.args.jobs.now c.args.job (turn_of c.args.cursor) wide)))
