-- `Job::with` puts a record together.
-- Assumes nothing.
use Prim.Native.Nat.{ℕ}
use mathlib.Core.Path.{◌≡◌}
use borrow.Author.Rules.{rules}
use lib.ListN.{length, get_or}
use mir.Syntax.{w8}
use mir.Val.{Fits}
use Rattle.records.specs.Jobs.{record_with, record_of}
use Rattle.records.proofs.Shifts.{packed}
use Rattle.records.proofs.job.Job.with.Goals as goal

pub returns : goal.returns
unfolding record_with record_of
returns c = let sixteen : length c.args.self.places ≡ 16 = search rules in
    let bytes : (k : ℕ) → Fits w8 (get_or c.args.self.places k 0) = λ k. search rules in
    rw (packed c.args.self.places _ _ sixteen (λ k. (bytes k).fits) c.pack.ensures c.pack-2.ensures)
