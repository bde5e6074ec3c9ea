-- `Record::installed` makes the record that install stores.
-- Assumes nothing.
use Prim.Native.Nat.{ℕ}
use mathlib.Core.Path.{◌≡◌}
use borrow.Author.Rules.{rules}
use lib.ListN.{length, get_or}
use mir.Syntax.{w8}
use mir.Val.{Fits}
use Rattle.rules.specs.Records.{installed}
use Rattle.records.specs.Jobs.{record_of}
use Rattle.records.proofs.Numbers.{small_flag}
use Rattle.records.proofs.Shifts.{packed}
use Rattle.records.proofs.record.Record.installed.Goals as goal

pub returns : goal.returns
unfolding record_of installed
returns c p a = let sixteen : (length c.args.policy.places ≡ 16) × ((k : ℕ) → Fits w8 (get_or c.args.policy.places k 0)) = (search rules, λ k. search rules) in
    let number = c.of.ensures (small_flag c.args.policy.flag c.requires.2) in
    let have = sixteen in
    let stored = packed c.args.policy.places _ _ have.0 (λ k. (have.1 k).fits) c.pack.ensures c.pack-2.ensures in
    rw (a.same_mode, a.same_flag, a.same_user, a.same_len, a.same_places, c.effective-effective.ensures, number, stored)
