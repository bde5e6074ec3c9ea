-- `admit_mapped` meets its contract: each refusal in its turn.
-- Assumes nothing.
use Prim.Native.Nat.{ℕ}
use mathlib.Core.Path.{◌≡◌, sym, ap, ◌∙◌}
use borrow.Author.Tests.{lt-ltb}
use Rattle.rules.specs.Masks.{both}
use Rattle.rules.specs.Records.{Record, well_formed}
use Rattle.records.specs.Jobs.{record_of}
use Rattle.placement.proofs.admit_mapped.Goals as goal

-- all passed
pub returns : goal.returns
unfolding record_of
returns c = let set : ℕ = c.args.set.0 in
    let second : c.both-limit.result.0 ≡ both c.load-record.result.allowed.0 set = c.both-limit.ensures in record {
      tested = rw (
        lt-ltb _ _ c.if-cpu-cpus.false,
        ap (well_formed _) (sym c.load-record.ensures) ∙ sym c.well_formed-2.ensures ∙ c.if-not-well_formed.false,
        c.load-record.ensures,
      );
      limit = second ∙ ap (λ (r : Record). both r.allowed set) c.load-record.ensures;
    }
