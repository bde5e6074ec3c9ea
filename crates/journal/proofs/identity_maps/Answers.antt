-- `identity_maps` makes the table entry by entry.
-- Assumes nothing.
use Prim.Native.Nat.{ℕ}
use mathlib.Core.Path.{◌≡◌, sym, subst, ◌∙◌}
use native.Mathlib.Omega.{arith}
use lib.ListN.{take, length-set}
use lib.Seq.{take_all}
use Rattle.rules.specs.Records.{most_jobs}
use Rattle.rules.specs.Maps.{identity_maps}
use Rattle.journal.proofs.IdentityMaps.{identity_long, identity_step}
use Rattle.journal.proofs.identity_maps.Goals as goal

pub loop-i-preserved : goal.loop-i-preserved
loop-i-preserved c = (
  simp length-set c.loop-i.invariant.0,
  identity_step c.args.nodes c.requires most_jobs c.loop-i.i c.loop-i.entry-items c.loop-i.invariant.0 (omega arith) c.identity_entry.ensures
      c.loop-i.invariant.1,
)

pub returns : goal.returns
returns c = let all : c.loop-i.i ≡ 4096 = omega arith in
    sym (take_all 4096 c.loop-i.entry-items (omega (arith, c.loop-i.invariant.0)))
    ∙ subst (λ (k : ℕ). take k c.loop-i.entry-items ≡ take k (identity_maps c.args.nodes most_jobs)) all c.loop-i.invariant.1
    ∙ take_all 4096 (identity_maps c.args.nodes most_jobs) (omega (arith, identity_long c.args.nodes c.requires most_jobs))
