-- `install_at` installs for a job whose map is good.
-- Assumes nothing.
use Prim.Native.Nat.{◌+◌, ◌*◌, ◌≤◌}
use mathlib.Core.Bool.{true}
use mathlib.Core.Path.{◌≡◌, sym, ◌∙◌}
use borrow.Author.Tests.{ltb-true}
use lib.ListN.{length}
use Rattle.rules.specs.Maps.{map_size}
use Rattle.rules.specs.Calls.{with_jobs, map_of, is_job, is_mapped, applied, install_decision, on_install}
use Rattle.rules.proofs.InOrder.{mapped_map}
use Rattle.rules.proofs.Kept.{mapped_nodes}
use Rattle.rules.proofs.Maps.{map_long}
use Rattle.records.proofs.Judged.{install_judged}
use Rattle.records.proofs.install_at.Goals as goal
use Rattle.records.proofs.install_at.Goals.{Else-not-has_job}

-- the job is one of the table's
found : (c : Else-not-has_job) → is_job c.args.jobs.now c.args.job ≡ true
found c = sym c.has_job.ensures ∙ c.if-not-has_job.false

-- so it has a map in the table of maps
in_table : (c : Else-not-has_job) → map_size * c.args.job + map_size ≤ length c.args.maps.now
in_table c = mapped_map c.args.nodes (length c.args.jobs.now) (length c.args.maps.now) c.args.job c.requires (found c)

pub returns-then-not-has_job : goal.returns-then-not-has_job
unfolding applied install_decision on_install
returns-then-not-has_job c t p a = rw (c.requires, sym c.has_job.ensures ∙ c.if-not-has_job.true)

pub of_job-bytes-requires : goal.of_job-bytes-requires
of_job-bytes-requires c = in_table c

pub judge-requires : goal.judge-requires
judge-requires c = let few = mapped_nodes _ (length c.args.jobs.now) (length c.args.maps.now) c.requires in
    (few.0, few.1, rw c.of_job-bytes.ensures (map_long _ _ (in_table (goal.at.judge-requires c).Else-not-has_job)))

pub returns-in_default : goal.returns-in_default
unfolding is_mapped applied install_decision on_install
returns-in_default c t p a = rw (c.requires, found (goal.at.returns-in_default c).Else-not-has_job, sym c.of_job-bytes.ensures, c.in_default.ensures)

pub install_mapped-requires : goal.install_mapped-requires
install_mapped-requires c = let few = mapped_nodes _ (length c.args.jobs.now) (length c.args.maps.now) c.requires in
    (ltb-true _ _ (found (goal.at.install_mapped-requires c).Else-not-has_job), few.1, c.in-Some.ensures.0)

pub returns : goal.returns
unfolding map_of is_mapped on_install
returns c t p a = let old = with_jobs t c.args.jobs.now c.args.maps.now in
    let good : is_mapped c.args.nodes old c.args.job ≡ true = rw (sym c.of_job-bytes.ensures) c.in-Some.ensures.0 in
    rw (install_judged c.args.nodes old c.args.job c.requires (found (goal.at.returns c).Else-not-has_job) good p, sym c.of_job-bytes.ensures)
    (c.install_mapped.ensures old p a)
