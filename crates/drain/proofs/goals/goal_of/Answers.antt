-- `goals::goal_of` meets its contract.
-- Assumes nothing.
use Prim.Native.Nat.{◌-◌}
use mathlib.Core.Path.{sym, ◌∙◌}
use mathlib.Core.Bool.{true≢false}
use native.Mathlib.Omega.{arith}
use borrow.Author.Rules.{rules}
use Rattle.drain.specs.Goals.{goal_by}
use Rattle.drain.proofs.Open.{goal_none, goal_some, kept_found, met_on, met_now}
use Rattle.drain.proofs.Moved.{past_movers}
use Rattle.drain.proofs.goals.goal_of.Goals as goal

-- no job has the byte
pub returns-then-byte-gt-MOST_JOBS-clause-goes : goal.returns-then-byte-gt-MOST_JOBS-clause-goes
unfolding goal_by
returns-then-byte-gt-MOST_JOBS-clause-goes c = let t = c.args.targets in
    rw (past_movers c.args.nodes t.jobs.now t.maps.now (c.args.byte - 1) c.requires.0 (omega arith))

pub returns-then-byte-gt-MOST_JOBS-clause-met : goal.returns-then-byte-gt-MOST_JOBS-clause-met
returns-then-byte-gt-MOST_JOBS-clause-met c may = let t = c.args.targets in
    absurd (true≢false (sym may ∙ past_movers c.args.nodes t.jobs.now t.maps.now (c.args.byte - 1) c.requires.0 (omega arith)))

-- its pages may not be moved
pub returns-in_err-job-clause-goes : goal.returns-in_err-job-clause-goes
unfolding goal_by
returns-in_err-job-clause-goes c = rw (c.from_residual.ensures, c.in_err-job.ensures)

pub returns-in_err-job-clause-met : goal.returns-in_err-job-clause-met
returns-in_err-job-clause-met c may = absurd (true≢false (sym may ∙ c.in_err-job.ensures))

-- no node is open
pub returns-in_err-found-clause-goes : goal.returns-in_err-found-clause-goes
returns-in_err-found-clause-goes c = let job = c.in_ok-job.ensures c.args.targets.order.now c.args.free.now c.requires.3 in
    rw c.from_residual-in_err-found.ensures (goal_none job c.in_err-found.ensures)

pub returns-in_err-found-clause-kept : goal.returns-in_err-found-clause-kept
returns-in_err-found-clause-kept c = let job = c.in_ok-job.ensures c.args.targets.order.now c.args.free.now c.requires.3 in
    met_on (search rules) c.requires.3 (kept_found job c.next_open-found.result c.unwrap_or.ensures c.next_open-found.ensures)

pub returns-in_err-found-clause-met : goal.returns-in_err-found-clause-met
returns-in_err-found-clause-met c may = met_now c.requires.3 c.args.byte (record { limit = c.in_ok-job.job.limit; from = c.unwrap_or.result }) (omega arith)

-- one is
pub returns-clause-goes : goal.returns-clause-goes
returns-clause-goes c = let job = c.in_ok-job.ensures c.args.targets.order.now c.args.free.now c.requires.3 in
    let at = c.in_ok-found.ensures in
    goal_some job at.2 at.1 at.3

pub returns-clause-kept : goal.returns-clause-kept
returns-clause-kept c = let job = c.in_ok-job.ensures c.args.targets.order.now c.args.free.now c.requires.3 in
    met_on (search rules) c.requires.3 (kept_found job c.next_open-found.result c.unwrap_or.ensures c.next_open-found.ensures)

pub returns-clause-met : goal.returns-clause-met
returns-clause-met c may = met_now c.requires.3 c.args.byte (record { limit = c.in_ok-job.job.limit; from = c.unwrap_or.result }) (omega arith)
