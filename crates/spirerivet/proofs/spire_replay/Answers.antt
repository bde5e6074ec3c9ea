-- `spire_replay` tells what `replay` did.
-- Assumes nothing.
use Rattle.spirerivet.proofs.Told.{told_run_lem, ran_at_zero}
use borrow.Author.Rules.{rules}
use Rattle.spirerivet.proofs.spire_replay.Goals as goal

pub returns : goal.returns
returns c = let said = c.from.ensures in
    record {
      ran = told_run_lem said c.replay.ensures.ran;
      fair = c.replay.ensures.fair;
      ledger = λ k e z. c.replay.ensures.ledger k _ e (ran_at_zero c.replay.result said z);
    }
