-- `whole` asks for as many bytes as the kind has.
-- Assumes nothing.
use native.Mathlib.Omega.{arith}
use Rattle.journal.specs.Parts.{is_whole}
use Rattle.journal.proofs.Records.{short_left}
use Rattle.journal.proofs.record.whole.Goals as goal

pub returns-then-bytes-lt-SHORTEST : goal.returns-then-bytes-lt-SHORTEST
returns-then-bytes-lt-SHORTEST c = record { tells = short_left _ c.if-bytes-lt-SHORTEST.true; long = λ e. cc }

pub returns : goal.returns
unfolding is_whole
returns c = record { tells = rw c.size_of.ensures; long = λ e. omega arith }
