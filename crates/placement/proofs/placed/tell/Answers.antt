-- `placed::tell` meets its contract, case by case.
-- Assumes nothing.
use mathlib.Core.Path.{ap, ◌∙◌}
use lib.ListN.{length}
use Rattle.rules.proofs.Maps.{map_long}
use Rattle.placement.proofs.placed.tell.Goals as goal

pub named-requires : goal.named-requires
named-requires c = ap length c.of_job-bytes.ensures ∙ map_long _ _ (rw (c.in_ok-node.was, c.in-Granted.is) at c.requires)

pub named-requires-in-Released : goal.named-requires-in-Released
named-requires-in-Released c =
    ap length c.of_job-bytes-in-Released.ensures ∙ map_long _ _ (rw (c.in_ok-node.was, c.in-Released.is) at c.requires)
