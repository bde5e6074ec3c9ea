-- `lists::too_long` meets its contract: a list of more numbers than a map has entries is no good list.
-- Assumes nothing.
use mathlib.Core.Path.{sym, ◌∙◌}
use Rattle.rules.specs.Calls.{applied, keep_decision, set_map_decision, on_keep, on_set_map}
use Rattle.rules.proofs.Mapped.{long_kept, long_list}
use Rattle.book.proofs.lists.too_long.Goals as goal

-- no such job
pub returns-then-not-has_job : goal.returns-then-not-has_job
unfolding applied keep_decision set_map_decision on_keep on_set_map
returns-then-not-has_job c n t all e ok long = let none = sym c.has_job.ensures ∙ c.if-not-has_job.true in
    (rw (e, ok, none), rw (e, ok, none))

-- no good list
pub returns : goal.returns
unfolding applied keep_decision set_map_decision on_keep on_set_map
returns c n t all e ok long = let there = sym c.has_job.ensures ∙ c.if-not-has_job.false in
    (rw (e, ok, there, long_kept n t _ all long), rw (e, ok, there, long_list n all long))
