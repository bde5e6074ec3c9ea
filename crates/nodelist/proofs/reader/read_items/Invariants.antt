-- The loop's invariant: to read on from here is to read the whole.
-- Assumes nothing.
use Rattle.std.specs.Prelude.{◌≡◌, drop}
use Rattle.nodelist.specs.Reader.{Fits, read_on}
use Rattle.nodelist.proofs.reader.read_items.Given as goal

abbrev pub invariant-loop-x : goal.invariant-loop-x
invariant-loop-x l = Fits l.limit l.at.item × (read_on l.limit l.initial.at l.text ≡ read_on l.limit l.at (drop l.x-index l.text))
