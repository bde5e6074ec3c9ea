-- `put_places`: the line holds the places of the names passed.
-- Assumes nothing.
use Rattle.std.proofs.Common.{length}
use Rattle.rules.specs.Maps.{nodes_in}
use Rattle.rules.specs.Notes.{strings}
use Rattle.notes.proofs.NamePlaces.{Turned}
use Rattle.notes.proofs.places.put_places.Given as goal

abbrev pub invariant-loop-word : goal.invariant-loop-word
invariant-loop-word l = Turned (strings l.table) (nodes_in l.map) l.list l.left l.line l.n

abbrev pub decreases-loop-word : goal.decreases-loop-word
decreases-loop-word l = length l.left
