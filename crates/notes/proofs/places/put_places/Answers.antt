-- `put_places` meets its contract: the line holds the places of the names passed.
-- Assumes nothing.
use Rattle.notes.proofs.NamePlaces.{turned_start, turned_last, turned_unknown, turned_next}
use Rattle.notes.proofs.places.put_places.Goals as goal

pub loop-word-init : goal.loop-word-init
loop-word-init c = turned_start _ _ _ _ c.requires.1 c.requires.2

pub returns-in_default-place_of : goal.returns-in_default-place_of
returns-in_default-place_of c =
    let both = turned_unknown _ _ _ _ _ _ c.loop-word.invariant _ _ c.in-Some.ensures c.in_default-place_of.ensures in
    record { len = both.0; places = both.1 }

pub loop-word-preserved : goal.loop-word-preserved
loop-word-preserved c = turned_next _ _ _ _ _ _ c.loop-word.invariant _ _ c.in-Some.ensures _ c.in-Some-place_of.ensures

pub returns : goal.returns
returns c = let both = turned_last _ _ _ _ _ _ c.loop-word.invariant c.in_default.ensures in
    record { len = both.0; places = both.1 }
