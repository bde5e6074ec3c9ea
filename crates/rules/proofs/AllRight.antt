-- Each example of the ten tables is right. (Files are checked by name, and what they use first: so a rule that breaks an example is refused
-- at the table, which computes, before any proof.)
-- Assumes nothing.
use mathlib.Core.Path.{◌≡◌, refl}
use mathlib.Core.Bool.{Bool, true, false}
use mathlib.Core.List.{◌++◌}
use lib.Dec.{T}
use Rattle.rules.specs.Examples as marked
use Rattle.rules.specs.MoreExamples as more
use Rattle.rules.specs.CountExamples as counts
use Rattle.rules.specs.NearExamples as nears
use Rattle.rules.specs.MapExamples as maps
use Rattle.rules.specs.ClosingExamples as closing
use Rattle.rules.specs.NoteExamples as notes
use Rattle.rules.specs.ColourExamples as colours
use Rattle.rules.specs.ReasonExamples as reasons
use Rattle.rules.specs.DrainExamples as drains
use Rattle.rules.proofs.Lists.{◌∈◌, all_true}

-- a computed test that holds
pub is_true : (b : Bool) → T b → b ≡ true
is_true true t = refl
is_true false t = absurd t

-- "Those marked T are proved together"
pub marked_right : {e : marked.Example} → e ∈ marked.table → marked.right e ≡ true
marked_right h = all_true marked.right (is_true _ marked.all_right) h

-- the examples not marked T, "Easy ways to get it wrong", and one for each rule that those marked T leave open
pub more_right : {e : more.Example} → e ∈ (more.texts ++ more.runs ++ more.refusals ++ more.records ++ more.journals) → more.right e ≡ true
more_right h = all_true more.right (is_true _ more.all_right) h

-- M-100 by examples
pub counts_right : {e : counts.Example} → e ∈ counts.table → counts.right e ≡ true
counts_right h = all_true counts.right (is_true _ counts.all_right) h

-- M-102 by examples
pub near_right : {e : nears.Example} → e ∈ nears.table → nears.right e ≡ true
near_right h = all_true nears.right (is_true _ nears.all_right) h

-- M-103 by examples
pub maps_right : {e : maps.Example} → e ∈ (maps.turns ++ maps.limits ++ maps.bad_maps ++ maps.settings) → maps.right e ≡ true
maps_right h = all_true maps.right (is_true _ maps.all_right) h

-- M-104's closing place by examples
pub closing_right : {e : maps.Example} → e ∈ (closing.closings ++ closing.elsewhere) → maps.right e ≡ true
closing_right h = all_true maps.right (is_true _ closing.all_right) h

-- and its notes: notes and tables judged, names handed back, lists turned into places, notes written
pub notes_right : {e : notes.Example} → e ∈ (notes.judged ++ notes.handed ++ notes.turned ++ notes.written) → notes.right e ≡ true
notes_right h = all_true notes.right (is_true _ notes.all_right) h

-- M-105 by examples: 01's pages for jobs 1, 2, 3 and 5, and nodes of more than four pages
pub colours_right : {e : colours.Example} → e ∈ (colours.on_a ++ colours.on_wide) → colours.right e ≡ true
colours_right h = all_true colours.right (is_true _ colours.all_right) h

-- M-106 by examples: modes 0 to 3, modes 4 to 6, counts that do not match, refusals
pub reasons_right : {e : reasons.Example} → e ∈ (reasons.by_near ++ reasons.by_places ++ reasons.by_counts ++ reasons.refusals) → reasons.right e ≡ true
reasons_right h = all_true reasons.right (is_true _ reasons.all_right) h

-- M-107 by examples: where pages go, colours, 17, the order of the tests and the output, lists of calls
pub drains_right : {e : drains.Example} → e ∈ (drains.nearest ++ drains.colours ++ drains.nowhere ++ drains.tested ++ drains.lists) → drains.right e ≡ true
drains_right h = all_true drains.right (is_true _ drains.all_right) h
