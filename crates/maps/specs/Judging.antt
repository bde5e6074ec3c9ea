-- What `judging` says of a map's bytes and of a list of nodes.
use Rattle.std.specs.Prelude.{ℕ, ◌≡◌, Bool, true, false, not, List, length, eqb, Option, Some, None}
use Rattle.rules.specs.Maps.{no_node, nodes_in, good_map, set_of}
use Rattle.maps.specs.declared.judging.Judged.{Judged}

-- a byte of a map that is not FF
abbrev pub is_node : ℕ → Bool
is_node b = not (eqb b no_node)

-- a map that is good, with the set of its nodes and their number; or one that is not
abbrev pub Judges : ℕ → List ℕ → Option Judged → Type 0
Judges n bytes (Some map) = (good_map n bytes ≡ true) × (map.set.0 ≡ set_of (nodes_in bytes)) × (map.len ≡ length (nodes_in bytes))
Judges n bytes None = good_map n bytes ≡ false

-- the bytes of a new map, where the list is good
abbrev pub IsMade : Bool → List ℕ → Option (List ℕ) → Type 0
IsMade good bytes (Some made) = (good ≡ true) × (made ≡ bytes)
IsMade good bytes None = good ≡ false
