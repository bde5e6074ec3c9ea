-- What the code's own steps compute.
use Rattle.std.specs.Prelude.{ℕ, zero, suc, ◌+◌, ◌≤◌, ◌≡◌, true, false, cond, List, [], ◌∷◌, length, drop, Option, Some, None, MatchOption}
use Rattle.std.proofs.Math.Option.{Option as MathOption, none, some}
use Rattle.rules.specs.Basics.{any, same}
use Rattle.rules.specs.Masks.{most_nodes}
use Rattle.rules.specs.Maps.{map_size, good_map}
use Rattle.rules.specs.Decisions.{Written, accept, unless, decided, not_written, written}
use Rattle.rules.specs.Notes.{strings, most_names, list_ok, note_ok, table_ok, first_match, is_known, place_of, places_in, list_part}

-- how many bytes stand before the first zero
unfoldable pub word_length : List ℕ → ℕ
word_length [] = 0
word_length (zero ∷ xs) = 0
word_length (suc x ∷ xs) = suc (word_length xs)

-- the number of names of a list, one more than a list may have if it is bad
unfoldable pub name_count : List ℕ → ℕ
name_count list = cond (list_ok list) (length (strings list)) (suc most_names)

-- the word is the first string of the bytes, and the rest is what stands behind its zero
pub record Split (bytes word rest : List ℕ) : Type 0 where
  pub first : strings bytes ≡ word ∷ strings rest
  pub size : length bytes ≡ suc (length word) + length rest
  pub behind : rest ≡ drop (suc (length word)) bytes

-- a count of a list: none if it is bad, else the number of its names
abbrev pub IsCount : List ℕ → Option ℕ → Type 0
IsCount list result = MatchOption result (list_ok list ≡ false) (λ n. (list_ok list ≡ true) × (n ≡ name_count list))

-- the first of some names that is the word: none if none is, else its number
abbrev pub IsMatch : List (List ℕ) → List ℕ → Option ℕ → Type 0
IsMatch names w result = MatchOption result (any (same w) names ≡ false) (λ n. (any (same w) names ≡ true) × (n ≡ first_match w names))

-- a map and a table of names that have passed tests 1 and 15
abbrev pub Tested : ℕ → List ℕ → List ℕ → Type 0
Tested n bytes table = (n ≤ most_nodes) × (length bytes ≡ map_size) × (good_map n bytes ≡ true) × (table_ok n table ≡ true)

-- the place that a name stands for, if it is known
unfoldable pub found_in : List (List ℕ) → List ℕ → List ℕ → MathOption ℕ
found_in names nodes w = cond (is_known names nodes w) (some (place_of names nodes w)) none

-- the code's answer to that
abbrev pub found_of : Option ℕ → MathOption ℕ
found_of (Some place) = some place
found_of None = none

-- the tests after 15, and what they come to
unfoldable pub note_tests : List (List ℕ) → List ℕ → List ℕ → ℕ → List ℕ → Written
note_tests names nodes note which out =
    decided (not_written out) (written out) (unless (note_ok note) 16 (accept (places_in names nodes (strings (list_part note which)))))
