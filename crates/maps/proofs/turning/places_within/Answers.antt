-- `places_within` meets its contract: std's test of all of a list is the rules' one.
-- Assumes nothing.
use Prim.Native.Nat.{ℕ}
use mathlib.Core.Path.{◌≡◌, refl, ap, ◌∙◌}
use mathlib.Core.Bool.{Bool, ◌&&◌}
use mathlib.Core.List.{List, [], ◌∷◌}
use Rattle.std.proofs.Common.{rules, tests}
use Rattle.std.proofs.lemmas.Iterator.{YieldsList-from_slice}
use Rattle.std.proofs.lemmas.Iterator.Search.{all_from_yields_List}
use lib.Dec.{ltb}
use Rattle.std.specs.List.{list_all}
use Rattle.rules.specs.Basics.{all}
use Rattle.maps.proofs.turning.places_within.Goals as goal

same_all : (p : ℕ → Bool) (xs : List ℕ) → list_all p xs ≡ all p xs
unfolding all
same_all p [] = refl
same_all p (x ∷ xs) = ap (λ (t : Bool). p x && t) (same_all p xs)

pub returns : goal.returns
returns c =
    let places = c.args.places.now in
    all_from_yields_List (λ a. ltb a c.args.len) _ _ c.all.result c.all.ensures.ran (YieldsList-from_slice places cc) (λ x b q k. search (rules, tests))
    ∙ same_all (λ a. ltb a c.args.len) places
