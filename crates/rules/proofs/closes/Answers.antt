-- `closes` meets its contract: by the last place, where there is one.
-- Assumes nothing.
use Prim.Native.Nat.{ℕ, ◌-◌}
use mathlib.Core.Path.{◌≡◌, refl, ◌∙◌}
use mathlib.Core.List.{List}
use lib.Dec.{eqb}
use lib.ListN.{length}
use Rattle.std.specs.Prelude.{Option, Some, None}
use Rattle.std.specs.Borrow.{Bor}
use Rattle.std.specs.List.{slice_get}
use Rattle.std.specs.Option.{option_copied, option_eq}
use Rattle.rules.specs.Records.{closing_place, closes}
use Rattle.rules.proofs.Closing.{close_last, close_none}
use Rattle.rules.proofs.closes.Goals as goal

by_last : (places : List ℕ) (last : Option (Bor ℕ)) (closing : Bor ℕ) → closing.now ≡ closing_place
    → option_copied last ≡ slice_get places (length places - 1) → option_eq {T = Bor ℕ} (λ x y. eqb x.now y.now) last (Some closing) ≡ closes places
by_last places (Some x) closing z e = rw z (close_last places x.now e)
by_last places None closing z e = close_none places e

pub returns : goal.returns
returns c = c.eq.ensures ∙ by_last c.args.places.now c.last.result _ refl c.last.ensures.value
