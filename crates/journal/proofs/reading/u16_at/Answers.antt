-- `u16_at` reads the bytes at the place.
-- Assumes nothing.
use mathlib.Core.Path.{◌∙◌, ap}
use mathlib.Core.List.{List}
use Prim.Native.Nat.{ℕ}
use Rattle.std.specs.Int.{w16, from_le_bytes}
use Rattle.journal.proofs.Numbers.{number_le}
use Rattle.journal.proofs.reading.u16_at.Goals as goal

pub returns : goal.returns
returns c = c.from_le_bytes.ensures ∙ ap (λ (xs : List ℕ). from_le_bytes w16 xs) c.part.ensures ∙ number_le c.args.at 1 c.args.bytes.now c.requires
