-- `places_in` meets its contract: a list of less than sixteen places is cut at its end.
-- Assumes nothing.
use Prim.Native.Nat.{ℕ}
use mathlib.Core.Path.{ap, ◌∙◌}
use mathlib.Core.List.{List}
use native.Mathlib.Omega.{arith}
use lib.ListN.{take}
use Rattle.replay.specs.Encoding.{word_at, filled}
use Rattle.replay.proofs.Words.{short_places, long_places}
use Rattle.replay.proofs.encoding.places_in.Goals as goal

pub returns-then-call : goal.returns-then-call
returns-then-call c = c.padded.ensures ∙ ap (λ (l : List ℕ). filled (take (word_at c.args.call.now 5) l)) c.unpack-places.ensures
    ∙ short_places c.args.call.now c.requires (omega (arith, c.if-call.true))

pub returns : goal.returns
returns c = c.unpack-places.ensures ∙ long_places c.args.call.now c.requires (omega (arith, c.if-call.false))
