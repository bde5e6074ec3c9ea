-- `Mask::complement` meets its contract: all nodes below n, and not those of the mask.
-- Assumes nothing.
use mathlib.Core.Path.{ap, sym, ◌∙◌}
use Prim.Native.Nat.{ℕ, ◌-◌, ◌^◌}
use native.Mathlib.Nat.{sub-add_cancel}
use lib.Bits.{bit_and}
use Rattle.rules.specs.Masks.{all_nodes}
use Rattle.rules.proofs.Masks.{and_not}
use Rattle.nodemask.proofs.Mask.complement.Goals as goal

pub returns : goal.returns
returns c = ap (λ (x : ℕ). bit_and x ((2 ^ 64 - 1) - c.args.self.0)) c.all_nodes-all.ensures
    ∙ ap (λ (x : ℕ). bit_and (all_nodes c.args.n) ((2 ^ x - 1) - c.args.self.0)) (sym (sub-add_cancel c.requires.0))
    ∙ and_not (64 - c.args.n) c.args.n c.args.self.0 c.requires.1
