-- What each form of a node-list text gives.
use Rattle.std.specs.Prelude.{ℕ, ◌-◌, ◌^◌, ◌<◌, cond, Option as StdOption, Some, None}
use Rattle.std.proofs.Math.Option.{Option, none, some}
use Rattle.rules.specs.Masks.{all_nodes}
use Rattle.rules.specs.Decisions.{Decision, refuse, accept}
use Rattle.rules.specs.Text.{Form, form_ok, form_mask}
use Rattle.nodemask.specs.declared.Mask.{Mask}
use Rattle.nodemask.specs.Ranks.{ranked_in}

-- a mask that was read has no bit at n or above
abbrev pub Below : ℕ → Option ℕ → Type 0
Below n (some m) = m < 2 ^ n
Below n none = Unit {0}

-- "`!` takes all nodes below N not named"
abbrev pub except_for : ℕ → Option ℕ → Option ℕ
except_for n (some m) = some (all_nodes n - m)
except_for n none = none

-- "after `+` they are ranks in the allowed set": the nodes of the ranks that were read
abbrev pub ranked_for : ℕ → Option ℕ → Option ℕ
ranked_for allowed (some ranks) = some (ranked_in allowed ranks)
ranked_for allowed none = none

-- the mask of a form, if it is in order
unfoldable pub form_read : ℕ → ℕ → Form → Option ℕ
form_read n allowed form = cond (form_ok n allowed form) (some (form_mask n allowed form)) none

-- what the mask of a reader of forms stands for
abbrev pub mask_read : StdOption Mask → Option ℕ
mask_read (Some m) = some m.0
mask_read None = none

-- "Anything else is 12": the answer by what was read
abbrev pub decided : Option ℕ → Decision ℕ
decided (some m) = accept m
decided none = refuse 12
