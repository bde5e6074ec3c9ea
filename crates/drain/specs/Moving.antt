-- What one move of a drain may count on (request M-107).
use Rattle.std.specs.Prelude.{ℕ, ◌+◌, ◌-◌, ◌≤◌, ◌<◌, ◌≡◌, true, List, length, get_or}
use Rattle.std.proofs.Math.Option.{some}
use Rattle.rules.specs.Machine.{first_page}
use Rattle.rules.specs.SearchOrder.{has_room}
use Rattle.placement.specs.Grants.{Ready}
use Rattle.drain.specs.Goals.{goal_by}

-- Page p of node x, which has this byte, may go to node k.
pub record Carries (counts starts pages free : List ℕ) (x p k byte : ℕ) : Type 0 where
  pub ready : Ready counts starts pages (byte - 1)
  pub held : 0 < byte
  pub start : first_page counts x ≤ p
  pub end : p < first_page counts x + get_or counts x 0
  pub node : k < length counts
  pub other : k ≡ x → ⊥
  pub room : has_room counts pages k ≡ true
  pub one_each : length free ≡ length counts
  pub above : 0 < get_or free k 0
  pub below : get_or free x 0 < 4294967295

-- Page p is one of node x's, and has somewhere to go if it is held.
pub record MayCarry (counts order pages jobs free maps : List ℕ) (x p : ℕ) : Type 0 where
  pub start : first_page counts x ≤ p
  pub end : p < first_page counts x + get_or counts x 0
  pub goes : 0 < get_or pages p 0 → (k : ℕ) × (goal_by (length counts) order jobs maps free (get_or pages p 0 - 1) ≡ some k)
