-- An order of tests: what it says that it ends well, or in some refusal.
-- Assumes nothing.
use Prim.Native.Nat.{ℕ}
use mathlib.Core.Path.{◌≡◌, refl}
use mathlib.Core.Logic.{◌≢◌}
use mathlib.Core.Bool.{Bool, true, false, false≢true}
use native.Mathlib.Omega.{arith}
use Rattle.rules.specs.Decisions.{Decision, refuse, accept, unless, then, is_accepted}

-- a refusal is not an acceptance
pub not_accepted : {A : Type 0} {x : A} (r : ℕ) (d : Decision A) → d ≡ refuse r → d ≡ accept x → ⊥
not_accepted r d e f = let z : ◌≡◌ {A = ℕ} 0 1 = cc in omega arith

-- a chain of tests that ends well has passed its first test and the rest
pub passed : {A : Type 0} (b : Bool) (r : ℕ) (d : Decision A) {x : A} → unless b r d ≡ accept x → (b ≡ true) × (d ≡ accept x)
passed true r d e = (refl, e)
passed false r d e = absurd (not_accepted r _ refl e)

-- one that ends in another refusal than that of its first test has passed this
pub passed_to : {A : Type 0} (b : Bool) (r : ℕ) (d : Decision A) {q : ℕ} → unless b r d ≡ refuse q → r ≢ q → (b ≡ true) × (d ≡ refuse q)
passed_to true r d e ne = (refl, e)
passed_to false r d e ne = absurd (ne (cc))

-- tests that go on after others and end well: both do
pub went_on : {A B : Type 0} (d : Decision A) (go : A → Decision B) {y : B} → then d go ≡ accept y → (x : A) × (d ≡ accept x) × (go x ≡ accept y)
went_on (refuse r) go e = absurd (not_accepted r _ refl e)
went_on (accept x) go e = (x, refl, e)

-- what is accepted is something
pub accepted_some : {A : Type 0} (d : Decision A) → is_accepted d ≡ true → (x : A) × (d ≡ accept x)
accepted_some (refuse r) e = absurd (false≢true e)
accepted_some (accept x) e = (x, refl)
