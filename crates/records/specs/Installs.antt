-- Document 01, "install 1, 2, 4, 5, 7, 6", with M-103's 15 after 2: the tests that are left once 1, 2 and 15 have passed.
use Rattle.std.specs.Prelude.{ℕ, not, List}
use Rattle.rules.specs.Masks.{is_empty}
use Rattle.rules.specs.Records.{Policy, Record, well_formed, installed}
use Rattle.rules.specs.Maps.{turned}
use Rattle.rules.specs.Decisions.{Decision, accept, unless}
use Rattle.rules.specs.Calls.{Change, storing, policy_known, install_fits}

-- "4, 5, 7, 6", for a job with this record and these nodes in its map
abbrev pub install_tests : ℕ → List ℕ → Record → ℕ → Policy → Decision Change
install_tests n nodes r j p =
    unless (well_formed n r) 4
    (unless (policy_known p) 5
    (unless (not (is_empty r.allowed)) 7
    (unless (install_fits n nodes r.allowed p) 6
    (accept (storing j (installed r (turned nodes p)))))))
