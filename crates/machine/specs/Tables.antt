-- Words that the contracts use for the tables of a machine.
use Rattle.std.specs.Prelude.{ℕ, ◌+◌, ◌*◌, ◌≤◌, ◌≡◌, Bool, List, length, get_or, eqb}
use Rattle.rules.specs.Basics.{all, from}
use Rattle.rules.specs.Machine.{Machine, first_page}
use Rattle.rules.specs.Masks.{most_nodes}

-- "The machine": the machine of three lent tables
abbrev pub machine_of : List ℕ → List ℕ → List ℕ → Machine
machine_of counts cpus distances = record { page_counts = counts; cpu_nodes = cpus; distances = distances }

-- "Pages are numbered through: node 0 first, then node 1": a table of each node's first page, and of where the last one's pages end
pub record Starts (counts starts : List ℕ) : Type 0 where
  pub long : length starts ≡ most_nodes + 1
  pub at : (n : ℕ) → n ≤ length counts → get_or starts n 0 ≡ first_page counts n

-- "10 on the diagonal": in row i
abbrev pub own_ok : ℕ → List ℕ → ℕ → Bool
own_ok n distances i = eqb (get_or distances (i * n + i) 0) 10

-- and in every row
unfoldable pub diagonal_ok : ℕ → List ℕ → Bool
diagonal_ok n distances = all (own_ok n distances) (from 0 n)
