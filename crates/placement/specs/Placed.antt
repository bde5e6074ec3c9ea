-- What a request or a release comes to in the machine's own numbers, and what it stands for in the rules.
use Rattle.std.specs.Prelude.{ℕ, ◌+◌, ◌*◌, ◌≤◌, ◌≡◌, List, Result, Ok, Err}
use Rattle.rules.specs.Machine.{node_of_page}
use Rattle.rules.specs.Maps.{map_size, application_node}
use Rattle.rules.specs.Calls.{Answer, granted, released, refused, Tables, Change, freeing, holds, count_fits}
use Rattle.rules.specs.Decisions.{Decision, accept, unless}
use Rattle.rules.specs.Answers.{number_of}
use Rattle.rules.specs.declared.Refusal.{Refusal}
use Rattle.placement.specs.declared.placed.Placed.{Placed}
use Rattle.placement.specs.declared.placed.Placed.TheVariants.{Granted, Released}

-- M-103: "answers back": the answer of a job with these nodes in its map
abbrev pub placed_as : List ℕ → Result Placed Refusal → Answer
placed_as nodes (Ok (Granted n p)) = granted (application_node nodes n.0) p.0
placed_as nodes (Ok (Released n p)) = released (application_node nodes n.0) p.0
placed_as nodes (Err why) = refused (number_of why)

-- the node is the one that has the page
abbrev pub InNode : List ℕ → Result Placed Refusal → Type 0
InNode counts (Ok (Granted n p)) = n.0 ≡ node_of_page counts p.0
InNode counts (Ok (Released n p)) = n.0 ≡ node_of_page counts p.0
InNode counts (Err why) = Unit {0}

-- a job whose page was granted or released has a map in a table of so many bytes
abbrev pub HasMap : ℕ → ℕ → Result Placed Refusal → Type 0
HasMap bytes j (Ok (Granted n p)) = map_size * j + map_size ≤ bytes
HasMap bytes j (Ok (Released n p)) = map_size * j + map_size ≤ bytes
HasMap bytes j (Err why) = Unit {0}

-- "10", 14: the tests of a release that are left once its job has a good map
abbrev pub release_tests : List ℕ → Tables → ℕ → ℕ → Decision Change
release_tests counts t j p =
    unless (holds counts t.ledger j p) 10
    (unless (count_fits counts t.free (node_of_page counts p)) 14
    (accept (freeing counts t j p)))
