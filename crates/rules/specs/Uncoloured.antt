-- The request before request M-105, "Page colours": document 01 with every amendment but it. "On the same tables the node picked doesn't
-- change, nor when refusal 8 is given."
use Rattle.std.specs.Prelude.{ℕ, ◌+◌, ◌≡◌, List, [], ◌∷◌}
use Rattle.std.proofs.Math.Option.{Option, none, some}
use Rattle.rules.specs.Basics.{first_or}
use Rattle.rules.specs.Machine.{Machine, node_of_page}
use Rattle.rules.specs.Maps.{application_node}
use Rattle.rules.specs.SearchOrder.{Try, free_pages, has_room, chosen}
use Rattle.rules.specs.Decisions.{Decision, refuse, accept, unless, then}
use Rattle.rules.specs.Calls.{Answer, granted, released, done, drained, refused, Tables, write, Change, Outcome, applied, granting}
use Rattle.rules.specs.Calls.{map_of, admitted, order_of}

-- "grants its lowest free page", whichever job asks
unfoldable pub lowest_page : List ℕ → List ℕ → ℕ → ℕ
lowest_page counts ledger n = first_or (free_pages counts ledger n) 0

-- "A grant to job j writes j + 1 at its page in the ledger"; record and counts as they are now
abbrev pub granting_uncoloured : List ℕ → Tables → ℕ → Try → Change
granting_uncoloured counts t j s = record {
  answer = granted (application_node (map_of t j) s.node) (lowest_page counts t.ledger s.node);
  writes = write (lowest_page counts t.ledger s.node) (j + 1) ∷ [];
  stores = (granting counts t j s).stores;
  recounts = (granting counts t j s).recounts;
  remaps = [];
}

-- M-100's 14 and 8
unfoldable pub serve_uncoloured : List ℕ → Tables → ℕ → Option Try → Decision Change
serve_uncoloured counts t j none = refuse 8
serve_uncoloured counts t j (some s) = unless (has_room counts t.ledger s.node) 14 (accept (granting_uncoloured counts t j s))

-- "Order: request 1, 2", 15, "3, 4", 14, "8"
unfoldable pub request_uncoloured : Machine → Tables → ℕ → ℕ → Outcome
request_uncoloured m t j k =
    applied t (then (admitted m t j k) (λ r. serve_uncoloured m.page_counts t j (chosen t.free (order_of m t j k))))

-- an answer with the machine's node in place of the page that is granted
abbrev pub by_node : List ℕ → Answer → Answer
by_node counts (granted a p) = granted a (node_of_page counts p)
by_node counts (released a p) = released a p
by_node counts done = done
by_node counts (drained moves) = drained moves
by_node counts (refused r) = refused r

-- "On the same tables the node picked doesn't change, nor when refusal 8 is given"; nor do record, counts and maps
pub record SameButPage (counts : List ℕ) (now before : Outcome) : Type 0 where
  pub node : by_node counts now.answer ≡ by_node counts before.answer
  pub records : now.tables.records ≡ before.tables.records
  pub free : now.tables.free ≡ before.tables.free
  pub maps : now.tables.maps ≡ before.tables.maps
