-- Document 01, "Search order": which nodes a request tries, in which order, and what turn a grant leaves.
use Rattle.std.specs.Prelude.{ℕ, ◌-◌, ◌%◌, Bool, not, ◌&&◌, cond, List, [], ◌∷◌, ◌++◌, map, length, get_or, ltb, eqb}
use Rattle.std.proofs.Math.Option.{Option, none, some}
use Rattle.rules.specs.Basics.{keep, first, first_or, is_nil, each, from, around}
use Rattle.rules.specs.Machine.{first_page, pages_of, distance}
use Rattle.rules.specs.Masks.{most_nodes, has, both, is_empty, lowest}
use Rattle.rules.specs.Records.{Record, Turn, last_is, Mode, default, preferred, bind, interleave, list, ring, early, unknownMode, mode_of}
use Rattle.rules.specs.Records.{places_of, closes}

-- "the other allowed nodes", lower number first: of n nodes, those of a set but x
unfoldable pub others : ℕ → ℕ → ℕ → List ℕ
others n set x = keep (λ k. has set k && not (eqb k x)) (from 0 n)

-- those of some nodes that lie at distance d in row x
unfoldable pub at_distance : ℕ → List ℕ → ℕ → List ℕ → ℕ → List ℕ
at_distance n distances x ks d = keep (λ k. eqb (distance n distances x k) d) ks

-- "near(x): x first if allowed, then the other allowed nodes at distance below 255 in row x, nearer first, lower number first when
-- equal", over a set of nodes: distances are 10 to 254, 245 of them
unfoldable pub near : ℕ → List ℕ → ℕ → ℕ → List ℕ
near n distances set x = keep (has set) (x ∷ []) ++ each (at_distance n distances x (others n set x)) (from 10 245)

-- One try of a search: the node, and the turn that it leaves if it grants.
pub record Try : Type 0 where
  pub node : ℕ
  pub turn : Turn

abbrev pub try : Turn → ℕ → Try
try t n = record { node = n; turn = t }

-- How a search goes: by near(x) over a set of nodes, every try leaving one turn; by places, each leaving its own; or, M-104, by places and
-- then by near(x) over the nodes that the job may get, every try of these leaving one turn.
pub data Plan : Type 0 where
  nearest : (set x : ℕ) (turn : Turn) → Plan
  placed : List Try → Plan
  closed : List Try → (x : ℕ) (turn : Turn) → Plan

-- the node that place p names
unfoldable pub node_at : Record → ℕ → ℕ
node_at r p = get_or (places_of r) p 0

-- "Ring: places from one past the cursor, once round; from place 0 with no cursor" (the field holds one past the last place)
abbrev pub ring_places : Record → List ℕ
ring_places r = around r.len r.turn.cursor r.len

-- some places, one after the other; "Ring sets it to the granted place"
abbrev pub place_tries : Record → List ℕ → List Try
place_tries r ps = map (λ p. try (last_is p) (node_at r p)) ps

unfoldable pub ring_tries : Record → List Try
ring_tries r = place_tries r (ring_places r)

-- "the target t is the lowest effective node above the last target, else the lowest effective one": the first effective one of all
-- nodes from one past the last target, once round
unfoldable pub target : ℕ → ℕ → Option ℕ
target effective cursor = first (keep (has effective) (around most_nodes cursor most_nodes))

-- "Interleave: .. then near(t)"; "Interleave then sets the cursor to the target, even where another node served"
unfoldable pub interleaved : ℕ → Option ℕ → Plan
interleaved limit none = placed []
interleaved limit (some t) = nearest limit t (last_is t)

-- "List: places in order"; M-104: "a 255 in the last place of a mode 4 list stands, unmapped, for near(CPU's node) there". The 255 itself, a
-- byte of N or more, is passed over.
unfoldable pub listed : Bool → List Try → ℕ → Turn → Plan
listed closing ts x turn = cond closing (closed ts x turn) (placed ts)

-- "Search order", mode by mode. `limit` is the set of nodes that the job may get, x the CPU's node. "Early: place 0, then as ring"; M-101:
-- "any grant in mode 6 sets the cursor to the granted place".
unfoldable pub plan_in : Mode → ℕ → Record → ℕ → Plan
plan_in default limit r x = nearest limit x r.turn
plan_in preferred limit r x = nearest limit (cond (is_empty r.user) x (lowest most_nodes r.effective)) r.turn
plan_in bind limit r x = nearest (both limit r.effective) x r.turn
plan_in interleave limit r x = interleaved limit (target r.effective r.turn.cursor)
plan_in list limit r x = listed (closes (places_of r)) (map (try r.turn) (places_of r)) x r.turn
plan_in ring limit r x = placed (ring_tries r)
plan_in early limit r x = placed (try (last_is 0) (node_at r 0) ∷ ring_tries r)
plan_in unknownMode limit r x = placed []

-- "Default, and any mode with static and an empty effective set: near(CPU's node)"
unfoldable pub mode_in_force : Record → Mode
mode_in_force r = cond (eqb r.flag 1 && is_empty r.effective) default (mode_of r.mode)

unfoldable pub plan : ℕ → Record → ℕ → Plan
plan limit r x = plan_in (mode_in_force r) limit r x

-- "A place whose byte is N or more, or not allowed, is passed over"
unfoldable pub tried : ℕ → ℕ → List Try → List Try
tried n limit ts = keep (λ t. ltb t.node n && has limit t.node) ts

-- "Search order": the tries of a plan on n nodes
unfoldable pub order : ℕ → List ℕ → ℕ → Plan → List Try
order n distances limit (nearest set x turn) = map (try turn) (near n distances set x)
order n distances limit (placed ts) = tried n limit ts
order n distances limit (closed ts x turn) = tried n limit ts ++ map (try turn) (near n distances limit x)

-- "0 is free": the free pages of node n, lowest first
unfoldable pub free_pages : List ℕ → List ℕ → ℕ → List ℕ
free_pages counts ledger n = keep (λ p. eqb (get_or ledger p 1) 0) (pages_of counts n)

unfoldable pub has_room : List ℕ → List ℕ → ℕ → Bool
has_room counts ledger n = not (is_nil (free_pages counts ledger n))

-- M-100: "one 32-bit free count per node": each the number of that node's free pages
unfoldable pub free_counts : List ℕ → List ℕ → List ℕ
free_counts counts ledger = map (λ n. length (free_pages counts ledger n)) (from 0 (length counts))

-- M-105: "offset in its node, mod 4": of page p in node n
unfoldable pub colour_of : List ℕ → ℕ → ℕ → ℕ
colour_of counts n p = (p - first_page counts n) % 4

-- M-105: "whose offset in its node, mod 4, equals the job number mod 4"
unfoldable pub has_colour : List ℕ → ℕ → ℕ → ℕ → Bool
has_colour counts j n p = eqb (colour_of counts n p) (j % 4)

-- M-105: "the lowest free page whose offset in its node, mod 4, equals the job number mod 4; failing that, the lowest free page": the page
-- of node n that job j gets
unfoldable pub pick_page : List ℕ → List ℕ → ℕ → ℕ → ℕ
pick_page counts ledger j n = first_or (keep (has_colour counts j n) (free_pages counts ledger n)) (first_or (free_pages counts ledger n) 0)

-- M-100: "Keep one 32-bit free count per node": node n is counted above 0
unfoldable pub counted : List ℕ → ℕ → Bool
counted free n = ltb 0 (get_or free n 0)

-- M-100: "let requests pass over nodes counted 0": the first node in the order that is counted above 0
unfoldable pub chosen : List ℕ → List Try → Option Try
chosen free ts = first (keep (λ t. counted free t.node) ts)

-- for a proof that computes: `unfolding open_search_order` opens every definition of this file
unfoldable pub open_search_order : Unit {0}
unfolding others at_distance near node_at ring_tries target interleaved listed plan_in mode_in_force plan tried order free_pages has_room free_counts
    colour_of has_colour pick_page counted chosen
open_search_order = tt
