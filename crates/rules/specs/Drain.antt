-- Request M-107, "Drain a board": where the held pages of a node go, one after the other, and the call.
use Rattle.std.specs.Prelude.{ℕ, ◌+◌, ◌-◌, ◌*◌, Bool, not, ◌&&◌, List, [], ◌∷◌, ◌++◌, length, get_or, drop, leb, ltb, eqb}
use Rattle.std.proofs.Math.Option.{Option, none, some}
use Rattle.rules.specs.Basics.{keep, first, count, each, from, sum, same}
use Rattle.rules.specs.Machine.{distances_ok, pages_of}
use Rattle.rules.specs.Masks.{most_nodes, has, mask_of}
use Rattle.rules.specs.Records.{record_at, well_formed}
use Rattle.rules.specs.SearchOrder.{near, has_room, free_counts, pick_page}
use Rattle.rules.specs.Decisions.{Decision, refuse, accept, unless, then, decided}
use Rattle.rules.specs.Calls.{drained, Tables, with_pages, Write, write, Change, after_writes, applied, is_job, jobs_ok, is_mapped, limit_of}
use Rattle.rules.specs.Calls.{fresh_tables_ok}

-- ---- one move

-- A move: the page that is left, the page that is taken, the node of that page, and the job that holds them.
pub record Move : Type 0 where
  pub old : ℕ
  pub new : ℕ
  pub node : ℕ
  pub job : ℕ

-- "x's held pages from the lowest up"
unfoldable pub held_pages : List ℕ → List ℕ → ℕ → List ℕ
held_pages counts ledger x = keep (λ p. not (eqb (get_or ledger p 0) 0)) (pages_of counts x)

-- a set of nodes "without x"
unfoldable pub without : ℕ → ℕ → ℕ
without set x = mask_of most_nodes (λ k. has set k && not (eqb k x))

-- "near(x), taken over its job's allowed set without x"; M-103: "a target must be in the job's map". `limit` is the set of nodes that the job
-- may get.
unfoldable pub targets : ℕ → List ℕ → ℕ → ℕ → List ℕ
targets n distances limit x = near n distances (without limit x) x

-- 17 if a page's "byte names no job, or the job's record or map is malformed"
unfoldable pub is_movable : ℕ → Tables → ℕ → Bool
is_movable n t j = is_job t.records j && is_mapped n t j && well_formed n (record_at t.records j)

-- "the first node with room", for a page of node x that job j holds
unfoldable pub goal : List ℕ → List ℕ → Tables → ℕ → ℕ → Option ℕ
goal counts distances t x j = first (keep (has_room counts t.ledger) (targets (length counts) distances (limit_of t j) x))

-- "the lowest free page of the first node with room"; "M-105's colours apply to the page"; "If any page has nowhere to go ..
-- answer 17"
unfoldable pub move_to : List ℕ → Tables → ℕ → ℕ → Option ℕ → Decision Move
move_to counts t p j none = refuse 17
move_to counts t p j (some n) = accept (record { old = p; new = pick_page counts t.ledger j n; node = n; job = j })

-- the move of page p of node x; "j + 1 is held by job j"
unfoldable pub move_of : List ℕ → List ℕ → Tables → ℕ → ℕ → Decision Move
move_of counts distances t x p =
    let j = get_or t.ledger p 0 - 1 in
    unless (is_movable (length counts) t j) 17 (move_to counts t p j (goal counts distances t x j))

-- "In the ledger a move is a release and a grant in one step"
abbrev pub move_writes : Move → List Write
move_writes v = write v.old 0 ∷ write v.new (v.job + 1) ∷ []

-- "Under M-100 the counts follow each move": x has one free page more, the node that takes the page one less
abbrev pub move_recounts : ℕ → List ℕ → Move → List Write
move_recounts x free v = write x (get_or free x 0 + 1) ∷ write v.node (get_or free v.node 0 - 1) ∷ []

-- ---- the moves

-- the tables after a move; "Cursors stay"
unfoldable pub moved : ℕ → Tables → Move → Tables
moved x t v = with_pages t (after_writes t.ledger (move_writes v)) (after_writes t.free (move_recounts x t.free v))

-- "Go through x's held pages": the moves of some pages of node x, one after the other, each "at its turn"
unfoldable pub moves : List ℕ → List ℕ → ℕ → Tables → List ℕ → Decision (List Move)
moves counts distances x t [] = accept []
moves counts distances x t (p ∷ ps) =
    then (move_of counts distances t x p) (λ v. then (moves counts distances x (moved x t v) ps) (λ vs. accept (v ∷ vs)))

-- "the counts follow each move": the counts that some moves set, one after the other
unfoldable pub recounts_of : ℕ → List ℕ → List Move → List Write
recounts_of x free [] = []
recounts_of x free (v ∷ vs) = move_recounts x free v ++ recounts_of x (after_writes free (move_recounts x free v)) vs

-- what a drain of node x by these moves does: "answer how many"; nothing but pages and counts changes
abbrev pub draining : ℕ → Tables → List Move → Change
draining x t vs = record {
  answer = drained (length vs);
  writes = each move_writes vs;
  stores = [];
  recounts = recounts_of x t.free vs;
  remaps = [];
}

-- "Write the pairs, old page then new, .. in the order moved"
unfoldable pub pairs : List Move → List ℕ
pairs vs = each (λ v. v.old ∷ v.new ∷ []) vs

-- ---- the call

-- 1: page counts, distances, page and job table, free counts and maps; the drain is lent no CPU table
unfoldable pub drain_tables_ok : List ℕ → List ℕ → Tables → Bool
drain_tables_ok counts distances t =
    fresh_tables_ok counts (length t.ledger) (length t.free) && distances_ok (length counts) distances
    && jobs_ok (length t.records) (length t.maps)

-- "counts that don't match at entry are 14"
unfoldable pub counts_match : List ℕ → Tables → Bool
counts_match counts t = same t.free (free_counts counts t.ledger)

-- 17; "a table too short is 11": two numbers a move
unfoldable pub moves_within : List ℕ → List ℕ → ℕ → Tables → ℕ → Decision (List Move)
moves_within counts distances x t room =
    then (moves counts distances x t (held_pages counts t.ledger x)) (λ vs. unless (leb (2 * length vs) room) 11 (accept vs))

-- "Test 1, then x below N (else 6), 14, 17, 11": the moves of a drain with room for so many numbers
unfoldable pub drain_moves : List ℕ → List ℕ → ℕ → Tables → ℕ → Decision (List Move)
drain_moves counts distances x t room =
    unless (drain_tables_ok counts distances t) 1
    (unless (ltb x (length counts)) 6
    (unless (counts_match counts t) 14
    (moves_within counts distances x t room)))

-- the drain in a list of calls, where the pairs are not handed out
unfoldable pub drain_decision : List ℕ → List ℕ → ℕ → Tables → ℕ → Decision Change
drain_decision counts distances x t room = then (drain_moves counts distances x t room) (λ vs. accept (draining x t vs))

-- What the call does: how many moves, the tables afterwards, and the table of pairs.
pub record Drained : Type 0 where
  pub answer : Decision ℕ
  pub tables : Tables
  pub output : List ℕ

abbrev pub did_drain : Decision ℕ → Tables → List ℕ → Drained
did_drain answer tables output = record { answer = answer; tables = tables; output = output }

-- "answer how many"; "Write the pairs .. into a lent table"; M-104: "Here and later no output changes past what is written"; "answer 17 and
-- change nothing"
unfoldable pub on_drain : List ℕ → List ℕ → ℕ → Tables → List ℕ → Drained
on_drain counts distances x t out =
    decided
    (λ r. did_drain (refuse r) t out)
    (λ vs. did_drain (accept (length vs)) (applied t (accept (draining x t vs))).tables (pairs vs ++ drop (2 * length vs) out))
    (drain_moves counts distances x t (length out))

-- ---- what the promises speak of

-- "The total held by each job": how many of the machine's pages job j holds
unfoldable pub pages_held : List ℕ → List ℕ → ℕ → ℕ
pages_held counts ledger j = count (λ p. eqb (get_or ledger p 0) (j + 1)) (from 0 (sum counts))

-- for a proof that computes: `unfolding open_drain` opens every definition of this file
unfoldable pub open_drain : Unit {0}
unfolding held_pages without targets is_movable goal move_to move_of moved moves recounts_of pairs drain_tables_ok counts_match moves_within drain_moves
    drain_decision on_drain pages_held
open_drain = tt
