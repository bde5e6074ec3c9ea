-- Document 01, "The lists of demand 3": one book for all jobs, fed with the calls alone.
use Rattle.std.specs.Prelude.{ℕ, List, [], ◌∷◌}
use Rattle.rules.specs.Machine.{Machine, node_count}
use Rattle.rules.specs.Records.{Policy}
use Rattle.rules.specs.Decisions.{Decision}
use Rattle.rules.specs.Calls.{Answer, Tables, Change, Outcome, applied, request_decision, release_decision}
use Rattle.rules.specs.Calls.{fresh_decision, install_decision, rebind_decision, clear_decision, keep_decision, set_map_decision}
use Rattle.rules.specs.Drain.{drain_decision}

-- "The calls are request, release, install, rebind and clear; a later call that changes pages, records or limits joins them": M-100's fresh
-- table, M-103's tenant's and administrator's calls, and M-107's drain of a node with room for so many numbers
pub data Call : Type 0 where
  request : (job cpu : ℕ) → Call
  release : (job page : ℕ) → Call
  install : (job : ℕ) (policy : Policy) → Call
  rebind : (job allowed : ℕ) → Call
  clear : (job : ℕ) → Call
  fresh_table : Call
  keep_nodes : (job : ℕ) (kept : List ℕ) → Call
  set_map : (job : ℕ) (nodes : List ℕ) → Call
  drain : (node room : ℕ) → Call

-- "The book finds each answer or refusal by this document's rules, on its own ledger and records"
unfoldable pub decision : Machine → Tables → Call → Decision Change
decision m t (request j k) = request_decision m t j k
decision m t (release j p) = release_decision m.page_counts t j p
decision m t (install j p) = install_decision (node_count m) t j p
decision m t (rebind j allowed) = rebind_decision (node_count m) t.records j allowed
decision m t (clear j) = clear_decision (node_count m) t.records j
decision m t fresh_table = fresh_decision m.page_counts t
decision m t (keep_nodes j kept) = keep_decision (node_count m) t j kept
decision m t (set_map j nodes) = set_map_decision (node_count m) t j nodes
decision m t (drain x room) = drain_decision m.page_counts m.distances x t room

-- one call: its answer, and the tables afterwards
unfoldable pub step : Machine → Tables → Call → Outcome
step m t c = applied t (decision m t c)

-- "Each call gets the tables as the last one left them": the answers to a list of calls
unfoldable pub answers : Machine → Tables → List Call → List Answer
answers m t [] = []
answers m t (c ∷ cs) = (step m t c).answer ∷ answers m (step m t c).tables cs

-- "at the end the whole page table, job table .. equal the book's": the tables after a list of calls
unfoldable pub final : Machine → Tables → List Call → Tables
final m t [] = t
final m t (c ∷ cs) = final m (step m t c).tables cs

-- for a proof that computes: `unfolding open_book` opens every definition of this file
unfoldable pub open_book : Unit {0}
unfolding decision step answers final
open_book = tt
