-- Document 00, demands 2 and 3, over a list of encoded calls: what a replay answers and leaves in every table, for all inputs.
-- Assumes nothing.
use Rattle.std.specs.Prelude.{ℕ, ◌+◌, ◌≡◌, ◌↔◌, List, ◌++◌, map, length, get_or, drop, leb}
use Rattle.std.proofs.Math.Option.{some}
use Rattle.rules.specs.Machine.{Machine}
use Rattle.rules.specs.Decisions.{Decision, refuse, accept, unless, decided}
use Rattle.rules.specs.Calls.{Tables, request_tables_ok}
use Rattle.rules.specs.Book.{Call, answers, final}
use Rattle.rules.specs.Ledger.{last_write, given_to}
use Rattle.replay.specs.Encoding.{calls_in, calls_ok, call_count, answer_word}

-- What a replay does: its answer, the number of calls run; the tables and the output afterwards.
pub record Run : Type 0 where
  pub answer : Decision ℕ
  pub tables : Tables
  pub output : List ℕ

abbrev pub run : Decision ℕ → Tables → List ℕ → Run
run answer tables output = record { answer = answer; tables = tables; output = output }

-- "1 looks only at what a call is lent: all tables"; 13, the list of calls is damaged; "11 output shorter than" the answers
unfoldable pub replay_decision : Machine → Tables → List ℕ → ℕ → Decision ℕ
replay_decision m t words room =
    unless (request_tables_ok m t) 1
    (unless (calls_ok words) 13
    (unless (leb (call_count words) room) 11
    (accept (call_count words))))

-- the word of each answer to a list of calls
abbrev pub answer_words : Machine → Tables → List Call → List ℕ
answer_words m t cs = map answer_word (answers m t cs)

-- "Each call gets the tables as the last one left them"; no output word past the answers changes; a refusal changes nothing
unfoldable pub on_replay : Machine → Tables → List ℕ → List ℕ → Run
on_replay m t words out =
    decided
    (λ r. run (refuse r) t out)
    (λ n. run (accept n) (final m t (calls_in words)) (answer_words m t (calls_in words) ++ drop n out))
    (replay_decision m t words (length out))

-- "a page belongs to a job exactly when the last step that granted or released it gave it to that job": by the page table after these calls
abbrev pub Belongs : Machine → Tables → List Call → List ℕ → Type 0
Belongs m t cs ledger = (p j : ℕ) → (get_or ledger p 0 ≡ j + 1) ↔ (given_to (last_write m t cs p) ≡ some j)

-- for a proof that computes: `unfolding open_replay` opens every definition of this file
unfoldable pub open_replay : Unit {0}
unfolding replay_decision on_replay
open_replay = tt
