-- A list of calls, run a call at a time: the tables stay in order, and every answer is written in its place.
-- Assumes nothing.
use Prim.Native.Nat.{ℕ, suc, ◌+◌, ◌≤◌, ◌<◌}
use mathlib.Core.Path.{◌≡◌, refl, sym, ap, ◌∙◌}
use mathlib.Core.Bool.{true, false}
use mathlib.Core.List.{List, [], ◌∷◌, ◌++◌, map, append_assoc, map-append}
use native.Mathlib.Numerals.{add-one}
use native.Mathlib.Omega.{arith}
use borrow.Author.Tests.{le-leb, lt-leb}
use lib.ListN.{length, get_or, set, drop, replicate, length-append, length-map}
use lib.Seq.{drop-cons, set_at}
use Rattle.rules.specs.Basics.{each, from}
use Rattle.rules.specs.Machine.{Machine}
use Rattle.rules.specs.Decisions.{Decision, refuse, accept, decided}
use Rattle.rules.specs.Calls.{Answer, Tables, Outcome, outcome, request_tables_ok}
use Rattle.rules.specs.Book.{Call, step, answers, final}
use Rattle.rules.proofs.Book.{final_append, answers_append, page_owner}
use Rattle.fairness.specs.Demand3.{Demand3}
use Rattle.fairness.proofs.Fair.{demand3}
use Rattle.replay.specs.Encoding.{call_in, calls_to, calls_in, calls_ok, call_count, words_of, answer_word}
use Rattle.replay.specs.Replay.{Run, run, answer_words, replay_decision, on_replay, Belongs}
use Rattle.replay.proofs.Words.{calls_more}

-- ---- one call more

answers_length : (m : Machine) (t : Tables) (cs : List Call) → length (answers m t cs) ≡ length cs
unfolding answers
answers_length m t [] = refl
answers_length m t (c ∷ cs) = ap suc (answers_length m (step m t c).tables cs)

final_snoc : (m : Machine) (t : Tables) (cs : List Call) (c : Call) → final m t (cs ++ (c ∷ [])) ≡ (step m (final m t cs) c).tables
unfolding final
final_snoc m t cs c = final_append m t cs (c ∷ [])

words_snoc : (m : Machine) (t : Tables) (cs : List Call) (c : Call)
    → answer_words m t (cs ++ (c ∷ [])) ≡ answer_words m t cs ++ (answer_word (step m (final m t cs) c).answer ∷ [])
unfolding answers
words_snoc m t cs c = ap (λ (l : List Answer). map answer_word l) (answers_append m t cs (c ∷ [])) ∙ map-append answer_word (answers m t cs) _

-- The first i calls are done: the tables are those after them, and their answers stand in front of the old output.
pub record Done (m : Machine) (t : Tables) (words out₀ : List ℕ) (i : ℕ) (now : Tables) (out : List ℕ) : Type 0 where
  pub many : length (calls_to words i) ≡ i
  pub tables : now ≡ final m t (calls_to words i)
  pub output : out ≡ answer_words m t (calls_to words i) ++ drop i out₀

-- no call is done
pub begun : (m : Machine) (t : Tables) (words out : List ℕ) → Done m t words out 0 t out
unfolding final answers calls_to each from
begun m t words out = record { many = refl; tables = refl; output = refl }

-- call i is done, and the word of its answer written
pub advance : (m : Machine) (t : Tables) (words out₀ : List ℕ) (i : ℕ) (now : Tables) (out : List ℕ) (c : Call) (a : Answer) (after : Tables) (w : ℕ)
    → call_in (words_of words i) ≡ accept c → i < length out₀ → Done m t words out₀ i now out → outcome a after ≡ step m now c → w ≡ answer_word a
    → Done m t words out₀ (i + 1) after (set out i w)
advance m t words out₀ i now out c a after w says room d s coded =
    let cs : List Call = calls_to words i in
    let more : calls_to words (suc i) ≡ cs ++ (c ∷ []) = calls_more words i c says in
    let long : length (answer_words m t cs) ≡ i = length-map (answers m t cs) answer_word ∙ answers_length m t cs ∙ d.many in
    let o : outcome a after ≡ step m (final m t cs) c = s ∙ ap (λ (x : Tables). step m x c) d.tables in
    let told : w ≡ answer_word (step m (final m t cs) c).answer = coded ∙ ap (λ (x : Outcome). answer_word x.answer) o in
    record {
      many = rw (add-one, more) (length-append cs (c ∷ []) ∙ omega (arith, d.many));
      tables = rw (add-one, more, final_snoc) (ap (λ (x : Outcome). x.tables) o);
      output =
          rw (add-one, more, words_snoc, d.output, drop-cons out₀ i 0 room)
          (set_at (answer_words m t cs) (get_or out₀ i 0) (drop (suc i) out₀) w i long
          ∙ ap (λ (x : ℕ). answer_words m t cs ++ (x ∷ drop (suc i) out₀)) told
          ∙ sym (append_assoc (answer_words m t cs) (answer_word (step m (final m t cs) c).answer ∷ []) (drop (suc i) out₀)));
    }

-- ---- the whole run

-- the tests in their order
module _ (m : Machine) (t : Tables) (words : List ℕ) (room : ℕ) where
  -- 1, the tables
  pub tables_refused : request_tables_ok m t ≡ false → replay_decision m t words room ≡ refuse 1
  unfolding replay_decision
  tables_refused a = rw a

  -- 13, the calls
  pub calls_refused : request_tables_ok m t ≡ true → calls_ok words ≡ false → replay_decision m t words room ≡ refuse 13
  unfolding replay_decision
  calls_refused a b = rw (a, b)

  -- 11, the room for the answers
  pub room_refused : request_tables_ok m t ≡ true → calls_ok words ≡ true → room < call_count words → replay_decision m t words room ≡ refuse 11
  unfolding replay_decision
  room_refused a b l = rw (a, b, lt-leb (call_count words) room l)

  -- none refuses: as many answers as calls
  pub accepted : request_tables_ok m t ≡ true → calls_ok words ≡ true → call_count words ≤ room → replay_decision m t words room ≡ accept (call_count words)
  unfolding replay_decision
  accepted a b l = rw (a, b, le-leb (call_count words) room l)

-- all calls are done: that is the run
pub finished : (m : Machine) (t : Tables) (words out₀ : List ℕ) (now : Tables) (out : List ℕ)
    → replay_decision m t words (length out₀) ≡ accept (call_count words) → Done m t words out₀ (call_count words) now out
    → run (accept (call_count words)) now out ≡ on_replay m t words out₀
unfolding on_replay
finished m t words out₀ now out e d = rw (e, d.tables, d.output)

-- a refusal is the run
pub stopped : (m : Machine) (t : Tables) (words out : List ℕ) (r : ℕ) → replay_decision m t words (length out) ≡ refuse r
    → run (refuse r) t out ≡ on_replay m t words out
unfolding on_replay
stopped m t words out r e = rw e

-- "From a page table of zeros, changed only by these calls, a page belongs to a job exactly when the last step that granted or released
-- it gave it to that job": after a replay that was not refused
pub replayed_belongs : (m : Machine) (t : Tables) (words out : List ℕ) (k n : ℕ) → t.ledger ≡ replicate k 0 → (on_replay m t words out).answer ≡ accept n
    → Belongs m t (calls_in words) (on_replay m t words out).tables.ledger
unfolding on_replay
replayed_belongs m t words out k n zeros ran = go (replay_decision m t words (length out)) ran
  where
    ran_as : Decision ℕ → Run
    ran_as d = decided (λ r. run (refuse r) t out) (λ n. run (accept n) (final m t (calls_in words)) (answer_words m t (calls_in words) ++ drop n out)) d

    go : (d : Decision ℕ) → (ran_as d).answer ≡ accept n → Belongs m t (calls_in words) (ran_as d).tables.ledger
    go (refuse r) e = absurd (let z : ◌≡◌ {A = ℕ} 0 1 = cc in omega arith)
    go (accept i) e = page_owner m t k zeros (calls_in words)

-- What `replay` promises of its answer, of the tables and of the output: they are the run's; demand 3; demand 2's sentence of the ledger.
pub fair_and_owned : (m : Machine) (t : Tables) (words out : List ℕ) (a : Decision ℕ) (after : Tables) (output : List ℕ)
    → run a after output ≡ on_replay m t words out
    → (run a after output ≡ on_replay m t words out)
    × (Demand3 m t (calls_in words) × ((k n : ℕ) → t.ledger ≡ replicate k 0 → a ≡ accept n → Belongs m t (calls_in words) after.ledger))
fair_and_owned m t words out a after output r =
    let ends : after.ledger ≡ (on_replay m t words out).tables.ledger = ap (λ (x : Run). x.tables.ledger) r in
    let said : a ≡ (on_replay m t words out).answer = ap (λ (x : Run). x.answer) r in
    (r, (demand3 m t (calls_in words), λ k n zeros ran. rw ends (replayed_belongs m t words out k n zeros (sym said ∙ ran))))
