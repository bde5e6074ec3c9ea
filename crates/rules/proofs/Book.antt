-- The book over lists of calls: a list in two parts, and whose page a page is.
-- Assumes nothing.
use Prim.Native.Nat.{ℕ, zero, suc, ◌+◌, ◌<◌}
use mathlib.Core.Path.{◌≡◌, refl, sym, ap, subst, ◌∙◌}
use mathlib.Core.Logic.{◌↔◌}
use mathlib.Core.Bool.{Bool, true, false, cond}
use mathlib.Core.Option.{Option, none, some}
use mathlib.Core.List.{List, [], ◌∷◌, ◌++◌}
use native.Mathlib.Omega.{arith}
use borrow.Author.Tests.{eqb-true, eqb-false}
use lib.Dec.{eqb}
use lib.ListN.{length, get_or, drop, set, replicate, length-set}
use lib.Seq.{get_or-set_same, get_or-set_other}
use Rattle.rules.specs.Basics.{keep, sum, Each}
use Rattle.rules.specs.Machine.{Machine}
use Rattle.rules.specs.Calls.{Answer, Tables, Write, after_writes}
use Rattle.rules.specs.Book.{Call, decision, step, answers, final}
use Rattle.rules.specs.Ledger.{writes_of, writes, last_else, last_write, holder, given_to}
use Rattle.rules.proofs.Calls.{AtPage, ledger_by_writes, lengths_kept, writes_at_pages, past_pages_kept}
use Rattle.rules.proofs.InOrder.{SameLengths, same_lengths, lengths_then}

-- ---- a list of calls in two parts

-- the tables after two lists are those after the second, from the tables after the first
pub final_append : (m : Machine) (t : Tables) (cs ds : List Call) → final m t (cs ++ ds) ≡ final m (final m t cs) ds
unfolding final
final_append m t [] ds = refl
final_append m t (c ∷ cs) ds = final_append m (step m t c).tables cs ds

-- the answers to two lists are those to the first, then those to the second
pub answers_append : (m : Machine) (t : Tables) (cs ds : List Call) → answers m t (cs ++ ds) ≡ answers m t cs ++ answers m (final m t cs) ds
unfolding final answers
answers_append m t [] ds = refl
answers_append m t (c ∷ cs) ds = ap (λ (l : List Answer). (step m t c).answer ∷ l) (answers_append m (step m t c).tables cs ds)

-- each table keeps its length
pub final_lengths : (m : Machine) (t : Tables) (cs : List Call) → SameLengths t (final m t cs)
unfolding final
final_lengths m t [] = same_lengths
final_lengths m t (c ∷ cs) = lengths_then (lengths_kept m t c) (final_lengths m (step m t c).tables cs)

-- "Bytes past the last page are never changed": by any list of calls, on any tables
pub past_pages_kept_all : (m : Machine) (t : Tables) (cs : List Call)
    → drop (sum m.page_counts) (final m t cs).ledger ≡ drop (sum m.page_counts) t.ledger
unfolding final
past_pages_kept_all m t [] = refl
past_pages_kept_all m t (c ∷ cs) = past_pages_kept_all m (step m t c).tables cs ∙ past_pages_kept m t c

-- ---- the ledger goes by what is written

-- what two lists of writes leave is what the second leaves after the first
pub writes_append : (ledger : List ℕ) (vs ws : List Write) → after_writes ledger (vs ++ ws) ≡ after_writes (after_writes ledger vs) ws
unfolding after_writes
writes_append ledger [] ws = refl
writes_append ledger (v ∷ vs) ws = writes_append (set ledger v.at v.value) vs ws

-- "A grant to job j writes j + 1 at its page in the ledger, a release 0. Nothing else changes the ledger": the ledger after a list of
-- calls is the ledger with what they write
pub final_by_writes : (m : Machine) (t : Tables) (cs : List Call) → (final m t cs).ledger ≡ after_writes t.ledger (writes m t cs)
unfolding final writes after_writes
final_by_writes m t [] = refl
final_by_writes m t (c ∷ cs) =
    final_by_writes m (step m t c).tables cs
    ∙ ap (λ (l : List ℕ). after_writes l (writes m (step m t c).tables cs)) (ledger_by_writes m t c)
    ∙ sym (writes_append t.ledger (writes_of (decision m t c)) (writes m (step m t c).tables cs))

-- the writes that stand in a table of this length
abbrev InTable : ℕ → List Write → Type 0
InTable k ws = Each (λ w. w.at < k) ws

in_table_append : (k : ℕ) (vs ws : List Write) → InTable k vs → InTable k ws → InTable k (vs ++ ws)
unfolding Each
in_table_append k [] ws h g = g
in_table_append k (v ∷ vs) ws h g = (h.0, in_table_append k vs ws h.1 g)

in_table_at : (counts ledger : List ℕ) (ws : List Write) → Each (AtPage counts ledger) ws → InTable (length ledger) ws
unfolding Each
in_table_at counts ledger [] h = tt
in_table_at counts ledger (w ∷ ws) h = (h.0.in_table, in_table_at counts ledger ws h.1)

-- whatever a list of calls writes stands in the page table
writes_in_table : (m : Machine) (t : Tables) (cs : List Call) → InTable (length t.ledger) (writes m t cs)
unfolding writes Each
writes_in_table m t [] = tt
writes_in_table m t (c ∷ cs) =
    in_table_append (length t.ledger) (writes_of (decision m t c)) (writes m (step m t c).tables cs)
    (in_table_at m.page_counts t.ledger (writes_of (decision m t c)) (writes_at_pages m t c))
    (subst (λ (k : ℕ). InTable k (writes m (step m t c).tables cs)) (lengths_kept m t c).ledger (writes_in_table m (step m t c).tables cs))

-- ---- whose page a page is

-- the byte of a page after the last write at it, which was b before all
abbrev pub byte_after : ℕ → Option Write → ℕ
byte_after b none = b
byte_after b (some w) = w.value

-- the byte at page p is what the last write at it wrote
last_written : (ledger : List ℕ) (ws : List Write) (p b : ℕ) (o : Option Write) → InTable (length ledger) ws → get_or ledger p 0 ≡ byte_after b o
    → get_or (after_writes ledger ws) p 0 ≡ byte_after b (last_else o (keep (λ w. eqb w.at p) ws))
unfolding after_writes last_else keep Each
last_written ledger [] p b o i h = h
last_written ledger (w ∷ ws) p b o i h =
    go (eqb w.at p) refl (λ o. last_written (set ledger w.at w.value) ws p b o (rw (length-set ledger w.at w.value) i.1))
  where
    later : List Write
    later = keep (λ w. eqb w.at p) ws

    here : eqb w.at p ≡ true → get_or (set ledger w.at w.value) p 0 ≡ w.value
    here e = subst (λ (x : ℕ). get_or (set ledger w.at w.value) x 0 ≡ w.value) (eqb-true w.at p e)
        (get_or-set_same ledger w.at w.value 0 i.0)

    go : (d : Bool) → eqb w.at p ≡ d
        → ((o : Option Write) → get_or (set ledger w.at w.value) p 0 ≡ byte_after b o
        → get_or (after_writes (set ledger w.at w.value) ws) p 0 ≡ byte_after b (last_else o later))
        → get_or (after_writes (set ledger w.at w.value) ws) p 0 ≡ byte_after b (last_else o (cond d (w ∷ later) later))
    go true e ih = ih (some w) (here e)
    go false e ih = ih o (get_or-set_other ledger w.at p w.value 0 (λ q. eqb-false w.at p e (sym q)) ∙ h)

-- From any page table: the byte of a page at the end is what the last write at it wrote, else the byte at the start.
pub last_byte : (m : Machine) (t : Tables) (cs : List Call) (p : ℕ)
    → get_or (final m t cs).ledger p 0 ≡ byte_after (get_or t.ledger p 0) (last_write m t cs p)
unfolding last_write
last_byte m t cs p =
    ap (λ (l : List ℕ). get_or l p 0) (final_by_writes m t cs)
    ∙ last_written t.ledger (writes m t cs) p (get_or t.ledger p 0) none (writes_in_table m t cs) refl

zero_byte : (k p : ℕ) → ◌≡◌ {A = ℕ} (get_or (replicate k 0) p 0) 0
zero_byte zero p = refl
zero_byte (suc k) zero = refl
zero_byte (suc k) (suc p) = zero_byte k p

owner : (o : Option Write) (j : ℕ) → (byte_after 0 o ≡ j + 1) ↔ (given_to o ≡ some j)
unfolding given_to holder
owner none j = (λ e. absurd (omega arith), λ e. absurd (let z : ◌≡◌ {A = ℕ} 0 1 = cc in omega arith))
owner (some w) j = go w.value
  where
    go : (b : ℕ) → (b ≡ j + 1) ↔ (holder b ≡ some j)
    go zero = (λ e. absurd (omega arith), λ e. absurd (let z : ◌≡◌ {A = ℕ} 0 1 = cc in omega arith))
    go (suc i) = (λ e. ap (λ (x : ℕ). some x) (omega arith), λ e. let q : i ≡ j = cc in omega arith)

-- "From a page table of zeros, changed only by these calls, a page belongs to a job exactly when the last step that granted or released
-- it gave it to that job."
pub page_owner : (m : Machine) (t : Tables) (k : ℕ) → t.ledger ≡ replicate k 0 → (cs : List Call) (p j : ℕ)
    → (get_or (final m t cs).ledger p 0 ≡ j + 1) ↔ (given_to (last_write m t cs p) ≡ some j)
page_owner m t k zeros cs p j =
    let e : get_or (final m t cs).ledger p 0 ≡ byte_after 0 (last_write m t cs p) =
    last_byte m t cs p ∙ ap (λ (b : ℕ). byte_after b (last_write m t cs p)) (ap (λ (l : List ℕ). get_or l p 0) zeros ∙ zero_byte k p) in
    rw e (owner (last_write m t cs p) j)
