-- What the code reads out of a record (document 01, "The journal program").
use Rattle.std.specs.Prelude.{ℕ, ◌≡◌, Bool, List, [], Option, Some, None, eqb}
use Rattle.rules.specs.Basics.{all, from}
use Rattle.rules.specs.Decisions.{Decision, refuse, accept}
use Rattle.rules.specs.Book.{Call as LawCall}
use Rattle.rules.specs.Journal.{Entry, byte_at}
use Rattle.book.specs.declared.Call.{Call}
use Rattle.book.specs.Says.{Says}
use Rattle.journal.specs.declared.record.Entry.{Entry as Read}

-- A good record: what is read of it stands for the entry of the rules. No record has a list for a map.
pub record Good (kind size : ℕ) (call : Call) (places : List ℕ) (d : Decision Entry) : Type 0 where
  pub law : LawCall
  pub says : Says call places [] law
  pub is : d ≡ accept (record { kind = kind; size = size; call = law })

-- what is read of a record, with the places beside it, stands for what the rules read
abbrev pub Reads : Option Read → List ℕ → Decision Entry → Type 0
Reads (Some e) places d = Good e.kind e.size e.call places d
Reads None places d = d ≡ refuse 13

-- the n bytes from byte k on are zero
unfoldable pub zeroed : ℕ → ℕ → List ℕ → Bool
zeroed k n bs = all (λ i. eqb (byte_at bs i) 0) (from k n)
