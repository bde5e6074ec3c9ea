-- The laws of a record: its size, what the code reads of it, and that it goes by its own bytes.
-- Assumes nothing.
use Prim.Native.Nat.{ℕ, zero, suc, ◌+◌, ◌-◌, ◌≤◌, ◌<◌}
use mathlib.Core.Path.{◌≡◌, refl, sym, ap, subst, ◌∙◌}
use mathlib.Core.Bool.{Bool, true, false}
use mathlib.Core.List.{List, [], ◌∷◌, ◌++◌}
use native.Mathlib.Nat.{add-zero}
use native.Mathlib.Omega.{arith}
use Rattle.std.specs.Prelude.{Option, Some, None}
use Rattle.std.specs.Bool.{then_some}
use borrow.Author.Tests.{leb-true, lt-leb, eqb-true}
use lib.Dec.{leb, eqb}
use lib.ListN.{length, take, replicate, get_or-append, length-append, length-take, length-replicate}
use lib.Seq.{get_or-take, drop-cons, take-take, take-append-le}
use Rattle.rules.specs.Basics.{all, from}
use Rattle.rules.specs.Records.{places_per_job}
use Rattle.rules.specs.Decisions.{Decision, refuse, accept, unless, then, decided}
use Rattle.rules.specs.Book.{Call as LawCall}
use Rattle.rules.specs.Journal.{Entry, Kind, request', release', rebind', install', clear', unknownKind, byte_at, part, marked, kind_of, size_of}
use Rattle.rules.specs.Journal.{unused_bytes_zero, call_in, read_record}
use Rattle.rules.proofs.Decisions.{not_accepted, passed, went_on}
use Rattle.rules.proofs.Filled.{equal_take}
use Rattle.rules.proofs.Lists.{both_true}
use Rattle.book.specs.declared.Call.{Call}
use Rattle.book.specs.Says.{Listed, Says}
use Rattle.journal.specs.declared.record.Entry.{Entry as Read}
use Rattle.journal.specs.Reads.{Good, Reads, zeroed}
use Rattle.journal.specs.Parts.{is_whole}
use Rattle.journal.proofs.Numbers.{part_length, long_take, part_take, number_take}
use Rattle.journal.proofs.Unused.{install_zero}

-- ---- its size

-- no record is shorter
pub size_least : (kind : Kind) → 32 ≤ size_of kind
unfolding size_of
size_least kind = omega arith

pub short_left : (bs : List ℕ) → length bs < 32 → false ≡ is_whole bs
unfolding is_whole
short_left bs h = let kind = kind_of (byte_at bs 2) in sym (lt-leb (size_of kind) (length bs) (omega (arith, size_least kind)))

-- a whole record has that many bytes
pub whole_long : (bs : List ℕ) → is_whole bs ≡ true → 32 ≤ length bs
unfolding is_whole
whole_long bs h = let kind = kind_of (byte_at bs 2) in omega (arith, size_least kind, leb-true (size_of kind) (length bs) h)

-- ---- what the code reads of it

-- a number but 1 to 5 is of no known kind
pub kind_unknown : (n : ℕ) → (n ≡ 1 → ⊥) → (n ≡ 2 → ⊥) → (n ≡ 3 → ⊥) → (n ≡ 4 → ⊥) → (n ≡ 5 → ⊥) → kind_of n ≡ unknownKind
kind_unknown zero a b c d e = refl
kind_unknown (suc zero) a b c d e = absurd (a refl)
kind_unknown (suc (suc zero)) a b c d e = absurd (b refl)
kind_unknown (suc (suc (suc zero))) a b c d e = absurd (c refl)
kind_unknown (suc (suc (suc (suc zero)))) a b c d e = absurd (d refl)
kind_unknown (suc (suc (suc (suc (suc zero))))) a b c d e = absurd (e refl)
kind_unknown (suc (suc (suc (suc (suc (suc n)))))) a b c d e = refl

module _ (bs : List ℕ) where
  -- "short record"
  pub short_damaged : is_whole bs ≡ false → read_record bs ≡ refuse 13
  unfolding is_whole read_record
  short_damaged h = rw h

  -- "A bad mark"
  pub mark_damaged : is_whole bs ≡ true → marked bs ≡ false → read_record bs ≡ refuse 13
  unfolding is_whole read_record
  mark_damaged h m = rw (h, m)

  -- a bad kind
  pub kind_damaged : is_whole bs ≡ true → marked bs ≡ true → kind_of (byte_at bs 2) ≡ unknownKind → read_record bs ≡ refuse 13
  unfolding is_whole read_record call_in
  kind_damaged h m k = rw (h, m) (rw k (go (unused_bytes_zero unknownKind bs)))
    where
      go : (ok : Bool) → unless {A = Entry} ok 13 (refuse 13) ≡ refuse 13
      go true = refl
      go false = refl

  -- a known kind: the call in it, or an unused byte that is not zero
  pub known_read : {kind : Kind} {size : ℕ} {good : Bool} {law : LawCall} {r : Option Read} {p : Call × Bool} (call : Call)
      → (is_whole bs ≡ true) × (marked bs ≡ true) → kind_of (byte_at bs 2) ≡ kind → size ≡ size_of (kind_of (byte_at bs 2))
      → p ≡ (call, good) → good ≡ unused_bytes_zero kind bs → call_in kind bs ≡ accept law
      → (unused_bytes_zero kind bs ≡ true → Says call (part 16 places_per_job bs) [] law)
      → r ≡ then_some p.1 (record { kind = byte_at bs 2; size = size; call = p.0 }) → Reads r (part 16 places_per_job bs) (read_record bs)
  unfolding is_whole read_record
  known_read {kind} {size} {good} {law} call t k s is g c says d =
      let read : read_record bs ≡ unless good 13 (accept (record { kind = byte_at bs 2; size = size; call = law })) = rw (t.0, t.1, s, k, c, sym g) in
      rw (d, is, read) (go good g)
    where
      go : (ok : Bool) → ok ≡ unused_bytes_zero kind bs
          → Reads (then_some ok (record { kind = byte_at bs 2; size = size; call = call })) (part 16 places_per_job bs)
          (unless ok 13 (accept (record { kind = byte_at bs 2; size = size; call = law })))
      go true f = record { law = law; says = says (sym f); is = refl }
      go false f = refl

-- what is read is good, or it is damaged
pub is_good : {r : Option Read} {e : Read} (places : List ℕ) {d : Decision Entry} → r ≡ Some e → Reads r places d
    → Good e.kind e.size e.call places d
is_good places {d} e h = subst (λ (r : Option Read). Reads r places d) e h

pub is_damaged : {r : Option Read} (places : List ℕ) {d : Decision Entry} → r ≡ None → Reads r places d → d ≡ refuse 13
is_damaged places {d} e h = subst (λ (r : Option Read). Reads r places d) e h

-- ---- the places of an install

-- bytes that are zero are zeros
zeros : (n k : ℕ) (bs : List ℕ) → k + n ≤ length bs → zeroed k n bs ≡ true → part k n bs ≡ replicate n 0
unfolding zeroed part all from
zeros zero k bs l h = refl
zeros (suc n) k bs l h =
    let b = both_true {a = eqb (byte_at bs k) 0} h in
    rw (drop-cons bs k 0 (omega arith), eqb-true (byte_at bs k) 0 b.0) (ap (λ (xs : List ℕ). 0 ∷ xs) (zeros n (suc k) bs (omega arith) b.1))

-- n places whose list has zeros behind it are the list, with any zeros behind it
held : (n k len w r : ℕ) (bs : List ℕ) → k + n ≤ length bs → n ≤ w → zeroed (k + len) (n - len) bs ≡ true
    → part k n bs ≡ take n (take len (part k n bs ++ replicate r 0) ++ replicate w 0)
unfolding part
held zero k len w r bs l h z = refl
held (suc n) k zero w r bs l h z =
    let e : suc n - 0 ≡ suc n = omega arith in
    rw (zeros (suc n) k bs l (rw (add-zero, e) at z)) (sym (equal_take (suc n) w 0 h))
held (suc n) k (suc len) w r bs l h z =
    let e : k + suc len ≡ suc k + len = omega arith in
    let f : suc n - suc len ≡ n - len = omega arith in
    rw (drop-cons bs k 0 (omega arith))
    (ap (λ (xs : List ℕ). byte_at bs k ∷ xs) (held n (suc k) len w r bs (omega arith) (omega arith) (rw (e, f) at z)))

-- the sixteen places hold the list of an install, whose length may be anything
pub places_listed : (bs : List ℕ) → 32 ≤ length bs → unused_bytes_zero install' bs ≡ true → byte_at bs 7 < 256
    → Listed (byte_at bs 7) (part 16 places_per_job bs) (take (byte_at bs 7) (part 16 places_per_job bs ++ replicate 255 0))
places_listed bs l h b =
    let behind = (both_true {a = eqb (byte_at bs 4) 0} (install_zero bs l ∙ h)).1 in
    record {
      long = rw (length-take, length-append, length-replicate, part_length 16 places_per_job bs l) (omega arith);
      held = held 16 16 (byte_at bs 7) 16 255 bs l (omega arith) behind;
    }

-- ---- it goes by its own bytes

module _ (w : ℕ) (bs : List ℕ) (enough : size_of (kind_of (byte_at bs 2)) ≤ w) where
  long : 32 ≤ w
  long = omega (arith, size_least (kind_of (byte_at bs 2)))

  byte_alone : (i : ℕ) → i < 32 → byte_at (take w bs) i ≡ byte_at bs i
  byte_alone i h = get_or-take w bs i 0 (omega (arith, long))

  call_alone : (kind : Kind) → call_in kind (take w bs) ≡ call_in kind bs
  unfolding call_in
  call_alone request' = rw (byte_alone 3 (omega arith), byte_alone 4 (omega arith))
  call_alone release' = rw (byte_alone 3 (omega arith), number_take w 8 4 bs (omega (arith, long)))
  call_alone rebind' = rw (byte_alone 3 (omega arith), number_take w 8 8 bs (omega (arith, long)))
  call_alone install' =
      rw (
        byte_alone 3 (omega arith),
        byte_alone 5 (omega arith),
        byte_alone 6 (omega arith),
        byte_alone 7 (omega arith),
        number_take w 8 8 bs (omega (arith, long)),
        part_take w 16 places_per_job bs long,
      )
  call_alone clear' = rw (byte_alone 3 (omega arith))
  call_alone unknownKind = refl

  -- what is read of it
  pub read_alone : read_record (take w bs) ≡ read_record bs
  unfolding read_record marked unused_bytes_zero
  read_alone =
      rw (
        byte_alone 2 (omega arith),
        long_take (size_of (kind_of (byte_at bs 2))) w bs enough,
        byte_alone 0 (omega arith),
        byte_alone 1 (omega arith),
        byte_alone 7 (omega arith),
        take-take (size_of (kind_of (byte_at bs 2))) w bs enough,
        call_alone (kind_of (byte_at bs 2)),
      )

-- a whole record is read alike, whatever follows it
pub read_before : (a b : List ℕ) → is_whole a ≡ true → read_record (a ++ b) ≡ read_record a
unfolding is_whole
read_before a b h =
    let size = size_of (kind_of (byte_at a 2)) in
    let fits = leb-true size (length a) h in
    let same : byte_at (a ++ b) 2 ≡ byte_at a 2 = get_or-append a b 0 2 (omega (arith, size_least (kind_of (byte_at a 2)))) in
    let within : size_of (kind_of (byte_at (a ++ b) 2)) ≤ size = rw same (omega arith) in
    sym (read_alone size (a ++ b) within) ∙ ap read_record (take-append-le size a b fits) ∙ read_alone size a (omega arith)

-- A good record: its size is its kind's, and it is there to its end.
pub record GoodRecord (bs : List ℕ) (e : Entry) : Type 0 where
  pub least : 32 ≤ e.size
  pub within : e.size ≤ length bs
  pub whole : is_whole bs ≡ true

pub good_record : (bs : List ℕ) {e : Entry} → read_record bs ≡ accept e → GoodRecord bs e
unfolding read_record is_whole
good_record bs {e} h =
    let kind = kind_of (byte_at bs 2) in
    let a = passed (leb (size_of kind) (length bs)) 13 _ h in
    let b = passed (marked bs) 13 _ a.1 in
    let c = passed (unused_bytes_zero kind bs) 13 _ b.1 in
    let d = went_on (call_in kind bs) _ c.1 in
    let size : e.size ≡ size_of kind = ap (λ (x : Decision Entry). decided (λ r. 0) (λ e. e.size) x) (sym d.2) in
    record { least = omega (arith, size_least kind); within = omega (arith, leb-true (size_of kind) (length bs) a.0); whole = a.0 }

-- "refusal 13": a damaged record has no other
pub damage : (bs : List ℕ) {r : ℕ} → read_record bs ≡ refuse r → r ≡ 13
unfolding read_record call_in
damage bs {r} h = go (leb (size_of kind) (length bs)) (marked bs) (unused_bytes_zero kind bs) kind _ h
  where
    kind : Kind
    kind = kind_of (byte_at bs 2)

    go : (a b c : Bool) (k : Kind) (entry : LawCall → Entry)
        → unless a 13 (unless b 13 (unless c 13 (then (call_in k bs) (λ x. accept (entry x))))) ≡ refuse r → r ≡ 13
    go false b c k entry e = cc
    go true false c k entry e = cc
    go true true false k entry e = cc
    go true true true request' entry e = absurd (not_accepted r _ e refl)
    go true true true release' entry e = absurd (not_accepted r _ e refl)
    go true true true rebind' entry e = absurd (not_accepted r _ e refl)
    go true true true install' entry e = absurd (not_accepted r _ e refl)
    go true true true clear' entry e = absurd (not_accepted r _ e refl)
    go true true true unknownKind entry e = cc
