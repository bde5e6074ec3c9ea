-- Document 01, "The journal program": what it writes for what it reads, on lists of bytes.
use Rattle.std.specs.Prelude.{ℕ, zero, suc, ◌+◌, ◌*◌, Bool, false, ◌&&◌, ◌||◌, List, [], ◌∷◌, ◌++◌, map, length, get_or, take, drop, replicate, leb, ltb, eqb}
use Rattle.rules.specs.Basics.{from, sum, between, all_at}
use Rattle.rules.specs.Machine.{Machine, node_count, machine_ok}
use Rattle.rules.specs.Records.{bytes_of, from_bytes, words_per_job, places_per_job, most_jobs, policy}
use Rattle.rules.specs.Maps.{identity_maps}
use Rattle.rules.specs.Decisions.{Decision, refuse, accept, unless, then, decided, Written, written}
use Rattle.rules.specs.Calls.{Tables, tables_of, refused, numbers}
use Rattle.rules.specs.Book.{Call, request, release, install, rebind, clear, step}

-- byte k, k-th of n bytes on, and these as a number; "numbers little-endian"
abbrev pub byte_at : List ℕ → ℕ → ℕ
byte_at bs k = get_or bs k 0

unfoldable pub part : ℕ → ℕ → List ℕ → List ℕ
part k n bs = take n (drop k bs)

unfoldable pub number : ℕ → ℕ → List ℕ → ℕ
number k n bs = from_bytes (part k n bs)

-- "mark 4E 50"
unfoldable pub marked : List ℕ → Bool
marked bs = eqb (byte_at bs 0) 0x4E && eqb (byte_at bs 1) 0x50

-- "Answers are 12 bytes: mark 4E 41, kind, refusal, node or FF, three zeros, 32-bit page or FFFFFFFF"
unfoldable pub answer_bytes : ℕ → List ℕ → List ℕ
answer_bytes kind ns = 0x4E ∷ 0x41 ∷ kind ∷ byte_at ns 0 ∷ byte_at ns 1 ∷ 0 ∷ 0 ∷ 0 ∷ bytes_of 4 (byte_at ns 2)

-- "answers kind FF, refusal 13, node and page as in any refusal, and ends"
unfoldable pub faulty : ℕ → List ℕ
faulty r = answer_bytes 0xFF (numbers (refused r))

-- "Machine record: mark 4E 50, kind 0, N (1 to 16), CPU count (1 to 64), a zero": the six head bytes
abbrev pub head_size : ℕ
head_size = 6

unfoldable pub head_ok : List ℕ → Bool
head_ok bs = leb head_size (length bs) && marked bs && eqb (byte_at bs 2) 0 && eqb (byte_at bs 5) 0

-- "N (1 to 16), CPU count (1 to 64)"
unfoldable pub counts_ok : List ℕ → Bool
counts_ok bs = between 1 16 (byte_at bs 3) && between 1 64 (byte_at bs 4)

-- "then N 16-bit page counts, the CPU bytes, the distances"
unfoldable pub machine_size : List ℕ → ℕ
machine_size bs = head_size + 2 * byte_at bs 3 + byte_at bs 4 + byte_at bs 3 * byte_at bs 3

unfoldable pub machine_in : List ℕ → Machine
machine_in bs = record {
  page_counts = map (λ i. number (head_size + 2 * i) 2 bs) (from 0 (byte_at bs 3));
  cpu_nodes = part (head_size + 2 * byte_at bs 3) (byte_at bs 4) bs;
  distances = part (head_size + 2 * byte_at bs 3 + byte_at bs 4) (byte_at bs 3 * byte_at bs 3) bs;
}

-- "at most 16,384 pages"
abbrev pub journal_pages : ℕ
journal_pages = 16384

-- "64 fresh jobs"; every page is free, and so counted; M-103: "Journal jobs have map 0 to N-1"
unfoldable pub start_of : Machine → Tables
start_of m =
    tables_of (replicate (sum m.page_counts) 0) (replicate (words_per_job * most_jobs) 0) m.page_counts
    (identity_maps (node_count m) most_jobs)

-- "kind (1 request, 2 release, 3 rebind, 4 install, 5 clear)"
pub data Kind : Type 0 where
  request' release' rebind' install' clear' unknownKind : Kind

abbrev pub kind_of : ℕ → Kind
kind_of k = get_or (unknownKind ∷ request' ∷ release' ∷ rebind' ∷ install' ∷ clear' ∷ []) k unknownKind

-- "Then 32-byte records": the size of a record, by its kind
unfoldable pub size_of : Kind → ℕ
size_of kind = 32

-- "job, CPU, mode, flag, list length, mask in 8-15 (release: page in 8-11), places in 16-31. Request uses job and CPU; release job and
-- page; rebind job and mask; install all but CPU, its places only up to the list length; clear job": byte i of a record is used
unfoldable pub used : Kind → ℕ → ℕ → Bool
used request' len i = between 3 4 i
used release' len i = eqb i 3 || between 8 11 i
used rebind' len i = eqb i 3 || between 8 15 i
used install' len i = eqb i 3 || between 5 15 i || (leb 16 i && ltb i (16 + len))
used clear' len i = eqb i 3
used unknownKind len i = false

-- "Unused bytes are zero": of a record of this kind, after mark and kind
unfoldable pub unused_bytes_zero : Kind → List ℕ → Bool
unused_bytes_zero kind bs = all_at (λ i b. ltb i 3 || used kind (byte_at bs 7) i || eqb b 0) 0 (take (size_of kind) bs)

-- the call in a record; a list length over 16 counts as that many places
unfoldable pub call_in : Kind → List ℕ → Decision Call
call_in request' bs = accept (request (byte_at bs 3) (byte_at bs 4))
call_in release' bs = accept (release (byte_at bs 3) (number 8 4 bs))
call_in rebind' bs = accept (rebind (byte_at bs 3) (number 8 8 bs))
call_in install' bs =
    let places = take (byte_at bs 7) (part 16 places_per_job bs ++ replicate 255 0) in
    accept (install (byte_at bs 3) (policy (byte_at bs 5) (byte_at bs 6) (number 8 8 bs) places))
call_in clear' bs = accept (clear (byte_at bs 3))
call_in unknownKind bs = refuse 13

-- A record that is read: the number of its kind, its size and its call.
pub record Entry : Type 0 where
  pub kind : ℕ
  pub size : ℕ
  pub call : Call

-- "A bad mark, kind, unused byte or short record .. refusal 13": the record that the bytes start with
unfoldable pub read_record : List ℕ → Decision Entry
read_record bs =
    let kind = kind_of (byte_at bs 2) in
    unless (leb (size_of kind) (length bs)) 13
    (unless (marked bs) 13
    (unless (unused_bytes_zero kind bs) 13
    (then (call_in kind bs) (λ c. accept (record { kind = byte_at bs 2; size = size_of kind; call = c })))))

-- "The end of input after a whole record ends the run without an answer". The first argument bounds the number of records.
unfoldable pub run_from : ℕ → Machine → Tables → List ℕ → List ℕ
run_from zero m t bs = []
run_from (suc more) m t [] = []
run_from (suc more) m t (b ∷ bs) =
    decided
    faulty
    (λ e. answer_bytes e.kind (numbers (step m t e.call).answer) ++ run_from more m (step m t e.call).tables (drop e.size (b ∷ bs)))
    (read_record (b ∷ bs))

-- "In the machine record: the six head bytes' 13, then N and CPU count, then shortness, then the other rules": its size
unfoldable pub opening : List ℕ → Decision ℕ
opening bs =
    unless (head_ok bs) 13
    (unless (counts_ok bs) 1
    (unless (leb (machine_size bs) (length bs)) 13
    (unless (machine_ok (machine_in bs) && leb (sum (machine_in bs).page_counts) journal_pages) 1
    (accept (machine_size bs)))))

-- "Standard input": the machine record, then the records
unfoldable pub journal : List ℕ → List ℕ
journal bs =
    let m = machine_in bs in
    decided faulty (λ size. run_from (length bs) m (start_of m) (drop size bs)) (opening bs)

-- a whole journal's answers, at the start of an output: "11 output shorter than the text"
unfoldable pub write_journal : List ℕ → List ℕ → Written
write_journal input out = written out (journal input)

-- for a proof that computes: `unfolding open_journal` opens every definition of this file
unfoldable pub open_journal : Unit {0}
unfolding part number marked answer_bytes faulty head_ok counts_ok machine_size machine_in start_of size_of used unused_bytes_zero call_in read_record
    run_from opening journal write_journal
open_journal = tt
