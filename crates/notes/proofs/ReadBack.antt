-- "show that reading it returns the same names": the note that the writer writes is good, and each of its names is the lists'.
-- Assumes nothing.
use mathlib.Core.Path.{◌≡◌, refl, sym, ap, ap₂, ◌∙◌}
use mathlib.Core.Bool.{true, ◌&&◌}
use mathlib.Core.List.{List, [], ◌∷◌, ◌++◌}
use Prim.Native.Nat.{ℕ, zero, suc, ◌+◌, ◌<◌}
use native.Mathlib.Omega.{arith}
use lib.ListN.{length, take, drop, get_or}
use lib.Seq.{take-append_seam, drop-append_seam, drop-append-add, take-length}
use borrow.Author.Tests.{eq-eqb, le-leb}
use Rattle.rules.specs.Basics.{each}
use Rattle.rules.specs.Records.{bytes_of}
use Rattle.rules.specs.Decisions.{accept, refuse}
use Rattle.rules.specs.Journal.{part, number}
use Rattle.rules.specs.Notes.{
  strings,
  in_front,
  size_of,
  list_ok,
  head_size,
  text_count,
  text_size,
  data_count,
  data_size,
  text_part,
  data_part,
  note_ok,
  all_names,
}
use Rattle.rules.specs.Notes.{in_part, name_part, head_of, note_of, note_decision, write_note}
use Rattle.rules.proofs.Bytes.{from_bytes_lem}
use Rattle.rules.proofs.Decisions.{passed}
use Rattle.rules.proofs.Lists.{both_true}
use Rattle.notes.proofs.GoodLists.{good_list, list_short}
use Rattle.notes.proofs.Handed.{good_names}
use Rattle.notes.proofs.Outputs.{Wrote, call_wrote, call_refused}
use Rattle.notes.proofs.Writes.{note_length}

-- ---- the four numbers

module _ (a b c d : ℕ) (rest : List ℕ) where
  head_at_0 : a < 4294967296 → number 0 4 (head_of a b c d ++ rest) ≡ a
  unfolding number part head_of bytes_of
  head_at_0 l = from_bytes_lem 4 a l

  head_at_4 : b < 4294967296 → number 4 4 (head_of a b c d ++ rest) ≡ b
  unfolding number part head_of bytes_of
  head_at_4 l = from_bytes_lem 4 b l

  head_at_8 : c < 4294967296 → number 8 4 (head_of a b c d ++ rest) ≡ c
  unfolding number part head_of bytes_of
  head_at_8 l = from_bytes_lem 4 c l

  head_at_12 : d < 4294967296 → number 12 4 (head_of a b c d ++ rest) ≡ d
  unfolding number part head_of bytes_of
  head_at_12 l = from_bytes_lem 4 d l

-- ---- the note of two good lists

module _ (ts ds : List ℕ) (good-ts : list_ok ts ≡ true) (good-ds : list_ok ds ≡ true) where
  text_count_lem : text_count (note_of ts ds) ≡ length (strings ts)
  unfolding note_of
  text_count_lem = head_at_0 (length (strings ts)) (length ts) (length (strings ds)) (length ds) (ts ++ ds) (omega (arith, (good_list ts good-ts).most))

  text_size_lem : text_size (note_of ts ds) ≡ length ts
  unfolding note_of
  text_size_lem = head_at_4 (length (strings ts)) (length ts) (length (strings ds)) (length ds) (ts ++ ds) (omega (arith, list_short ts good-ts))

  data_count_lem : data_count (note_of ts ds) ≡ length (strings ds)
  unfolding note_of
  data_count_lem = head_at_8 (length (strings ts)) (length ts) (length (strings ds)) (length ds) (ts ++ ds) (omega (arith, (good_list ds good-ds).most))

  data_size_lem : data_size (note_of ts ds) ≡ length ds
  unfolding note_of
  data_size_lem = head_at_12 (length (strings ts)) (length ts) (length (strings ds)) (length ds) (ts ++ ds) (omega (arith, list_short ds good-ds))

  past_head : (n : ℕ) → drop (head_size + n) (note_of ts ds) ≡ drop n (ts ++ ds)
  unfolding note_of head_of bytes_of
  past_head n = drop-append-add (head_of (length (strings ts)) (length ts) (length (strings ds)) (length ds)) (ts ++ ds) n

  text_part_lem : text_part (note_of ts ds) ≡ ts
  unfolding part
  text_part_lem = ap₂ (λ (n : ℕ) (xs : List ℕ). take n xs) text_size_lem (past_head 0) ∙ take-append_seam ts ds

  data_part_lem : data_part (note_of ts ds) ≡ ds
  unfolding part
  data_part_lem =
      ap₂ (λ (n m : ℕ). take n (drop (head_size + m) (note_of ts ds))) data_size_lem text_size_lem
      ∙ ap (take (length ds)) (past_head (length ts) ∙ drop-append_seam ts ds) ∙ take-length ds

  -- the note is good
  pub note_good : note_ok (note_of ts ds) ≡ true
  unfolding note_ok
  note_good =
      let n = note_length ts ds [] in
      rw (
        le-leb head_size (length (note_of ts ds)) (omega (arith, n)),
        text_part_lem,
        data_part_lem,
        text_size_lem,
        data_size_lem,
        text_count_lem,
        data_count_lem,
        n,
        eq-eqb (head_size + length ts + length ds) (head_size + length ts + length ds) refl,
        good-ts,
        good-ds,
        eq-eqb (length (strings ts)) (length (strings ts)) refl,
        eq-eqb (length (strings ds)) (length (strings ds)) refl,
      )

  -- its names are the lists', text before data
  pub note_names : all_names (note_of ts ds) ≡ strings ts ++ strings ds
  unfolding all_names
  note_names = rw (text_part_lem, data_part_lem)

  -- "reading it returns the same names": for every k, and an empty part past the last
  pub read_back : (k : ℕ) → in_part (note_of ts ds) (name_part (note_of ts ds) k) ≡ get_or (strings ts ++ strings ds) k []
  read_back k = good_names (note_of ts ds) k note_good ∙ ap (λ (ws : List (List ℕ)). get_or ws k []) note_names

-- ---- what the writer leaves

module _ (ts ds out : List ℕ) (n : ℕ) (e : (write_note ts ds out).answer ≡ accept n) where
  wrote_note : Wrote (note_decision ts ds) out n
  unfolding write_note
  wrote_note = call_wrote (note_decision ts ds) out n e

  both_good : (list_ok ts ≡ true) × (list_ok ds ≡ true) × (note_of ts ds ≡ wrote_note.bytes)
  unfolding note_decision
  both_good =
      let p = passed (list_ok ts && list_ok ds) 16 (accept (note_of ts ds)) wrote_note.tests in
      let g = both_true {a = list_ok ts} p.0 in
      (g.0, g.1, cc)

  -- what was written is the note
  pub written_note : take n (write_note ts ds out).output ≡ note_of ts ds
  unfolding write_note
  written_note = wrote_note.front ∙ sym both_good.2

  -- reading it returns the same names, for every k
  pub written_names : (k : ℕ) → let note = take n (write_note ts ds out).output in in_part note (name_part note k) ≡ get_or (strings ts ++ strings ds) k []
  written_names k =
      ap (λ (note : List ℕ). in_part note (name_part note k)) written_note ∙ read_back ts ds both_good.0 both_good.1 k

  -- "no output changes past what is written"
  pub written_past : drop n (write_note ts ds out).output ≡ drop n out
  unfolding write_note
  written_past = wrote_note.past

-- a refused note leaves the output
pub refused_note : (ts ds out : List ℕ) (r : ℕ) → (write_note ts ds out).answer ≡ refuse r → (write_note ts ds out).output ≡ out
unfolding write_note
refused_note ts ds out r e = call_refused (note_decision ts ds) out r e

-- ---- "names with their zeros, end to end"

front_laid : (x : ℕ) (xs : List ℕ) (ws : List (List ℕ)) → size_of (in_front x ws) ≡ suc (length xs)
    → (size_of ws ≡ length xs → each (λ w. w ++ (0 ∷ [])) ws ≡ xs) → each (λ w. w ++ (0 ∷ [])) (in_front x ws) ≡ x ∷ xs
unfolding in_front each size_of
front_laid x xs [] e f = absurd (omega arith)
front_laid x xs (w ∷ ws) e f = ap (λ (ys : List ℕ). x ∷ ys) (f (omega arith))

-- a list that its strings fill is these strings, each with its zero, end to end: none of its bytes is lost
pub strings_laid : (xs : List ℕ) → size_of (strings xs) ≡ length xs → each (λ w. w ++ (0 ∷ [])) (strings xs) ≡ xs
unfolding strings each size_of
strings_laid [] e = refl
strings_laid (zero ∷ xs) e = ap (λ (ys : List ℕ). 0 ∷ ys) (strings_laid xs (omega arith))
strings_laid (suc x ∷ xs) e = front_laid (suc x) xs (strings xs) e (strings_laid xs)
