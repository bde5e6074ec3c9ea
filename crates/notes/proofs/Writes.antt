-- Laws on what a call writes. Assumes nothing.
use mathlib.Core.Path.{◌≡◌, sym, ap, ap₂, ◌∙◌}
use mathlib.Core.Bool.{true, false}
use mathlib.Core.List.{List, ◌++◌}
use Prim.Native.Nat.{ℕ, ◌+◌, ◌≤◌, ◌<◌}
use native.Mathlib.Omega.{arith}
use lib.ListN.{length, drop, length-append}
use borrow.Author.Tests.{le-leb, lt-leb}
use Rattle.rules.specs.Decisions.{refuse, accept, wrote, written}
use Rattle.rules.specs.Notes.{strings, list_ok, head_size, head_of, note_of, note_decision, write_note}
use Rattle.notes.specs.Steps.{name_count}
use Rattle.notes.proofs.GoodLists.{good_count}
use Rattle.notes.proofs.Placing.{length_head}

-- ---- bytes at the start of an output

module _ (out bytes : List ℕ) where
  -- "then a short output 11"
  pub too_short : length out < length bytes → wrote (refuse 11) out ≡ written out bytes
  unfolding written
  too_short l = rw (lt-leb (length bytes) (length out) l)

  -- they fit: they are written, and nothing past them changes
  pub written_whole : length bytes ≤ length out → wrote (accept (length bytes)) (bytes ++ drop (length bytes) out) ≡ written out bytes
  unfolding written
  written_whole l = rw (le-leb (length bytes) (length out) l)

  -- they are copied there
  pub written_copy : {size : ℕ} {new : List ℕ} → size ≡ length bytes → size ≤ length out → new ≡ bytes
      → wrote (accept size) (new ++ drop size out) ≡ written out bytes
  written_copy e l s = ap₂ (λ (k : ℕ) (t : List ℕ). wrote (accept k) (t ++ drop k out)) e s ∙ written_whole (omega arith)

-- ---- the note

module _ (ts ds out : List ℕ) where
  -- the length of a note
  pub note_length : length (note_of ts ds) ≡ head_size + length ts + length ds
  unfolding note_of
  note_length =
      let h = head_of (length (strings ts)) (length ts) (length (strings ds)) (length ds) in
      omega (arith, length-append h (ts ++ ds), length-append ts ds, length_head (length (strings ts)) (length ts) (length (strings ds)) (length ds))

  pub write_bad_text : list_ok ts ≡ false → wrote (refuse 16) out ≡ write_note ts ds out
  unfolding write_note note_decision
  write_bad_text e = rw e

  pub write_bad_data : list_ok ts ≡ true → list_ok ds ≡ false → wrote (refuse 16) out ≡ write_note ts ds out
  unfolding write_note note_decision
  write_bad_data e f = rw (e, f)

  module _ (e : list_ok ts ≡ true) (f : list_ok ds ≡ true) where
    good_lists : written out (note_of ts ds) ≡ write_note ts ds out
    unfolding write_note note_decision
    good_lists = rw (e, f)

    pub write_short : length out < head_size + length ts + length ds → wrote (refuse 11) out ≡ write_note ts ds out
    write_short l = too_short out (note_of ts ds) (omega (arith, note_length)) ∙ good_lists

    pub write_done : (last : List ℕ) (a c : ℕ) → head_size + length ts + length ds ≤ length out → a ≡ name_count ts → c ≡ name_count ds
        → last ≡ head_of a (length ts) c (length ds) ++ (ts ++ ds) ++ drop (head_size + length ts + length ds) out
        → wrote (accept (head_size + length ts + length ds)) last ≡ write_note ts ds out
    unfolding note_of
    write_done last a c l p q r =
        let n = note_length in
        ap₂ (λ (k : ℕ) (o : List ℕ). wrote (accept k) o) (sym n)
        (r
        ∙ ap₂ (λ (x y : ℕ). head_of x (length ts) y (length ds) ++ (ts ++ ds) ++ drop (head_size + length ts + length ds) out)
        (p ∙ good_count ts e) (q ∙ good_count ds f)
        ∙ ap (λ (k : ℕ). note_of ts ds ++ drop k out) (sym n))
        ∙ written_whole out (note_of ts ds) (omega (arith, n)) ∙ good_lists
