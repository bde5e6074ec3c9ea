-- What the writer answers and leaves in the output is what document 01 says.
-- Assumes nothing.
use mathlib.Core.Path.{◌≡◌, refl, sym, ap, ap₂, ◌∙◌}
use mathlib.Core.Bool.{true, false}
use mathlib.Core.List.{List, [], ◌∷◌, ◌++◌, map, append-nil}
use Prim.Native.Nat.{ℕ, zero, suc, ◌-◌, ◌≤◌, ◌<◌}
use native.Mathlib.Omega.{arith}
use lib.ListN.{length, take, drop, length-take, length-drop, drop_of_length-le}
use lib.Seq.{take-length}
use borrow.Author.Tests.{le-leb, lt-leb}
use Rattle.rules.specs.Machine.{nodes_ok}
use Rattle.rules.specs.Masks.{most_nodes, below, has}
use Rattle.rules.specs.Basics.{keep, each, from}
use Rattle.rules.specs.Decisions.{refuse, accept, wrote, written}
use Rattle.rules.specs.Text.{comma, Run, runs, run_text, commas, text_of, write_decision, write_text}
use Rattle.nodelist.specs.Writer.{runs_from, line_run, line_of}

-- ---- the text is the line past its first comma

commas_line : (rs : List Run) → commas (map run_text rs) ≡ drop 1 (each line_run rs)
unfolding commas each
commas_line [] = refl
commas_line (r ∷ []) = sym (append-nil (run_text r))
commas_line (r ∷ s ∷ rs) = ap (λ (t : List ℕ). run_text r ++ (comma ∷ t)) (commas_line (s ∷ rs))

-- the text of a mask is its line without the first comma
pub text_line : (m : ℕ) → text_of m ≡ drop 1 (line_of m)
unfolding text_of line_of runs_from
text_line m = commas_line (runs (keep (has m) (from 0 most_nodes)))

-- so it is one byte shorter
pub text_length : (m : ℕ) → length (text_of m) ≡ length (line_of m) - 1
text_length m = ap length (text_line m) ∙ length-drop 1 (line_of m)

take_tail : (k : ℕ) (l : List ℕ) → take k (drop 1 l) ≡ drop 1 (take (suc k) l)
take_tail zero [] = refl
take_tail (suc k) [] = refl
take_tail k (x ∷ xs) = refl

-- the part of a line from its second byte on is the text
pub text_part_lem : (m len : ℕ) (line : List ℕ) → 0 < len → take len line ≡ line_of m → take (len - 1) (drop 1 line) ≡ text_of m
text_part_lem m len line l e =
    let q : suc (len - 1) ≡ len = omega arith in
    take_tail (len - 1) line ∙ ap (λ (k : ℕ). drop 1 (take k line)) q ∙ ap (drop 1) e ∙ sym (text_line m)

-- a line that gives its first len bytes has them
pub long_enough : (len : ℕ) (line text : List ℕ) → len ≡ length text → take len line ≡ text → len ≤ length line
long_enough len line text e t = omega (arith, length-take len line, ap length t)

-- ---- the answers

module _ (m : ℕ) (out : List ℕ) where
  -- "11 output shorter than the text"
  pub text_too_long : length out < length (text_of m) → written out (text_of m) ≡ wrote (refuse 11) out
  unfolding written
  text_too_long l = rw (lt-leb (length (text_of m)) (length out) l)

  -- the text fits: it is written, and no byte past it changes
  pub text_done : length (text_of m) ≤ length out → written out (text_of m) ≡ wrote (accept (length (text_of m))) (text_of m ++ drop (length (text_of m)) out)
  unfolding written
  text_done l = rw (le-leb (length (text_of m)) (length out) l)

  -- the text is copied to the start of the output
  pub text_copied : {size : ℕ} {src last : List ℕ} → length (text_of m) ≤ length out → src ≡ text_of m → size ≡ length src
      → last ≡ take (length src) src ++ drop (length src) out → wrote (accept size) last ≡ written out (text_of m)
  text_copied {size} {src} {last} l e s c =
      ap₂ (λ (k : ℕ) (t : List ℕ). wrote (accept k) t) s (c ∙ ap (λ (t : List ℕ). t ++ drop (length src) out) (take-length src))
      ∙ ap (λ (t : List ℕ). wrote (accept (length t)) (t ++ drop (length t) out)) e
      ∙ sym (text_done l)

  -- an empty text fits everywhere
  pub text_empty : length (line_of m) ≡ 0 → written out (text_of m) ≡ wrote (accept 0) out
  text_empty l =
      let z : length (text_of m) ≡ 0 = text_length m ∙ ap (λ (x : ℕ). x - 1) l in
      text_done (omega arith)
      ∙ ap₂ (λ (k : ℕ) (t : List ℕ). wrote (accept k) (t ++ drop k out)) z (drop_of_length-le (text_of m) {i = 0} (omega arith))

  module _ (n : ℕ) where
    -- "N outside 1 to 64 is refusal 1, .. written bits at N or above 6, both tested first"
    pub write_nodes_refused : nodes_ok n ≡ false → write_text n m out ≡ wrote (refuse 1) out
    unfolding write_text write_decision
    write_nodes_refused e = rw e

    -- bits at N or above
    pub write_mask_refused : nodes_ok n ≡ true → below n m ≡ false → write_text n m out ≡ wrote (refuse 6) out
    unfolding write_text write_decision
    write_mask_refused e f = rw (e, f)

    -- else the text decides
    pub write_text_lem : nodes_ok n ≡ true → below n m ≡ true → write_text n m out ≡ written out (text_of m)
    unfolding write_text write_decision
    write_text_lem e f = rw (e, f)
