-- What a call that writes leaves in its output. Assumes nothing.
use mathlib.Core.Path.{◌≡◌, refl, sym, ap, ◌∙◌}
use mathlib.Core.Bool.{Bool, true, false}
use mathlib.Core.List.{List, ◌++◌}
use Prim.Native.Nat.{ℕ}
use lib.Dec.{leb}
use lib.ListN.{length, take, drop}
use lib.Seq.{take_at, drop_at}
use Rattle.rules.specs.Decisions.{Decision, refuse, accept, decided, Written, not_written, written}
use Rattle.rules.proofs.Decisions.{not_accepted}

-- what the tests of a call come to, with its output
abbrev pub writing : Decision (List ℕ) → List ℕ → Written
writing d out = decided (not_written out) (written out) d

-- k bytes were written: these, at the start, and nothing changed past them
pub record Wrote (d : Decision (List ℕ)) (out : List ℕ) (k : ℕ) : Type 0 where
  pub bytes : List ℕ
  pub tests : d ≡ accept bytes
  pub size : k ≡ length bytes
  pub front : take k (writing d out).output ≡ bytes
  pub past : drop k (writing d out).output ≡ drop k out

pub call_wrote : (d : Decision (List ℕ)) (out : List ℕ) (k : ℕ) → (writing d out).answer ≡ accept k → Wrote d out k
unfolding written
call_wrote (refuse r) out k e = absurd (not_accepted r (refuse r) refl e)
call_wrote (accept xs) out k e = by (leb (length xs) (length out)) refl
  where
    by : (t : Bool) → leb (length xs) (length out) ≡ t → Wrote (accept xs) out k
    by true l =
        let f : ◌≡◌ {A = Decision ℕ} (accept (length xs)) (accept k) = rw l at e in
        let s : k ≡ length xs = cc in
        let o : (writing (accept xs) out).output ≡ xs ++ drop k out = rw (l, s) in
        record {
          bytes = xs;
          tests = refl;
          size = s;
          front = ap (take k) o ∙ take_at xs (drop k out) k (sym s);
          past = ap (drop k) o ∙ drop_at xs (drop k out) k (sym s);
        }
    by false l = absurd (not_accepted 11 (refuse 11) refl (rw l at e))

-- "Every refusal .. leaves all lent memory unchanged"
pub call_refused : (d : Decision (List ℕ)) (out : List ℕ) (r : ℕ) → (writing d out).answer ≡ refuse r → (writing d out).output ≡ out
unfolding written
call_refused (refuse q) out r e = refl
call_refused (accept xs) out r e = by (leb (length xs) (length out)) refl
  where
    by : (t : Bool) → leb (length xs) (length out) ≡ t → (writing (accept xs) out).output ≡ out
    by true l =
        let f : ◌≡◌ {A = Decision ℕ} (accept (length xs)) (refuse r) = rw l at e in
        absurd (not_accepted r (accept (length xs)) f refl)
    by false l = rw l
