-- How many bytes a read brought, and what a part left.
-- Assumes nothing.
use Rattle.std.proofs.Common.{◌≡◌, ℕ, ◌+◌, ◌-◌, ◌*◌, ◌/◌, ◌≤◌, ◌<◌, Bool, true, false, not, ◌&&◌, List, ◌++◌, length, take, drop}
use Rattle.std.proofs.Common.{refl, sym, ap, subst, ◌∙◌, inl, inr, arith, length-append, length-drop, Option, Some, Result, Ok, IsErr}
use Rattle.std.proofs.Math.Seq.{take-append-add, take_at, length-take-le}
use Rattle.std.proofs.lemmas.List.{drop-take}
use Rattle.rules.specs.Machine.{Machine}
use Rattle.rules.specs.Calls.{Tables}
use Rattle.rules.proofs.Lists.{both_true, either_false}
use Rattle.journal.specs.declared.run.Part.{Part}
use Rattle.journal.specs.Parts.{answer_size, is_whole, is_ready, Passed, on_part}
use Rattle.journal.specs.Passes.{passed}
use Rattle.journal.proofs.Within.{read_within, none_left}
use Rattle.placer.specs.declared.failure.Failure.{Failure}
use Rattle.placer.specs.Parts.{AtMost, Keeps, GoesOn, Answered, Turn}

-- bytes that came lie within what there was room for
pub came : {most n : ℕ} {r : Option ℕ} → r ≡ Some n → AtMost most r → n ≤ most
came {most} e h = subst (λ (r : Option ℕ). AtMost most r) e h

-- so do bytes that are kept
pub left : {m : Machine} {t t' : Tables} {kept out input output : List ℕ} {n : ℕ} {r : Result (Option ℕ) Failure} → r ≡ Ok (Some n)
    → Turn m t kept out t' input output r → n ≤ length input
left {m} {t} {kept = kept} {out = out} {input = input} {n = n} e (inl took) =
    let there = kept ++ took.came in
    (subst (λ (r : Result (Option ℕ) Failure). Keeps (drop (on_part m t there took.ended out).read there) input r) e took.answered.keeps).0
left {n = n} e (inr f) = let h = subst (λ (r : Result (Option ℕ) Failure). IsErr r) e f.0 in cc

-- a part that is done, and what it left is kept
pub answered : {q p : Passed} (there : List ℕ) (ended : Bool) {input : List ℕ} {r : Result (Option ℕ) Failure} → q ≡ p
    → Keeps (drop q.read there) input r → GoesOn (q.more && not ended) r → Answered p there ended q.tables input q.output r
answered there ended e k g = rw (← e) (record { tables = refl; output = refl; keeps = k; goes_on = g })

-- bytes that came stand behind those that were kept
arrived : (bs new : List ℕ) (kept came : ℕ) → kept ≤ length bs → take (kept + came) (take kept bs ++ new) ≡ take kept bs ++ take came new
arrived bs new kept came l = rw (length-take-le kept bs l) at (take-append-add (take kept bs) new came)

-- so where the first bytes are answered, those kept and those that came are
pub turned : (bs new : List ℕ) (kept came : ℕ) {there : ℕ} {m : Machine} {t t' : Tables} {out input output : List ℕ} {r : Result (Option ℕ) Failure}
    (ended : Bool) → kept ≤ length bs → there ≡ kept + came
    → (let first = take there (take kept bs ++ new) in Answered (on_part m t first ended out) first ended t' input output r)
    → Turn m t (take kept bs) out t' input output r
turned bs new kept came ended l e a =
    inl (record { came = take came new; ended = ended; answered = rw (e, arrived bs new kept came l) at a })

-- a record that cannot be done, before the input has ended, is not whole
not_whole : (ended : Bool) (bs : List ℕ) → ended ≡ false → is_ready ended bs ≡ false → is_whole bs ≡ false
not_whole ended bs e h = (either_false {a = is_whole bs} h).0

-- what a part left of the bytes that were there, moved to the front, is kept
pub kept_left : (bs : List ℕ) {moved : List ℕ} {there used : ℕ} (ended : Bool) → there ≤ length bs → used ≤ there
    → moved ≡ take (there - used) (drop used bs) ++ drop (there - used) bs → ended ≡ false → is_ready ended (drop used (take there bs)) ≡ false
    → Keeps (drop used (take there bs)) moved (Ok (Some (there - used)))
kept_left bs {moved} {there} {used} ended l m e f h =
    let n = there - used in
    let size : length (take n (drop used bs)) ≡ n = length-take-le n (drop used bs) (rw length-drop (omega arith)) in
    let all : there ≡ used + n = omega arith in
    let front : take n moved ≡ take n (drop used bs) = ap (take n) e ∙ take_at (take n (drop used bs)) (drop n bs) n size in
    let rest : take n (drop used bs) ≡ drop used (take there bs) =
    sym (drop-take used n bs) ∙ ap (λ (k : ℕ). drop used (take k bs)) (sym all) in
    (rw (e, length-append, size) (omega arith), front ∙ rest, not_whole ended (drop used (take there bs)) f h)

-- a test that is not so
not_so : {b : Bool} → not b ≡ true → b ≡ false
not_so {b = true} h = cc
not_so {b = false} h = refl

-- What a part of the bytes that are there did, as the code tells it.
module _ (m : Machine) (t : Tables) (bs : List ℕ) (there : ℕ) (ended : Bool) (out : List ℕ) (inside : there ≤ length bs)
    (q : Part) (t' : Tables) (out' : List ℕ) (said : passed q t' out' ≡ on_part m t (take there bs) ended out) where
  -- the records that it did lie within them
  pub read_there : q.read ≤ there
  read_there = omega (arith, read_within m t (take there bs) ended out said, length-take-le there bs inside)

  -- where it goes on, what it left of them is kept
  pub goes_on : {moved : List ℕ} → there < 32 * (length out / answer_size) → (q.more && not ended) ≡ true
      → moved ≡ take (there - q.read) (drop q.read bs) ++ drop (there - q.read) bs
      → Answered (on_part m t (take there bs) ended out) (take there bs) ended t' moved out' (Ok (Some (there - q.read)))
  goes_on {moved} room more e =
      let both = both_true {a = q.more} more in
      let still = not_so both.1 in
      let few : length (take there bs) < 32 * (length out / answer_size) = rw (length-take-le there bs inside) room in
      let none = none_left m t (take there bs) ended out said both.0 few in
      rw (← said) (record { tables = refl; output = refl; keeps = kept_left bs ended inside read_there e still none; goes_on = more })
