-- Laws on bytes put into the output. Assumes nothing.
use mathlib.Core.Path.{◌≡◌, refl, sym, ap, ap₂, ◌∙◌}
use mathlib.Core.List.{List, [], ◌∷◌, ◌++◌, append_assoc}
use Prim.Native.Nat.{ℕ, ◌+◌, ◌-◌, ◌/◌, ◌%◌, ◌≤◌}
use native.Mathlib.Omega.{arith}
use borrow.Rule.Slice.PartMut.{put_mid}
use Rattle.std.proofs.lemmas.Slice.{put_mid-paste}
use native.Mathlib.Nat.{add-sub_cancel_left}
use lib.ListN.{length, take, drop, length-append, length-drop}
use lib.Seq.{sets, sets-eq, take_at, drop-append-add, drop-drop, take-length}
use Rattle.rules.specs.Notes.{head_size, head_of}
use Rattle.rules.specs.Records.{bytes_of}

-- bytes that are copied to a place
pub copied : (table xs new : List ℕ) (at : ℕ) → at + length xs ≤ length table → new ≡ xs → put_mid at (at + length xs - at) table new ≡ sets table at xs
copied table xs new at l e =
    put_mid-paste at (at + length xs - at) table new xs (length xs) e (sym (add-sub_cancel_left at (length xs))) refl
    ∙ ap (λ (ys : List ℕ). take at table ++ ys ++ drop (at + length xs) table) (take-length xs)
    ∙ sym (sets-eq xs table at l)

-- the four bytes of a number
pub first_four : (n : ℕ) → n % 256 ∷ n / 256 % 256 ∷ n / 65536 % 256 ∷ n / 16777216 % 256 ∷ [] ≡ bytes_of 4 n
unfolding bytes_of
first_four n =
    let two : n / 65536 ≡ n / 256 / 256 = omega arith in
    let three : n / 16777216 ≡ n / 256 / 256 / 256 = omega arith in
    rw (two, three)

-- what is put right behind a beginning makes it longer
set_next : (o p xs : List ℕ) (at : ℕ) → length p ≡ at → at + length xs ≤ length o → sets (p ++ drop at o) at xs ≡ (p ++ xs) ++ drop (at + length xs) o
set_next o p xs at e l =
    sets-eq xs (p ++ drop at o) at (omega (arith, length-append p (drop at o), length-drop at o))
    ∙ ap₂ (λ (l r : List ℕ). l ++ xs ++ r) (take_at p (drop at o) at e)
    (ap (λ (k : ℕ). drop (k + length xs) (p ++ drop at o)) (sym e) ∙ drop-append-add p (drop at o) (length xs) ∙ drop-drop (length xs) at o)

pub length_head : (a b c d : ℕ) → length (head_of a b c d) ≡ head_size
unfolding head_of bytes_of
length_head a b c d = refl

-- the six puts of a note
module _ (o o1 o2 o3 o4 o5 o6 ts ds : List ℕ) (a b c d : ℕ) (room : head_size + length ts + length ds ≤ length o)
    (e1 : o1 ≡ sets o 0 (bytes_of 4 a))
    (e2 : o2 ≡ sets o1 4 (bytes_of 4 b))
    (e3 : o3 ≡ sets o2 8 (bytes_of 4 c))
    (e4 : o4 ≡ sets o3 12 (bytes_of 4 d))
    (e5 : o5 ≡ sets o4 head_size ts)
    (e6 : o6 ≡ sets o5 (head_size + length ts) ds) where
  after4 : o4 ≡ head_of a b c d ++ drop head_size o
  unfolding head_of bytes_of
  after4 =
      let f1 : o1 ≡ bytes_of 4 a ++ drop 4 o = e1 ∙ set_next o [] (bytes_of 4 a) 0 refl (omega arith) in
      let f2 : o2 ≡ (bytes_of 4 a ++ bytes_of 4 b) ++ drop 8 o =
      e2 ∙ ap (λ (x : List ℕ). sets x 4 (bytes_of 4 b)) f1 ∙ set_next o (bytes_of 4 a) (bytes_of 4 b) 4 refl (omega arith) in
      let f3 : o3 ≡ (bytes_of 4 a ++ bytes_of 4 b ++ bytes_of 4 c) ++ drop 12 o =
      e3 ∙ ap (λ (x : List ℕ). sets x 8 (bytes_of 4 c)) f2 ∙ set_next o (bytes_of 4 a ++ bytes_of 4 b) (bytes_of 4 c) 8 refl (omega arith) in
      e4 ∙ ap (λ (x : List ℕ). sets x 12 (bytes_of 4 d)) f3
      ∙ set_next o (bytes_of 4 a ++ bytes_of 4 b ++ bytes_of 4 c) (bytes_of 4 d) 12 refl (omega arith)

  pub six_puts : o6 ≡ head_of a b c d ++ (ts ++ ds) ++ drop (head_size + length ts + length ds) o
  six_puts =
      let h = head_of a b c d in
      let f5 : o5 ≡ (h ++ ts) ++ drop (head_size + length ts) o =
      e5 ∙ ap (λ (x : List ℕ). sets x head_size ts) after4 ∙ set_next o h ts head_size (length_head a b c d) (omega arith) in
      let n : length (h ++ ts) ≡ head_size + length ts = length-append h ts ∙ ap (λ (k : ℕ). k + length ts) (length_head a b c d) in
      e6 ∙ ap (λ (x : List ℕ). sets x (head_size + length ts) ds) f5 ∙ set_next o (h ++ ts) ds (head_size + length ts) n (omega arith)
      ∙ ap (λ (x : List ℕ). x ++ drop (head_size + length ts + length ds) o) (append_assoc h ts ds)
