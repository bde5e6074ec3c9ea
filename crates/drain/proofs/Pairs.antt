-- The table of pairs, as the moves are made: "Write the pairs, old page then new, .. in the order moved".
-- Assumes nothing.
use Prim.Native.Nat.{ℕ, suc, ◌+◌, ◌*◌, ◌≤◌}
use mathlib.Core.Path.{◌≡◌, refl, sym, ap, ◌∙◌}
use mathlib.Core.List.{List, [], ◌∷◌, ◌++◌, append_assoc}
use native.Mathlib.Omega.{arith}
use lib.ListN.{length, get_or, drop, set, length-append}
use lib.Seq.{drop-cons, set_at}
use Rattle.rules.specs.Basics.{each}
use Rattle.rules.specs.Drain.{Move, pairs}

-- two numbers a move
pub pairs_long : (vs : List Move) → length (pairs vs) ≡ 2 * length vs
unfolding pairs each
pairs_long [] = refl
pairs_long (v ∷ vs) = omega (arith, pairs_long vs)

-- the pairs of one move more
pairs_snoc : (vs : List Move) (v : Move) → pairs (vs ++ (v ∷ [])) ≡ pairs vs ++ (v.old ∷ v.new ∷ [])
unfolding pairs each
pairs_snoc [] v = refl
pairs_snoc (w ∷ vs) v = ap (λ (l : List ℕ). w.old ∷ w.new ∷ l) (pairs_snoc vs v)

-- two numbers that are written behind a front
put_two : (front out : List ℕ) (n a b : ℕ) → length front ≡ n → n + 2 ≤ length out
    → set (set (front ++ drop n out) n a) (n + 1) b ≡ (front ++ (a ∷ b ∷ [])) ++ drop (n + 2) out
put_two front out n a b e l =
    let two : drop n out ≡ get_or out n 0 ∷ get_or out (suc n) 0 ∷ drop (suc (suc n)) out =
    drop-cons out n 0 (omega arith) ∙ ap (λ (r : List ℕ). get_or out n 0 ∷ r) (drop-cons out (suc n) 0 (omega arith)) in
    let rest = drop (suc (suc n)) out in
    let one : set (front ++ drop n out) n a ≡ (front ++ (a ∷ [])) ++ get_or out (suc n) 0 ∷ rest =
    ap (λ (r : List ℕ). set (front ++ r) n a) two
    ∙ set_at front (get_or out n 0) (get_or out (suc n) 0 ∷ rest) a n e
    ∙ sym (append_assoc front (a ∷ []) (get_or out (suc n) 0 ∷ rest)) in
    let long : length (front ++ (a ∷ [])) ≡ n + 1 = length-append front (a ∷ []) ∙ ap (λ (k : ℕ). k + 1) e in
    let end : suc (suc n) ≡ n + 2 = omega arith in
    ap (λ (t : List ℕ). set t (n + 1) b) one
    ∙ set_at (front ++ (a ∷ [])) (get_or out (suc n) 0) rest b (n + 1) long
    ∙ append_assoc front (a ∷ []) (b ∷ rest)
    ∙ sym (append_assoc front (a ∷ b ∷ []) rest)
    ∙ ap (λ (k : ℕ). (front ++ (a ∷ b ∷ [])) ++ drop k out) end

-- the pair of one move more is written behind those before; nothing past it changes
pub put_pair : (out : List ℕ) (vs : List Move) (v : Move) → 2 * length vs + 2 ≤ length out
    → set (set (pairs vs ++ drop (2 * length vs) out) (2 * length vs) v.old) (2 * length vs + 1) v.new
    ≡ pairs (vs ++ (v ∷ [])) ++ drop (2 * length (vs ++ (v ∷ []))) out
put_pair out vs v l =
    let long : 2 * length vs + 2 ≡ 2 * length (vs ++ (v ∷ [])) = omega (arith, length-append vs (v ∷ [])) in
    put_two (pairs vs) out (2 * length vs) v.old v.new (pairs_long vs) l
    ∙ ap (λ (f : List ℕ). f ++ drop (2 * length vs + 2) out) (sym (pairs_snoc vs v))
    ∙ ap (λ (k : ℕ). pairs (vs ++ (v ∷ [])) ++ drop k out) long
