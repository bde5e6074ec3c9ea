-- A line that is written run by run holds all runs of the mask.
-- Assumes nothing.
use mathlib.Core.Path.{◌≡◌, refl, sym, ap, ap₂, ◌∙◌}
use mathlib.Core.Bool.{Bool, true, false, cond}
use mathlib.Core.List.{List, [], ◌∷◌, ◌++◌, append-nil, append_assoc}
use Prim.Native.Nat.{ℕ, zero, suc, ◌+◌, ◌*◌, ◌/◌, ◌%◌, ◌≤◌}
use native.Mathlib.Nat.{add-zero}
use native.Mathlib.Numerals.{add-one}
use native.Mathlib.Omega.{arith}
use lib.ListN.{length, take, drop, set, length-append}
use lib.Seq.{sets, sets-eq, length-sets, length-take-le, take_at}
use lib.Dec.{eqb, ltb}
use borrow.Author.Tests.{eqb-true, eq-eqb, ne_eqb}
use Rattle.rules.specs.Basics.{keep, each, from}
use Rattle.rules.specs.Masks.{most_nodes, has}
use Rattle.rules.specs.Text.{comma, dash, Run, joined, runs, decimal, run_text}
use Rattle.nodelist.specs.Writer.{line_bytes, run_of, runs_from, line_run, line_of}

-- ---- the length of a line

-- a node number has at most two digits
decimal_length : (n : ℕ) → length (decimal n) ≤ 2
unfolding decimal
decimal_length n = go (ltb n 10)
  where
    go : (b : Bool) → length (cond b ((48 + n) ∷ []) ((48 + n / 10) ∷ (48 + n % 10) ∷ [])) ≤ 2
    go true = omega arith
    go false = omega arith

-- a run's text has either end, and at most three bytes more than the high one
pub run_length : (low high : ℕ) → let n = length (run_text (run_of low high)) in
    (length (decimal low) ≤ n) × (length (decimal high) ≤ n) × (n ≤ 3 + length (decimal high))
unfolding run_text
run_length low high = go (eqb low high) refl
  where
    go : (b : Bool) → eqb low high ≡ b → let n = length (cond b (decimal low) (decimal low ++ dash ∷ decimal high)) in
        (length (decimal low) ≤ n) × (length (decimal high) ≤ n) × (n ≤ 3 + length (decimal high))
    go true e = omega (arith, ap (λ (x : ℕ). length (decimal x)) (eqb-true low high e))
    go false e = simp length-append (omega (arith, decimal_length low))

-- one node by itself takes its number
run_single : (n : ℕ) → length (run_text (run_of n n)) ≤ 2
unfolding run_text
run_single n = rw (eq-eqb n n refl) (decimal_length n)

-- a node more is at most three bytes more
joined_length : (n : ℕ) (rs : List Run) → length (each line_run (joined n rs)) ≤ 3 + length (each line_run rs)
unfolding joined each
joined_length n [] = simp length-append (omega (arith, run_single n))
joined_length n (r ∷ rs) = go (eqb (suc n) r.low)
  where
    go : (b : Bool) → length (each line_run (cond b (run_of n r.high ∷ rs) (run_of n n ∷ r ∷ rs))) ≤ 3 + length (each line_run (r ∷ rs))
    go true = simp length-append (omega (arith, run_length n r.high, run_length r.low r.high))
    go false = simp length-append (omega (arith, run_single n))

-- the runs of k nodes at most take three bytes for each
runs_length : (p : ℕ → Bool) (a k : ℕ) → length (each line_run (runs (keep p (from a k)))) ≤ 3 * k
unfolding runs each keep from
runs_length p a zero = omega arith
runs_length p a (suc k) = go (p a) (runs_length p (suc a) k)
  where
    go : (b : Bool) → length (each line_run (runs (keep p (from (suc a) k)))) ≤ 3 * k
        → length (each line_run (runs (cond b (a ∷ keep p (from (suc a) k)) (keep p (from (suc a) k))))) ≤ 3 * suc k
    go true h = omega (arith, joined_length a (runs (keep p (from (suc a) k))))
    go false h = omega arith

-- all runs with their commas take at most three bytes for each node
pub line_short : (m : ℕ) → length (line_of m) ≤ line_bytes
unfolding line_of runs_from
line_short m = runs_length (has m) 0 most_nodes

-- ---- the line

-- what is put after the first i elements
sets_front : (l : List ℕ) (i : ℕ) (vs : List ℕ) → i + length vs ≤ length l → take (i + length vs) (sets l i vs) ≡ take i l ++ vs
sets_front l i vs h =
    ap (take (i + length vs)) (sets-eq vs l i h)
    ∙ take_at (take i l ++ vs) (drop (i + length vs) l) (i + length vs)
    (length-append (take i l) vs ∙ ap (λ (x : ℕ). x + length vs) (length-take-le i l (omega arith)))

-- the first `len` bytes of the line hold all runs before node `at`
pub record Lined (m : ℕ) (line : List ℕ) (len at : ℕ) : Type 0 where
  pub long : length line ≡ line_bytes
  pub within : len ≤ line_bytes
  pub text : take len line ++ each line_run (runs_from m at) ≡ line_of m

-- an empty line holds no run
pub lined_start : (m : ℕ) (line : List ℕ) → length line ≡ line_bytes → Lined m line 0 0
unfolding line_of
lined_start m line e = record { long = e; within = omega arith; text = refl }

module _ {m : ℕ} {line : List ℕ} {len at : ℕ} (h : Lined m line len at) where
  line_so_far : length (take len line) ≡ len
  line_so_far = length-take-le len line (omega (arith, h.long, h.within))

  -- there is room for the next run
  pub lined_room : (r : Run) (rs : List Run) → runs_from m at ≡ r ∷ rs → len + length (line_run r) ≤ line_bytes
  unfolding each
  lined_room r rs e =
      let q : length (take len line ++ each line_run (r ∷ rs)) ≡ length (line_of m) = ap length (rw e at h.text) in
      omega (arith, line_short m, line_so_far, simp length-append at q)

  -- the next run is put after them
  pub lined_step : (r : Run) {next : List ℕ} {end past : ℕ} → runs_from m at ≡ r ∷ runs_from m past → end ≡ len + length (line_run r)
      → next ≡ sets line len (line_run r) → Lined m next end past
  unfolding each
  lined_step r {next} {end} {past} e l s = record {
    long = ap length s ∙ length-sets line len (line_run r) ∙ h.long;
    within = omega (arith, lined_room r (runs_from m past) e);
    text = rw (l, s, sets_front line len (line_run r) (omega (arith, lined_room r (runs_from m past) e, h.long)))
        (append_assoc (take len line) (line_run r) (each line_run (runs_from m past)) ∙ (rw e at h.text));
  }

  -- all runs are in
  pub lined_end : runs_from m at ≡ [] → (len ≡ length (line_of m)) × (take len line ≡ line_of m)
  unfolding each
  lined_end e =
      let q : take len line ≡ line_of m = sym (append-nil (take len line)) ∙ (rw e at h.text) in
      (sym line_so_far ∙ ap length q, q)

-- ---- a run put into the line, a piece after the other

sets_append : (l : List ℕ) (i : ℕ) (vs ws : List ℕ) → sets l i (vs ++ ws) ≡ sets (sets l i vs) (i + length vs) ws
sets_append l i [] ws = ap (λ (x : ℕ). sets l x ws) (sym (add-zero i))
sets_append l i (v ∷ vs) ws =
    let e : suc i + length vs ≡ i + suc (length vs) = omega arith in
    sets_append (set l i v) (suc i) vs ws ∙ ap (λ (x : ℕ). sets (sets (set l i v) (suc i) vs) x ws) e

module _ (low high : ℕ) where
  -- one node: a comma and its number
  pub single_run : low ≡ high → line_run (run_of low high) ≡ comma ∷ decimal low
  unfolding run_text
  single_run e = rw (eq-eqb low high e)

  -- more nodes: a comma and two numbers
  pub double_run : (low ≡ high → ⊥) → line_run (run_of low high) ≡ comma ∷ (decimal low ++ dash ∷ decimal high)
  unfolding run_text
  double_run e = rw (ne_eqb low high e)

  -- two numbers with a comma and a dash
  pub double_room : (low ≡ high → ⊥) → length (line_run (run_of low high)) ≡ 2 + length (decimal low) + length (decimal high)
  double_room e = ap length (double_run e) ∙ simp length-append (omega arith)

  module _ (line : List ℕ) (at : ℕ) {mid : ℕ} {first : List ℕ} (m : mid ≡ at + 1 + length (decimal low))
      (f : first ≡ sets (set line at comma) (at + 1) (decimal low)) where
    -- a comma and a number are the run of one node
    pub put_single : low ≡ high → (mid ≡ at + length (line_run (run_of low high))) × (first ≡ sets line at (line_run (run_of low high)))
    put_single e = (
      omega (arith, ap length (single_run e)),
      f ∙ ap (λ (x : ℕ). sets (set line at comma) x (decimal low)) (add-one at) ∙ ap (sets line at) (sym (single_run e)),
    )

    -- with a dash and a number more they are the run of more nodes
    pub put_double : {end : ℕ} {next : List ℕ} → (low ≡ high → ⊥) → end ≡ mid + 1 + length (decimal high)
        → next ≡ sets (set first mid dash) (mid + 1) (decimal high)
        → (end ≡ at + length (line_run (run_of low high))) × (next ≡ sets line at (line_run (run_of low high)))
    put_double e l n = (
      omega (arith, double_room e),
      n
          ∙ ap (λ (x : ℕ). sets (set first mid dash) x (decimal high)) (add-one mid)
          ∙ ap₂ (λ (l : List ℕ) (x : ℕ). sets l x (dash ∷ decimal high)) f m
          ∙ sym (sets_append (set line at comma) (at + 1) (decimal low) (dash ∷ decimal high))
          ∙ ap (λ (x : ℕ). sets (set line at comma) x (decimal low ++ dash ∷ decimal high)) (add-one at)
          ∙ ap (sets line at) (sym (double_run e)),
    )
