-- The laws of the machine record: its page counts, its tests, and that it goes by its own bytes.
-- Assumes nothing.
use Prim.Native.Nat.{ℕ, ◌+◌, ◌*◌, ◌≤◌, ◌<◌}
use mathlib.Core.Path.{◌≡◌, refl, ap, ap₂, ◌∙◌, sym}
use mathlib.Core.Bool.{Bool, true, false, ◌&&◌, cond, false≢true}
use mathlib.Core.List.{List, [], ◌∷◌, ◌++◌, map}
use native.Mathlib.Nat.{zero-add, mul-le-mul}
use native.Mathlib.Numerals.{add-one}
use native.Mathlib.Omega.{arith}
use borrow.Author.Tests.{leb-true}
use lib.Dec.{leb, eqb}
use lib.ListN.{length, take, set}
use lib.Seq.{length-take-le, take-suc-set, get_or-take}
use Rattle.rules.specs.Basics.{from, sum, between}
use Rattle.rules.specs.Machine.{node_count, machine_ok}
use Rattle.rules.specs.Decisions.{unless, accept}
use Rattle.rules.specs.Journal.{byte_at, number, marked, head_size, head_ok, counts_ok, machine_size, machine_in, journal_pages, opening}
use Rattle.journal.specs.Opening.{opening_size}
use Rattle.journal.proofs.Numbers.{long_take, part_take, number_take}
use Rattle.rules.proofs.Lists.{both_true, map_from_suc, map_from_same}
use Rattle.rules.proofs.Decisions.{passed}

-- "the six head bytes": a head that is undamaged has them
pub head_long : (bs : List ℕ) → head_ok bs ≡ true → head_size ≤ length bs
unfolding head_ok
head_long bs h =
    let long = leb head_size (length bs) in
    let kind = (both_true {a = long && marked bs && eqb (byte_at bs 2) 0} h).0 in
    leb-true head_size (length bs) (both_true {a = long} (both_true {a = long && marked bs} kind).0).0

-- a whole machine record has its six head bytes
pub head_in : (bs : List ℕ) → machine_size bs ≤ length bs → head_size ≤ length bs
unfolding machine_size
head_in bs h = omega arith

-- "N (1 to 16)"
pub nodes_most_lem : (bs : List ℕ) → counts_ok bs ≡ true → byte_at bs 3 ≤ 16
unfolding counts_ok
nodes_most_lem bs h = leb-true (byte_at bs 3) 16 (both_true {a = leb 1 (byte_at bs 3)} (both_true {a = between 1 16 (byte_at bs 3)} h).0).1

-- "N 16-bit page counts": count i
abbrev pub count_at : List ℕ → ℕ → ℕ
count_at bs i = number (head_size + 2 * i) 2 bs

-- one count more is read
pub counts_step : (bs counts : List ℕ) (i : ℕ) {v : ℕ} → i < length counts → v ≡ count_at bs i → take i counts ≡ map (count_at bs) (from 0 i)
    → take (i + 1) (set counts i v) ≡ map (count_at bs) (from 0 (i + 1))
counts_step bs counts i {v} h e t =
    rw (add-one i)
    (take-suc-set counts i v h ∙ ap₂ (λ (l : List ℕ) (x : ℕ). l ++ (x ∷ [])) t e ∙ sym (map_from_suc (count_at bs) 0 i ∙ rw (zero-add i)))

-- The first N of sixteen counts are the machine's.
pub record Cut (bs : List ℕ) (n : ℕ) (all : List ℕ) : Type 0 where
  pub inside : n ≤ length all
  pub long : n ≡ length (take n all)
  pub few : length (take n all) ≤ 16
  pub counts : take n all ≡ (machine_in bs).page_counts
  pub nodes : n ≡ node_count (machine_in bs)

pub cut : (bs : List ℕ) {n : ℕ} (all : List ℕ) → counts_ok bs ≡ true → n ≡ byte_at bs 3 → length all ≡ 16 → take (byte_at bs 3) all ≡
    (machine_in bs).page_counts
    → Cut bs n all
cut bs {n} all h e l t =
    let most : byte_at bs 3 ≤ 16 = nodes_most_lem bs h in
    let size : length (take n all) ≡ n = length-take-le n all (omega arith) in
    let counts : take n all ≡ (machine_in bs).page_counts = rw e t in
    record { inside = omega arith; long = sym size; few = omega arith; counts = counts; nodes = sym size ∙ ap length counts }

-- What a good machine record holds, k bytes of it.
pub record Good (bs : List ℕ) (k : ℕ) : Type 0 where
  pub size : k ≡ machine_size bs
  pub counted : counts_ok bs ≡ true
  pub whole : machine_size bs ≤ length bs
  pub in_order : machine_ok (machine_in bs) ≡ true
  pub few_pages : sum (machine_in bs).page_counts ≤ journal_pages

-- a machine record that is accepted is good
pub good_opening : (bs : List ℕ) {k : ℕ} → opening bs ≡ accept k → Good bs k
unfolding opening
good_opening bs {k} h =
    let few = leb (sum (machine_in bs).page_counts) journal_pages in
    let a = passed (head_ok bs) 13 _ h in
    let b = passed (counts_ok bs) 1 _ a.1 in
    let c = passed (leb (machine_size bs) (length bs)) 13 _ b.1 in
    let d = passed (machine_ok (machine_in bs) && few) 1 _ c.1 in
    let t = both_true {a = machine_ok (machine_in bs)} d.0 in
    let same : k ≡ machine_size bs = cc in
    record {
      size = same;
      counted = b.0;
      whole = leb-true (machine_size bs) (length bs) c.0;
      in_order = t.0;
      few_pages = leb-true (sum (machine_in bs).page_counts) journal_pages t.1;
    }

-- ---- a machine record goes by its own bytes

-- "N (1 to 16), CPU count (1 to 64)": so many bytes at most
pub size_most : (bs : List ℕ) → counts_ok bs ≡ true → machine_size bs ≤ 358
unfolding machine_size counts_ok
size_most bs h =
    let n = byte_at bs 3 in
    let few : n ≤ 16 = nodes_most_lem bs h in
    let cpus : byte_at bs 4 ≤ 64 = leb-true (byte_at bs 4) 64 (both_true {a = leb 1 (byte_at bs 4)} (both_true {a = between 1 16 n} h).1).1 in
    let square : n * n ≤ 256 = mul-le-mul {n₂ = 16} {m₂ = 16} few few in
    omega arith

module _ (w : ℕ) (bs : List ℕ) (six : head_size ≤ w) where
  byte_alone : (i : ℕ) → i < head_size → byte_at (take w bs) i ≡ byte_at bs i
  byte_alone i h = get_or-take w bs i 0 (omega arith)

  -- the six head bytes
  pub head_alone : head_ok (take w bs) ≡ head_ok bs
  unfolding head_ok marked
  head_alone =
      rw (
        long_take head_size w bs (omega arith),
        byte_alone 0 (omega arith),
        byte_alone 1 (omega arith),
        byte_alone 2 (omega arith),
        byte_alone 5 (omega arith),
      )

  -- N and CPU count
  pub counts_alone : counts_ok (take w bs) ≡ counts_ok bs
  unfolding counts_ok
  counts_alone = rw (byte_alone 3 (omega arith), byte_alone 4 (omega arith))

  -- the size
  pub size_alone : machine_size (take w bs) ≡ machine_size bs
  unfolding machine_size
  size_alone = rw (byte_alone 3 (omega arith), byte_alone 4 (omega arith))

module _ (w : ℕ) (bs : List ℕ) (six : head_size ≤ w) (enough : counts_ok bs ≡ true → machine_size bs ≤ w) where
  -- the machine
  pub machine_alone : counts_ok bs ≡ true → machine_in (take w bs) ≡ machine_in bs
  unfolding machine_in machine_size
  machine_alone h =
      let n = byte_at bs 3 in
      let k = byte_at bs 4 in
      let fits : machine_size bs ≤ w = enough h in
      rw (
        byte_alone w bs six 3 (omega arith),
        byte_alone w bs six 4 (omega arith),
        part_take w (head_size + 2 * n) k bs (omega arith),
        part_take w (head_size + 2 * n + k) (n * n) bs (omega arith),
        map_from_same (count_at (take w bs)) (count_at bs) 0 n (λ i l. number_take w (head_size + 2 * i) 2 bs (omega arith)),
      )

  -- the opening
  pub opening_taken : opening (take w bs) ≡ opening bs
  unfolding opening
  opening_taken = rw (head_alone w bs six, counts_alone w bs six, size_alone w bs six) (go (counts_ok bs) refl)
    where
      go : (ok : Bool) → counts_ok bs ≡ ok
          → unless (head_ok bs) 13 (unless ok 1 (unless (leb (machine_size bs) (length (take w bs))) 13
          (unless (machine_ok (machine_in (take w bs)) && leb (sum (machine_in (take w bs)).page_counts) journal_pages) 1 (accept (machine_size bs)))))
          ≡ unless (head_ok bs) 13 (unless ok 1 (unless (leb (machine_size bs) (length bs)) 13
          (unless (machine_ok (machine_in bs) && leb (sum (machine_in bs).page_counts) journal_pages) 1 (accept (machine_size bs)))))
      go true e = rw (long_take (machine_size bs) w bs (enough e), machine_alone e)
      go false e = refl

-- ---- so it is read in two parts: its six head bytes, and what these say

-- "N (1 to 16), CPU count (1 to 64)": so many bytes at least and at most
pub opening_between : (bs : List ℕ) → (head_size ≤ opening_size bs) × (opening_size bs ≤ 358)
unfolding opening_size machine_size
opening_between bs = go (counts_ok bs) refl
  where
    go : (ok : Bool) → counts_ok bs ≡ ok → (head_size ≤ cond ok (machine_size bs) head_size) × (cond ok (machine_size bs) head_size ≤ 358)
    go true e = (omega arith, size_most bs e)
    go false e = (omega arith, omega arith)

-- the opening on the bytes that the six head bytes ask for is that on the whole journal
pub opening_alone : (bs : List ℕ) → opening (take (opening_size (take head_size bs)) bs) ≡ opening bs
unfolding opening_size
opening_alone bs =
    let at = opening_size bs in
    rw (counts_alone head_size bs (omega arith), size_alone head_size bs (omega arith))
    (opening_taken at bs (opening_between bs).0 (λ e. enough (counts_ok bs) e))
  where
    enough : (ok : Bool) → ok ≡ true → machine_size bs ≤ cond ok (machine_size bs) head_size
    enough true e = omega arith
    enough false e = absurd (false≢true e)
