-- What a good list is, and what its count says. Assumes nothing.
use mathlib.Core.Path.{◌≡◌, ◌∙◌}
use mathlib.Core.Bool.{Bool, true, false, not, ◌&&◌}
use mathlib.Core.List.{List, [], ◌∷◌}
use Prim.Native.Nat.{ℕ, zero, suc, ◌*◌, ◌≤◌, ◌<◌}
use native.Mathlib.Omega.{arith}
use lib.Dec.{eqb, leb}
use lib.ListN.{length, get_or}
use borrow.Author.Tests.{leb-true, eqb-true}
use Rattle.std.specs.Prelude.{Option, Some, None}
use Rattle.std.specs.Option.{option_eq}
use Rattle.rules.specs.Basics.{all, is_nil, between, same}
use Rattle.rules.specs.Notes.{strings, size_of, name_ok, names_ok, most_names, list_ok, table_ok, text_word, data_word, any_word}
use Rattle.rules.proofs.Lists.{both_true, between_true, fails}
use Rattle.notes.specs.Steps.{name_count, IsCount}

-- ---- a good list

pub record GoodList (list : List ℕ) : Type 0 where
  pub size : size_of (strings list) ≡ length list
  pub most : length (strings list) ≤ most_names
  pub names : names_ok (strings list) ≡ true

pub good_list : (list : List ℕ) → list_ok list ≡ true → GoodList list
unfolding list_ok
good_list list e =
    let h = both_true {a = eqb (size_of (strings list)) (length list) && leb (length (strings list)) most_names} e in
    let g = both_true {a = eqb (size_of (strings list)) (length list)} h.0 in
    record {
      size = eqb-true (size_of (strings list)) (length list) g.0;
      most = leb-true (length (strings list)) most_names g.1;
      names = h.1;
    }

-- a name has 1 to 15 bytes
name_between : (w : List ℕ) (last : Bool) → name_ok w last ≡ true → (1 ≤ length w) × (length w ≤ 15)
unfolding name_ok
name_between w last e =
    let p0 = between 1 15 (length w) in
    let p1 = not (same w text_word) in
    let p2 = not (same w data_word) in
    let p3 = not (same w any_word) in
    let e3 = (both_true {a = p0 && p1 && p2 && p3} e).0 in
    let e2 = (both_true {a = p0 && p1 && p2} e3).0 in
    let e1 = (both_true {a = p0 && p1} e2).0 in
    between_true 1 15 (length w) (both_true {a = p0} e1).0

-- each name of a good list has at least one byte
pub names_some : (ws : List (List ℕ)) (k : ℕ) → names_ok ws ≡ true → k < length ws → 1 ≤ length (get_or ws k [])
unfolding names_ok
names_some [] k e l = absurd (omega arith)
names_some (w ∷ ws) zero e l = (name_between w (is_nil ws) (both_true {a = name_ok w (is_nil ws)} e).0).0
names_some (w ∷ ws) (suc k) e l = names_some ws k (both_true {a = name_ok w (is_nil ws)} e).1 (omega arith)

names_short : (ws : List (List ℕ)) → names_ok ws ≡ true → size_of ws ≤ 16 * length ws
unfolding names_ok size_of
names_short [] e = omega arith
names_short (w ∷ ws) e =
    let h = both_true {a = name_ok w (is_nil ws)} e in
    omega (arith, (name_between w (is_nil ws) h.0).1, names_short ws h.1)

-- a good list is short
pub list_short : (list : List ℕ) → list_ok list ≡ true → length list ≤ 256
list_short list e =
    let g = good_list list e in
    omega (arith, g.size, g.most, names_short (strings list) g.names)

-- and so is a good table
table_short : (ws : List (List ℕ)) → all (λ w. name_ok w false) ws ≡ true → size_of ws ≤ 16 * length ws
unfolding all size_of
table_short [] e = omega arith
table_short (w ∷ ws) e =
    let h = both_true {a = name_ok w false} e in
    omega (arith, (name_between w false h.0).1, table_short ws h.1)

pub long_table : (n : ℕ) (table : List ℕ) → n * 16 < length table → table_ok n table ≡ false
unfolding table_ok
long_table n table l = fails (λ e. omega (arith, (parts e).0, (parts e).1, (parts e).2))
  where
    ws : List (List ℕ)
    ws = strings table

    parts : table_ok n table ≡ true → (size_of ws ≡ length table) × (length ws ≡ n) × (size_of ws ≤ 16 * length ws)
    parts e =
        let h = both_true {a = eqb (size_of ws) (length table) && eqb (length ws) n} e in
        let g = both_true {a = eqb (size_of ws) (length table)} h.0 in
        (eqb-true (size_of ws) (length table) g.0, eqb-true (length ws) n g.1, table_short ws h.1)

-- a long list is bad
pub list_long : (list : List ℕ) → 256 < length list → list_ok list ≡ false
list_long list l = fails (λ e. omega (arith, list_short list e))

-- so its count is 17, over which no list has that many names
pub long_count : (list : List ℕ) → 256 < length list → name_count list ≡ 17
unfolding name_count
long_count list l = rw (list_long list l)

pub good_count : (list : List ℕ) → list_ok list ≡ true → name_count list ≡ length (strings list)
unfolding name_count
good_count list e = rw e

-- what `==` says of a count and a number
pub count_is : (list : List ℕ) (a : ℕ) (r : Option ℕ) → IsCount list r → option_eq eqb r (Some a) ≡ (list_ok list && eqb (length (strings list)) a)
count_is list a None h = rw h
count_is list a (Some n) h = let e : n ≡ length (strings list) = h.1 ∙ good_count list h.0 in rw (h.0, e)
