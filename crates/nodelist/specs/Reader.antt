-- The reader of node-list text, a byte at a time: what each of its functions gives, and what the whole is by document 01.
use Rattle.std.specs.Prelude.{ℕ, ◌+◌, ◌-◌, ◌*◌, ◌<◌, cond, List, [], ◌∷◌, eqb, leb, ltb, Option as StdOption, Some, None}
use Rattle.std.proofs.Math.Option.{Option, none, some}
use Rattle.std.specs.Int.Bits.{bit_or}
use Rattle.rules.specs.Basics.{between}
use Rattle.rules.specs.Masks.{most_nodes, all_nodes, mask_of}
use Rattle.rules.specs.Text.{comma, dash, is_items, names}
use Rattle.nodelist.specs.declared.reader.Numbers.{Numbers}
use Rattle.nodelist.specs.declared.reader.Item.{Item}
use Rattle.nodelist.specs.declared.reader.Item.TheVariants.{Empty, Number, Dashed, Range, Broken}
use Rattle.nodelist.specs.declared.reader.Progress.{Progress}

-- the numbers of an item lie below the limit
abbrev pub Fits : ℕ → Item → Type 0
Fits limit Empty = Unit {0}
Fits limit (Number v) = v < limit
Fits limit (Dashed a) = a < limit
Fits limit (Range a b) = (a < limit) × (b < limit)
Fits limit Broken = Unit {0}

-- "Numbers have no leading zero": 0 takes no digit more, so it goes to the limit
unfoldable pub grown : ℕ → ℕ → ℕ → ℕ
grown limit v d = cond (eqb v 0) limit (v * 10 + d)

-- "and lie below N": a number at the limit or above breaks the item
unfoldable pub number_below : ℕ → ℕ → Item
number_below limit v = cond (ltb v limit) (Number v) Broken

-- the same for the second number of a range
unfoldable pub range_below : ℕ → ℕ → ℕ → Item
range_below limit a v = cond (ltb v limit) (Range a v) Broken

-- an item with one digit more
unfoldable pub with_digit : ℕ → Item → ℕ → Item
with_digit limit Empty d = number_below limit d
with_digit limit (Number v) d = number_below limit (grown limit v d)
with_digit limit (Dashed a) d = range_below limit a d
with_digit limit (Range a b) d = range_below limit a (grown limit b d)
with_digit limit Broken d = Broken

-- an item with a dash more: only a number takes one
unfoldable pub with_dash : Item → Item
with_dash Empty = Broken
with_dash (Number v) = Dashed v
with_dash (Dashed a) = Broken
with_dash (Range a b) = Broken
with_dash Broken = Broken

-- an item with one byte more, not a comma
unfoldable pub with_byte : ℕ → Item → ℕ → Item
with_byte limit item x = cond (eqb x dash) (with_dash item) (cond (between 48 57 x) (with_digit limit item (x - 48)) Broken)

-- the numbers from low to high
abbrev pub span : ℕ → ℕ → ℕ
span low high = all_nodes (high + 1) - all_nodes low

-- a reader that stands at an item
abbrev pub progress : Numbers → Item → Progress
progress m item = record { named = m; item = item }

-- a set with the numbers from low to high
abbrev pub with_span : Numbers → ℕ → ℕ → Numbers
with_span m low high = record { 0 = bit_or m.0 (span low high) }

-- "a number or a-b with a at most b": the item ends
unfoldable pub closed : Numbers → Item → Progress
closed m Empty = progress m Broken
closed m (Number v) = progress (with_span m v v) Empty
closed m (Dashed a) = progress m Broken
closed m (Range a b) = cond (leb a b) (progress (with_span m a b) Empty) (progress m Broken)
closed m Broken = progress m Broken

-- "items split by single commas": one byte more
unfoldable pub stepped : ℕ → Progress → ℕ → Progress
stepped limit r x = cond (eqb x comma) (closed r.named r.item) (progress r.named (with_byte limit r.item x))

-- all bytes of a text, one after the other
unfoldable pub read_on : ℕ → Progress → List ℕ → Progress
read_on limit r [] = r
read_on limit r (x ∷ xs) = read_on limit (stepped limit r x) xs

-- the set that is read, if the last item ended well
abbrev pub answer : Numbers → Item → Option ℕ
answer m Empty = some m.0
answer m (Number v) = none
answer m (Dashed a) = none
answer m (Range a b) = none
answer m Broken = none

-- the text ends, and its last item with it
unfoldable pub ended : Progress → Option ℕ
ended r = answer (closed r.named r.item).named (closed r.named r.item).item

-- what the answer of a reader of items stands for
abbrev pub numbers_read : StdOption Numbers → Option ℕ
numbers_read (Some m) = some m.0
numbers_read None = none

-- "one or more items split by single commas": the numbers that they name, if all are items
unfoldable pub items_read : ℕ → List ℕ → Option ℕ
items_read limit text = cond (is_items limit text) (some (mask_of most_nodes (names text))) none
