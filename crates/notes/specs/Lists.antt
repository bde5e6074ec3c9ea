-- The lists of a note by their numbers.
use Rattle.std.specs.Prelude.{ℕ}
use Rattle.notes.specs.declared.Which.{Which}
use Rattle.notes.specs.declared.Which.TheVariants.{Text, Data}

-- 0 is the text list, and 1, as any other number, the data list
abbrev pub number_of : Which → ℕ
number_of Text = 0
number_of Data = 1
