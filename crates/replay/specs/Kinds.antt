-- The kinds of calls by their numbers.
use Rattle.std.specs.Prelude.{ℕ, ◌≡◌, false, ◌||◌, Option, Some, None}
use Rattle.rules.specs.Basics.{between}
use Rattle.replay.specs.declared.encoding.Kind.{Kind}
use Rattle.replay.specs.declared.encoding.Kind.TheVariants.{Request, Release, Rebind, Install, Clear, Fresh, Keep, SetMap, Drain}

-- "1 request, 2 release, 3 rebind, 4 install, 5 clear", and from 16 on the kinds that the journal has not
abbrev pub number_of : Kind → ℕ
number_of Request = 1
number_of Release = 2
number_of Rebind = 3
number_of Install = 4
number_of Clear = 5
number_of Fresh = 16
number_of Keep = 17
number_of SetMap = 18
number_of Drain = 19

-- the kind of a word, none where it is no kind's number
abbrev pub KindOf : Option Kind → ℕ → Type 0
KindOf (Some k) w = w ≡ number_of k
KindOf None w = (between 1 5 w || between 16 19 w) ≡ false
