-- What a call by value stands for in the rules (document 01, "The lists of demand 3": "The calls are request, release, ..").
use Rattle.std.specs.Prelude.{ℕ, ◌≤◌, ◌<◌, ◌≡◌, List, ◌++◌, length, take, replicate}
use Rattle.rules.specs.Records.{places_per_job, policy}
use Rattle.rules.specs.Maps.{map_size}
use Rattle.rules.specs.Book.{Call as LawCall, request, release, install, rebind, clear, fresh_table, keep_nodes, set_map, drain}
use Rattle.book.specs.declared.Call.{Call}
use Rattle.book.specs.declared.Call.TheVariants.{Request, Release, Rebind, Install, Clear, Fresh, Keep, SetMap, Drain}

-- A list of so many places: "sixteen list places" hold its first sixteen, with zeros behind a shorter one.
pub record Listed (len : ℕ) (places list : List ℕ) : Type 0 where
  pub long : len ≡ length list
  pub held : places ≡ take places_per_job (list ++ replicate places_per_job 0)

-- A list of so many numbers for a map: these bytes begin with it, or it is too long for a map.
pub record Named (len : ℕ) (bytes list : List ℕ) : Type 0 where
  pub long : len ≡ length list
  pub held : len ≤ length bytes → take len bytes ≡ list
  pub past : length bytes < len → map_size < len

-- the value, with the places and the list for a map beside it, stands for this call of the rules
abbrev pub Says : Call → List ℕ → List ℕ → LawCall → Type 0
Says (Request job cpu) places bytes c = c ≡ request job cpu
Says (Release job page) places bytes c = c ≡ release job page
Says (Rebind job allowed) places bytes c = c ≡ rebind job allowed
Says (Install job mode flag mask len) places bytes c = (list : List ℕ) × (c ≡ install job (policy mode flag mask list)) × Listed len places list
Says (Clear job) places bytes c = c ≡ clear job
Says Fresh places bytes c = c ≡ fresh_table
Says (Keep job len) places bytes c = (list : List ℕ) × (c ≡ keep_nodes job list) × Named len bytes list
Says (SetMap job len) places bytes c = (list : List ℕ) × (c ≡ set_map job list) × Named len bytes list
Says (Drain node room) places bytes c = c ≡ drain node room
