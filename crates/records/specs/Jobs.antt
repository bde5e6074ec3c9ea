-- What the code's policy, record and decoded job stand for in the rules (document 01, "A job's record").
use Rattle.std.specs.Prelude.{ℕ, ◌≡◌, ◌++◌, length, take, replicate}
use mathlib.Core.List as Lists
use Rattle.rules.specs.Records.{Carries as Holds, nothing, aMask, aList, unknown, Cursor as CursorIs, no_cursor, aNode, aPlace, Row as LawRow}
use Rattle.rules.specs.Records.{places_per_job, bytes_of, Policy as Asked, policy, Turn, Record as LawRecord}
use Rattle.nodemask.specs.declared.Mask.{Mask}
use Rattle.records.specs.declared.record.Carries.{Carries}
use Rattle.records.specs.declared.record.Carries.TheVariants.{Nothing, AMask, AList, Unknown}
use Rattle.records.specs.declared.record.Cursor.{Cursor}
use Rattle.records.specs.declared.record.Cursor.TheVariants.{NoCursor, ANode, APlace}
use Rattle.records.specs.declared.record.Row.{Row}
use Rattle.records.specs.declared.job.Flag.{Flag}
use Rattle.records.specs.declared.job.Flag.TheVariants.{Plain, Static, Relative}
use Rattle.records.specs.declared.job.Mode.{Mode}
use Rattle.records.specs.declared.job.Mode.TheVariants.{Default, Preferred, Bind, Interleave, List, Ring, Early}
use Rattle.records.specs.declared.job.Job.{Job}
use Rattle.records.specs.declared.policy.AppPolicy.{AppPolicy}
use Rattle.records.specs.declared.policy.Policy.{Policy}
use Rattle.records.specs.declared.record.Record.{Record}

-- The table "Mode | Carries": what a mode carries
abbrev pub holds_in : Carries → Holds
holds_in Nothing = nothing
holds_in AMask = aMask
holds_in AList = aList
holds_in Unknown = unknown

-- "The cursor is the last target node (mode 3) or the last place (modes 5, 6)"
abbrev pub cursor_in : Cursor → CursorIs
cursor_in NoCursor = no_cursor
cursor_in ANode = aNode
cursor_in APlace = aPlace

-- a row of the table
abbrev pub row_in : Row → LawRow
row_in r = record { holds = holds_in r.0; cursor = cursor_in r.1 }

-- "Flags: 0 none, 1 static, 2 relative"
abbrev pub flag_number : Flag → ℕ
flag_number Plain = 0
flag_number Static = 1
flag_number Relative = 2

-- The fields of a record that go by its mode. "Each mode carries its own data and nothing of another's": what it does not carry is zero
pub record Carried : Type 0 where
  pub mode : ℕ
  pub flag : ℕ
  pub len : ℕ
  pub cursor : ℕ
  pub user : ℕ
  pub effective : ℕ

-- these fields, put together
abbrev pub carried : ℕ → ℕ → ℕ → ℕ → ℕ → ℕ → Carried
carried mode flag len cursor user effective =
    record { mode = mode; flag = flag; len = len; cursor = cursor; user = user; effective = effective }

-- flag and masks, and a cursor
abbrev pub masks : ℕ → Flag → Mask → Mask → ℕ → Carried
masks mode flag user effective cursor = carried mode (flag_number flag) 0 cursor user.0 effective.0

-- a list length, and a cursor
abbrev pub listed : ℕ → ℕ → ℕ → Carried
listed mode len cursor = carried mode 0 len cursor 0 0

-- The table "Mode | Carries": what a decoded mode carries
abbrev pub carried_in : Mode → Carried
carried_in Default = listed 0 0 0
carried_in (Preferred f u e) = masks 1 f u e 0
carried_in (Bind f u e) = masks 2 f u e 0
carried_in (Interleave f u e c) = masks 3 f u e c
carried_in (List l) = listed 4 l 0
carried_in (Ring l c) = listed 5 l c
carried_in (Early l c) = listed 6 l c

-- a cursor field, and zeros above it
abbrev pub turn_of : ℕ → Turn
turn_of cursor = record { cursor = cursor; rest = 0 }

-- the record of what goes by the mode, an allowed mask and sixteen places
unfoldable pub record_with : Carried → ℕ → Lists.List ℕ → LawRecord
record_with c allowed places = record {
  mode = c.mode;
  flag = c.flag;
  len = c.len;
  turn = turn_of c.cursor;
  user = c.user;
  allowed = allowed;
  effective = c.effective;
  bytes = places;
}

-- the record of a decoded job
unfoldable pub job_of : Job → LawRecord
job_of j = record_with (carried_in j.mode) j.allowed.0 j.places

-- the record of the code's fields
unfoldable pub record_of : Record → LawRecord
record_of r = record {
  mode = r.mode;
  flag = r.flag;
  len = r.len;
  turn = record { cursor = r.cursor; rest = r.rest };
  user = r.user.0;
  allowed = r.allowed.0;
  effective = r.effective.0;
  bytes = bytes_of 8 r.low ++ bytes_of 8 r.high;
}

-- what goes by the mode, of a record
abbrev pub carried_of : LawRecord → Carried
carried_of r = carried r.mode r.flag r.len r.turn.cursor r.user r.effective

-- what a policy in the job's own numbers asks for, and what one in system nodes stands for, with these places
abbrev pub asked : AppPolicy → Lists.List ℕ → Asked
asked c places = policy c.mode c.flag c.user places

abbrev pub stands : Policy → Lists.List ℕ → Asked
stands c places = policy c.mode c.flag c.user.0 places

-- These numbers stand for policy p: they have the number of its places, the first sixteen of them, and zeros past their end
pub record Numbers (mode flag user len : ℕ) (places : Lists.List ℕ) (p : Asked) : Type 0 where
  pub same_mode : p.mode ≡ mode
  pub same_flag : p.flag ≡ flag
  pub same_user : p.user ≡ user
  pub same_len : length p.places ≡ len
  pub same_places : take places_per_job (p.places ++ replicate places_per_job 0) ≡ places

abbrev pub Asks : AppPolicy → Asked → Type 0
Asks c p = Numbers c.mode c.flag c.user c.len c.places p

abbrev pub Stands : Policy → Asked → Type 0
Stands c p = Numbers c.mode c.flag c.user.0 c.len c.places p
