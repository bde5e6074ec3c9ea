-- Document 01, "A job's record": the six words, what they hold, when they are well formed, and what install and rebind store.
use Rattle.std.specs.Prelude.{
  ℕ,
  zero,
  suc,
  ◌+◌,
  ◌*◌,
  ◌/◌,
  ◌%◌,
  ◌^◌,
  Bool,
  true,
  false,
  not,
  ◌&&◌,
  ◌||◌,
  cond,
  List,
  [],
  ◌∷◌,
  ◌++◌,
  length,
  get_or,
  take,
  drop,
  replicate,
  leb,
  eqb,
}
use Rattle.std.proofs.lemmas.List.Edits.{sets}
use Rattle.rules.specs.Basics.{all, last_or, between}
use Rattle.rules.specs.Masks.{most_nodes, both, within, below, is_empty, folded, remapped}

-- "six to a job"
abbrev pub words_per_job : ℕ
words_per_job = 6

-- "sixteen list places"
abbrev pub places_per_job : ℕ
places_per_job = 16

-- "1 to 64 jobs"
abbrev pub most_jobs : ℕ
most_jobs = 64

-- The table "Mode | Carries": the modes 0 to 6
pub data Mode : Type 0 where
  default preferred bind interleave list ring early unknownMode : Mode

abbrev pub mode_of : ℕ → Mode
mode_of n = get_or (default ∷ preferred ∷ bind ∷ interleave ∷ list ∷ ring ∷ early ∷ []) n unknownMode

-- "Flags: 0 none, 1 static, 2 relative"
pub data Flag : Type 0 where
  plain static relative unknownFlag : Flag

abbrev pub flag_of : ℕ → Flag
flag_of n = get_or (plain ∷ static ∷ relative ∷ []) n unknownFlag

-- The table "Mode | Carries": what a mode carries
pub data Carries : Type 0 where
  nothing aMask aList unknown : Carries

-- "The cursor is the last target node (mode 3) or the last place (modes 5, 6)": what a mode's cursor is
pub data Cursor : Type 0 where
  no_cursor aNode aPlace : Cursor

-- One row of the table "Mode | Carries"
pub record Row : Type 0 where
  pub holds : Carries
  pub cursor : Cursor

abbrev row : Carries → Cursor → Row
row holds cursor = record { holds = holds; cursor = cursor }

-- The table "Mode | Carries"
unfoldable pub row_of : Mode → Row
row_of default = row nothing no_cursor
row_of preferred = row aMask no_cursor
row_of bind = row aMask no_cursor
row_of interleave = row aMask aNode
row_of list = row aList no_cursor
row_of ring = row aList aPlace
row_of early = row aList aPlace
row_of unknownMode = row unknown no_cursor

abbrev pub carries : Mode → Carries
carries m = (row_of m).holds

-- "policy": what an install asks for, its mode, flag, user mask and places
pub record Policy : Type 0 where
  pub mode : ℕ
  pub flag : ℕ
  pub user : ℕ
  pub places : List ℕ

abbrev pub policy : ℕ → ℕ → ℕ → List ℕ → Policy
policy mode flag user places = record { mode = mode; flag = flag; user = user; places = places }

-- "did its turn come": word 0 from bit 24 up, the cursor field and `rest`, the bits above it
pub record Turn : Type 0 where
  pub cursor : ℕ
  pub rest : ℕ

-- "its field holds that plus 1, or 0 for none yet": no last place or target yet, and node or place p for the last
abbrev pub none_yet : Turn
none_yet = record { cursor = 0; rest = 0 }

abbrev pub last_is : ℕ → Turn
last_is p = record { cursor = suc p; rest = 0 }

-- A job's record by its fields; `bytes` are all sixteen list places.
pub record Record : Type 0 where
  pub mode : ℕ
  pub flag : ℕ
  pub len : ℕ
  pub turn : Turn
  pub user : ℕ
  pub allowed : ℕ
  pub effective : ℕ
  pub bytes : List ℕ

-- "one byte each, lowest byte first": the k lowest bytes of a number, and the number of some bytes
unfoldable pub bytes_of : ℕ → ℕ → List ℕ
bytes_of zero x = []
bytes_of (suc k) x = x % 256 ∷ bytes_of k (x / 256)

unfoldable pub from_bytes : List ℕ → ℕ
from_bytes [] = 0
from_bytes (b ∷ bs) = from_bytes bs * 256 + b

-- "Word 0: bits 0-7 mode, 8-15 flag, 16-23 list length, 24-31 cursor, the rest zero. Word 1: user mask. Word 2: allowed mask.
-- Word 3: effective mask. Words 4 and 5: sixteen list places, one byte each, lowest byte first"
unfoldable pub decode : List ℕ → Record
decode w = record {
  mode = get_or w 0 0 % 256;
  flag = get_or w 0 0 / 2 ^ 8 % 256;
  len = get_or w 0 0 / 2 ^ 16 % 256;
  turn = record { cursor = get_or w 0 0 / 2 ^ 24 % 256; rest = get_or w 0 0 / 2 ^ 32 };
  user = get_or w 1 0;
  allowed = get_or w 2 0;
  effective = get_or w 3 0;
  bytes = bytes_of 8 (get_or w 4 0) ++ bytes_of 8 (get_or w 5 0);
}

-- "A job's record": the six words of its fields
unfoldable pub encode : Record → List ℕ
encode r =
    (r.mode + r.flag * 2 ^ 8 + r.len * 2 ^ 16 + r.turn.cursor * 2 ^ 24 + r.turn.rest * 2 ^ 32)
    ∷ r.user
    ∷ r.allowed
    ∷ r.effective
    ∷ from_bytes (take 8 r.bytes)
    ∷ from_bytes (drop 8 r.bytes)
    ∷ []

-- "The job table is lent as 64-bit words, six to a job, 1 to 64 jobs": by the table's length
abbrev pub job_count : ℕ → ℕ
job_count words = words / words_per_job

unfoldable pub job_table_ok : ℕ → Bool
job_table_ok words = eqb (words % words_per_job) 0 && between 1 most_jobs (job_count words)

-- "The job table": the record of job j, and the table with another record for job j
unfoldable pub record_at : List ℕ → ℕ → Record
record_at table j = decode (take words_per_job (drop (words_per_job * j) table))

unfoldable pub put_record : List ℕ → ℕ → Record → List ℕ
put_record table j r = sets table (words_per_job * j) (encode r)

-- "Six zero words are a fresh job"
unfoldable pub fresh : Record
fresh = decode (replicate words_per_job 0)

-- "list length": the places in use
unfoldable pub places_of : Record → List ℕ
places_of r = take r.len r.bytes

-- M-104: "a 255 in the last place": the places of a list end in it
abbrev pub closing_place : ℕ
closing_place = 255

unfoldable pub closes : List ℕ → Bool
closes places = eqb (last_or places 0) closing_place

-- "unused bits and places are zero"
unfoldable pub unused_zero : Record → Bool
unused_zero r = eqb r.turn.rest 0 && all (eqb 0) (drop r.len r.bytes)

-- "mode and flag are known"
unfoldable pub is_known : Carries → Bool
is_known nothing = true
is_known aMask = true
is_known aList = true
is_known unknown = false

abbrev pub mode_known : Mode → Bool
mode_known m = is_known (carries m)

unfoldable pub flag_known : Flag → Bool
flag_known plain = true
flag_known static = true
flag_known relative = true
flag_known unknownFlag = false

-- "the allowed mask lies below N and is non-empty unless the mode is 0"
unfoldable pub allowed_fits : ℕ → Record → Bool
allowed_fits n r = below n r.allowed && (eqb r.mode 0 || not (is_empty r.allowed))

-- "the cursor field is at most N in mode 3, at most the list length in 5 and 6, and 0 elsewhere"
unfoldable pub cursor_limit : ℕ → ℕ → Cursor → ℕ
cursor_limit n len no_cursor = 0
cursor_limit n len aNode = n
cursor_limit n len aPlace = len

unfoldable pub cursor_fits : ℕ → Record → Bool
cursor_fits n r = leb r.turn.cursor (cursor_limit n r.len (row_of (mode_of r.mode)).cursor)

-- "flag 0 and empty user and effective masks"
unfoldable pub no_masks : Record → Bool
no_masks r = eqb r.flag 0 && is_empty r.user && is_empty r.effective

-- "with a user mask, flag 0 needs a non-empty effective mask within allowed, static needs user within N and effective = user and
-- allowed, relative needs effective = the folded mask below. With flag 0 the user mask lies below N"
unfoldable pub effective_fits : ℕ → Record → Flag → Bool
effective_fits n r plain = below n r.user && not (is_empty r.effective) && within r.effective r.allowed
effective_fits n r static = below n r.user && eqb r.effective (both r.user r.allowed)
effective_fits n r relative = eqb r.effective (folded most_nodes r.user r.allowed)
effective_fits n r unknownFlag = false

-- "In modes 1 to 3 the user mask is non-empty, except that preferred may have user and effective masks empty with flag 0"
unfoldable pub masks_fit : ℕ → Record → Bool
masks_fit n r = cond (is_empty r.user) (eqb r.mode 1 && no_masks r) (effective_fits n r (flag_of r.flag))

-- "modes 0, 4, 5, 6 have flag 0 and empty user and effective masks; modes 0 to 3 have no list; modes 4 to 6 have 1 to 16 places"
unfoldable pub data_fits : ℕ → Record → Carries → Bool
data_fits n r nothing = no_masks r && eqb r.len 0
data_fits n r aMask = masks_fit n r && eqb r.len 0
data_fits n r aList = no_masks r && between 1 places_per_job r.len
data_fits n r unknown = false

-- "A record is well formed if: .."
unfoldable pub well_formed : ℕ → Record → Bool
well_formed n r =
    unused_zero r && mode_known (mode_of r.mode) && flag_known (flag_of r.flag) && allowed_fits n r && cursor_fits n r
    && data_fits n r (carries (mode_of r.mode))

-- "Effective: user and allowed (flags 0, 1) or folded (2)"
unfoldable pub effective_at_install : Flag → ℕ → ℕ → ℕ
effective_at_install plain user allowed = both user allowed
effective_at_install static user allowed = both user allowed
effective_at_install relative user allowed = folded most_nodes user allowed
effective_at_install unknownFlag user allowed = 0

-- "Install stores mode, flag, user mask or places, keeps the allowed mask and clears the rest"
unfoldable pub installed : Record → Policy → Record
installed r p = record {
  mode = p.mode;
  flag = p.flag;
  len = length p.places;
  turn = none_yet;
  user = p.user;
  allowed = r.allowed;
  effective = effective_at_install (flag_of p.flag) p.user r.allowed;
  bytes = take places_per_job (p.places ++ replicate places_per_job 0);
}

-- "flag 0 remaps the effective mask, static takes user and allowed, relative folds afresh"
unfoldable pub effective_at_rebind : Flag → Record → ℕ → ℕ
effective_at_rebind plain r new = remapped most_nodes r.effective r.allowed new
effective_at_rebind static r new = both r.user new
effective_at_rebind relative r new = folded most_nodes r.user new
effective_at_rebind unknownFlag r new = 0

-- "Rebind replaces the allowed mask .. The cursor stays"
unfoldable pub rebound : Record → ℕ → Record
rebound r new = record {
  mode = r.mode;
  flag = r.flag;
  len = r.len;
  turn = r.turn;
  user = r.user;
  allowed = new;
  effective = effective_at_rebind (flag_of r.flag) r new;
  bytes = r.bytes;
}

-- "Interleave then sets the cursor to the target .. Ring sets it to the granted place": the record with another turn
unfoldable pub with_turn : Record → Turn → Record
with_turn r turn = record {
  mode = r.mode;
  flag = r.flag;
  len = r.len;
  turn = turn;
  user = r.user;
  allowed = r.allowed;
  effective = r.effective;
  bytes = r.bytes;
}

-- for a proof that computes: `unfolding open_records` opens every definition of this file
unfoldable pub open_records : Unit {0}
unfolding row_of bytes_of from_bytes decode encode job_table_ok record_at put_record fresh places_of closes unused_zero is_known flag_known
    allowed_fits cursor_limit cursor_fits no_masks effective_fits masks_fit data_fits well_formed effective_at_install installed effective_at_rebind
    rebound with_turn
open_records = tt
