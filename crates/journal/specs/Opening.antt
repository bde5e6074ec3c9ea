-- The machine record, with which a journal opens (document 01, "The journal program").
use Rattle.std.specs.Prelude.{ℕ, ◌≡◌, true, cond, List}
use Rattle.rules.specs.Decisions.{accept}
use Rattle.rules.specs.Calls.{Tables, request_tables_ok}
use Rattle.rules.specs.Journal.{head_size, counts_ok, machine_size, machine_in, opening}

-- "N (1 to 16), CPU count (1 to 64)": the bytes that the verdict on it goes by, the six head bytes alone where their counts break the rules
unfoldable pub opening_size : List ℕ → ℕ
opening_size bs = cond (counts_ok bs) (machine_size bs) head_size

-- A good machine record, and tables that are in order for its machine.
pub record Opened (bs : List ℕ) (t : Tables) : Type 0 where
  pub good : opening bs ≡ accept (machine_size bs)
  pub tables : request_tables_ok (machine_in bs) t ≡ true
