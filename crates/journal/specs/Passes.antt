-- What the code's struct for a part says.
use Rattle.std.specs.Prelude.{List, ℕ}
use Rattle.rules.specs.Calls.{Tables}
use Rattle.journal.specs.declared.run.Part.{Part}
use Rattle.journal.specs.Parts.{Passed}

-- a part, with the tables and the output that it leaves
abbrev pub passed : Part → Tables → List ℕ → Passed
passed p tables output = record { read = p.read; written = p.written; more = p.more; tables = tables; output = output }
