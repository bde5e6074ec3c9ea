-- The writer of node-list text: a line of all runs, each with a comma before it. The text is what follows the first comma.
use Rattle.std.specs.Prelude.{◌≡◌, ℕ, ◌+◌, ◌-◌, ◌≤◌, ◌<◌, List, [], ◌∷◌, Option, Some, None}
use Rattle.rules.specs.Basics.{keep, each, from}
use Rattle.rules.specs.Masks.{most_nodes, has}
use Rattle.rules.specs.Text.{comma, Run, runs, run_text}
use Rattle.nodelist.specs.declared.writer.Run.{Run as Span}

-- the bytes that a line may take: three for each node
abbrev pub line_bytes : ℕ
line_bytes = 192

-- the run from low to high
abbrev pub run_of : ℕ → ℕ → Run
run_of low high = record { low = low; high = high }

-- the runs of the nodes from a on
unfoldable pub runs_from : ℕ → ℕ → List Run
runs_from m a = runs (keep (has m) (from a (most_nodes - a)))

-- what is found is the first run from a on, and the runs past it follow
abbrev pub FirstFrom : ℕ → ℕ → Option Span → Type 0
FirstFrom m a None = runs_from m a ≡ []
FirstFrom m a (Some r) =
    (a ≤ r.low.0) × (r.low.0 ≤ r.high.0) × (r.high.0 < most_nodes) × (runs_from m a ≡ run_of r.low.0 r.high.0 ∷ runs_from m (r.high.0 + 1))

-- a run with a comma before it
abbrev pub line_run : Run → List ℕ
line_run r = comma ∷ run_text r

-- all runs of a mask
unfoldable pub line_of : ℕ → List ℕ
line_of m = each line_run (runs_from m 0)
