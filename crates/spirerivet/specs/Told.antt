-- What a host in C or Rust is told, in numbers, since an enum cannot cross: of a call that writes an output, of a drain, and of a list of calls.
use Rattle.std.specs.Prelude.{ℕ, List}
use Rattle.rules.specs.Calls.{Tables}
use Rattle.rules.specs.Decisions.{Written}
use Rattle.rules.specs.Near.{Listing}
use Rattle.rules.specs.Drain.{Drained}
use Rattle.rules.specs.Answers.{in_numbers, order_numbers}
use Rattle.replay.specs.Replay.{Run}

-- The answer in numbers, and the output afterwards.
pub record ToldOutput : Type 0 where
  pub answer : List ℕ
  pub output : List ℕ

abbrev pub told_output : List ℕ → List ℕ → ToldOutput
told_output answer output = record { answer = answer; output = output }

-- what a call wrote, as a host is told of it
unfoldable pub told_written : Written → ToldOutput
told_written w = told_output (in_numbers w.answer) w.output

-- near(x) as listed, as a host is told of it
unfoldable pub told_listing : Listing → ToldOutput
told_listing l = told_output (order_numbers l.answer) l.output

-- The answer in numbers, the tables and the output afterwards.
pub record ToldRun : Type 0 where
  pub answer : List ℕ
  pub tables : Tables
  pub output : List ℕ

abbrev pub told_run : List ℕ → Tables → List ℕ → ToldRun
told_run answer tables output = record { answer = answer; tables = tables; output = output }

-- a list of calls, as a host is told of it
unfoldable pub told_replay : Run → ToldRun
told_replay r = told_run (in_numbers r.answer) r.tables r.output

-- M-107: a drain, as a host is told of it
unfoldable pub told_drain : Drained → ToldRun
told_drain d = told_run (in_numbers d.answer) d.tables d.output
