-- What the result of a request's tests stands for in the rules.
use Rattle.std.specs.Prelude.{ℕ, ◌≡◌, ltb, Result, Ok, Err}
use Rattle.rules.specs.Records.{Record, well_formed}
use Rattle.rules.specs.Decisions.{Decision, refuse, accept, unless}
use Rattle.rules.specs.Answers.{number_of}
use Rattle.rules.specs.declared.Refusal.{Refusal}
use Rattle.records.specs.Jobs.{record_of}
use Rattle.placement.specs.declared.Admitted.{Admitted}

-- the record that the request goes by, or the refusal
abbrev pub admission_of : Result Admitted Refusal → Decision Record
admission_of (Ok a) = accept (record_of a.record)
admission_of (Err why) = refuse (number_of why)

-- the nodes that the job may get are these
abbrev pub LimitIs : ℕ → Result Admitted Refusal → Type 0
LimitIs limit (Ok a) = a.limit.0 ≡ limit
LimitIs limit (Err why) = Unit {0}

-- "3, 4": the tests that are left once a job with this record has a good map
abbrev pub admit_tests : ℕ → ℕ → ℕ → Record → Decision Record
admit_tests n cpus k r = unless (ltb k cpus) 3 (unless (well_formed n r) 4 (accept r))
