-- Request M-100 by examples on machine A: what calls answer and leave with counts that match and with counts that do not.
use Rattle.std.specs.Prelude.{ℕ, Bool, ◌&&◌, List, [], ◌∷◌, T}
use Rattle.rules.specs.Basics.{open_basics, all, same}
use Rattle.rules.specs.Machine.{open_machine}
use Rattle.rules.specs.Masks.{open_masks}
use Rattle.rules.specs.Records.{open_records}
use Rattle.rules.specs.Maps.{open_maps, identity_maps}
use Rattle.rules.specs.SearchOrder.{open_search_order}
use Rattle.rules.specs.Decisions.{open_decisions}
use Rattle.rules.specs.Calls.{open_calls, Answer, released, done, refused, tables_of}
use Rattle.rules.specs.Book.{open_book, Call, request, release, rebind, fresh_table, answers, final}
use Rattle.rules.specs.Examples.{machine_a, page, same_answers}

-- these calls of job 0, in ring mode over nodes 0, 1 and 3 with all nodes allowed, on machine A with this page table and these free counts
-- are answered so and leave that page table and those counts
pub record Example : Type 0 where
  pub ledger : List ℕ
  pub free : List ℕ
  pub calls : List Call
  pub wanted : List Answer
  pub ledger_after : List ℕ
  pub free_after : List ℕ

abbrev example : List ℕ → List ℕ → List Call → List Answer → List ℕ → List ℕ → Example
example ledger free calls wanted ledger_after free_after =
    record { ledger = ledger; free = free; calls = calls; wanted = wanted; ledger_after = ledger_after; free_after = free_after }

-- ring {0,1,3} of one job
abbrev ring_job : List ℕ
ring_job = 0x30005 ∷ 0 ∷ 15 ∷ 0 ∷ 0x30100 ∷ 0 ∷ []

abbrev pub right : Example → Bool
right e =
    let t = tables_of e.ledger ring_job e.free (identity_maps 4 1) in
    same_answers (answers machine_a t e.calls) e.wanted
    && same (final machine_a t e.calls).ledger e.ledger_after
    && same (final machine_a t e.calls).free e.free_after

abbrev ask : Call
ask = request 0 0

abbrev pub table : List Example
table =
    -- counts that match: a grant and a release, each with its count
    example (0 ∷ 0 ∷ 0 ∷ 0 ∷ 0 ∷ 0 ∷ []) (2 ∷ 2 ∷ 0 ∷ 2 ∷ []) (ask ∷ ask ∷ release 0 0 ∷ [])
    (page 0 ∷ page 2 ∷ released 0 0 ∷ []) (0 ∷ 0 ∷ 1 ∷ 0 ∷ 0 ∷ 0 ∷ []) (2 ∷ 1 ∷ 0 ∷ 2 ∷ [])
    -- "pass over nodes counted 0", though they have room; 8 where every node in the order is counted 0
    ∷ example (0 ∷ 0 ∷ 0 ∷ 0 ∷ 0 ∷ 0 ∷ []) (0 ∷ 1 ∷ 0 ∷ 0 ∷ []) (ask ∷ ask ∷ [])
    (page 2 ∷ refused 8 ∷ []) (0 ∷ 0 ∷ 1 ∷ 0 ∷ 0 ∷ 0 ∷ []) (0 ∷ 0 ∷ 0 ∷ 0 ∷ [])
    -- "meets a node counted above 0 with no free page": 14, and nothing changes; the next node has room and is not asked
    ∷ example (9 ∷ 9 ∷ 0 ∷ 0 ∷ 0 ∷ 0 ∷ []) (1 ∷ 2 ∷ 0 ∷ 2 ∷ []) (ask ∷ ask ∷ [])
    (refused 14 ∷ refused 14 ∷ []) (9 ∷ 9 ∷ 0 ∷ 0 ∷ 0 ∷ 0 ∷ []) (1 ∷ 2 ∷ 0 ∷ 2 ∷ [])
    -- "before it finds a page": a node with a wrong count behind the one that grants is not met; a wrong count with a free page grants
    ∷ example (0 ∷ 9 ∷ 9 ∷ 9 ∷ 0 ∷ 0 ∷ []) (4294967295 ∷ 5 ∷ 0 ∷ 2 ∷ []) (ask ∷ ask ∷ [])
    (page 0 ∷ refused 14 ∷ []) (1 ∷ 9 ∷ 9 ∷ 9 ∷ 0 ∷ 0 ∷ []) (4294967294 ∷ 5 ∷ 0 ∷ 2 ∷ [])
    -- "a release that would take a count above the node's pages answers 14", after 10
    ∷ example (1 ∷ 0 ∷ 1 ∷ 2 ∷ 0 ∷ 0 ∷ []) (2 ∷ 1 ∷ 0 ∷ 2 ∷ []) (release 0 1 ∷ release 0 3 ∷ release 0 0 ∷ release 0 2 ∷ [])
    (refused 10 ∷ refused 10 ∷ refused 14 ∷ released 1 2 ∷ []) (1 ∷ 0 ∷ 0 ∷ 2 ∷ 0 ∷ 0 ∷ []) (2 ∷ 2 ∷ 0 ∷ 2 ∷ [])
    -- "A table not of N entries is refusal 1"; rebind is not lent it
    ∷ example (1 ∷ 0 ∷ 0 ∷ 0 ∷ 0 ∷ 0 ∷ []) (1 ∷ 2 ∷ 0 ∷ []) (ask ∷ release 0 0 ∷ fresh_table ∷ rebind 0 15 ∷ [])
    (refused 1 ∷ refused 1 ∷ refused 1 ∷ done ∷ []) (1 ∷ 0 ∷ 0 ∷ 0 ∷ 0 ∷ 0 ∷ []) (1 ∷ 2 ∷ 0 ∷ [])
    -- "it frees every page of the machine", those that no job holds too, and makes the counts; "Bytes past the last page are never changed"
    ∷ example (1 ∷ 255 ∷ 2 ∷ 0 ∷ 7 ∷ 9 ∷ 8 ∷ 3 ∷ []) (7 ∷ 7 ∷ 7 ∷ 7 ∷ []) (fresh_table ∷ ask ∷ [])
    (done ∷ page 0 ∷ []) (1 ∷ 0 ∷ 0 ∷ 0 ∷ 0 ∷ 0 ∷ 8 ∷ 3 ∷ []) (1 ∷ 2 ∷ 0 ∷ 2 ∷ [])
    ∷ []

pub all_right : T (all right table)
unfolding open_basics open_machine open_masks open_records open_maps open_search_order open_decisions open_calls open_book
all_right = tt
