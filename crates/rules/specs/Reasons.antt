-- Request M-106, "Why this node?": the reason of each node at a request, and the call that writes them.
use Rattle.std.specs.Prelude.{ℕ, Bool, true, false, not, ◌&&◌, cond, List, ◌++◌, map, length, drop, eqb, leb}
use Rattle.std.proofs.Math.Option.{Option, none, some}
use Rattle.rules.specs.Basics.{any, from}
use Rattle.rules.specs.Machine.{Machine, node_count, node_of_cpu, distance}
use Rattle.rules.specs.Masks.{has}
use Rattle.rules.specs.Records.{Record, Mode, default, preferred, bind, interleave, list, ring, early, unknownMode, record_at}
use Rattle.rules.specs.SearchOrder.{Try, Plan, nearest, placed, closed, mode_in_force, plan, order, has_room, counted, chosen}
use Rattle.rules.specs.Decisions.{Decision, accept, unless, then, decided, Written, wrote, not_written}
use Rattle.rules.specs.Calls.{Tables, admitted, limit_of, order_of}

-- ---- what a reason says of node n

-- "2 outside a bind set in force": in mode 2, unless it is static with an empty effective set
unfoldable pub outside_bind : Mode → ℕ → ℕ → Bool
outside_bind bind effective n = not (has effective n)
outside_bind default effective n = false
outside_bind preferred effective n = false
outside_bind interleave effective n = false
outside_bind list effective n = false
outside_bind ring effective n = false
outside_bind early effective n = false
outside_bind unknownMode effective n = false

-- "255 for unreachable": from x; x itself stands on the diagonal
unfoldable pub is_far : ℕ → List ℕ → ℕ → ℕ → Bool
is_far nodes distances x n = eqb (distance nodes distances x n) 255

-- "3 unreachable, in modes other than 4 to 6": from the x of the near(x) by which they search
unfoldable pub unreachable : ℕ → List ℕ → Plan → ℕ → Bool
unreachable nodes distances (nearest set x turn) n = is_far nodes distances x n
unreachable nodes distances (placed ts) n = false
unreachable nodes distances (closed ts x turn) n = false

-- "named": some try is of the node
unfoldable pub names : List Try → ℕ → Bool
names ts n = any (λ t. eqb t.node n) ts

-- "4 named by no place, in modes 4 to 6 (under a closing 255: nor reachable)": these search by places
unfoldable pub unnamed : ℕ → List ℕ → Plan → ℕ → Bool
unnamed nodes distances (nearest set x turn) n = false
unnamed nodes distances (placed ts) n = not (names ts n)
unnamed nodes distances (closed ts x turn) n = not (names ts n) && is_far nodes distances x n

-- "6 chosen": the node is that of the try
unfoldable pub is_chosen : Option Try → ℕ → Bool
is_chosen none n = false
is_chosen (some s) n = eqb s.node n

-- "the first that fits: 1 not allowed; 2 outside a bind set in force; 3 unreachable, ..; 4 named by no place, ..; 5 full; 6 chosen; 7 had
-- room but came later". `limit` is the set of nodes that the job may get: "code 1 includes nodes outside the map"; "full means counted 0".
unfoldable pub reason_in : ℕ → List ℕ → List ℕ → ℕ → Record → Plan → ℕ → ℕ
reason_in nodes distances free limit r p n =
    cond (not (has limit n)) 1
    (cond (outside_bind (mode_in_force r) r.effective n) 2
    (cond (unreachable nodes distances p n) 3
    (cond (unnamed nodes distances p n) 4
    (cond (not (counted free n)) 5
    (cond (is_chosen (chosen free (order nodes distances limit p)) n) 6
    7)))))

-- ---- the call

-- how job j's request from CPU k searches
abbrev pub plan_for : Machine → Tables → ℕ → ℕ → Plan
plan_for m t j k = plan (limit_of t j) (record_at t.records j) (node_of_cpu m.cpu_nodes k)

-- the reason of node n at job j's request from CPU k
unfoldable pub reason_of : Machine → Tables → ℕ → ℕ → ℕ → ℕ
reason_of m t j k n = reason_in (node_count m) m.distances t.free (limit_of t j) (record_at t.records j) (plan_for m t j k) n

-- "N reason bytes"
unfoldable pub reasons_of : Machine → Tables → ℕ → ℕ → List ℕ
reasons_of m t j k = map (reason_of m t j k) (from 0 (node_count m))

-- M-100's 14: "meets a node counted above 0 with no free page". Where no node is chosen the request is refused 8, and none is met.
unfoldable pub meets_room : List ℕ → List ℕ → Option Try → Bool
meets_room counts ledger none = true
meets_room counts ledger (some s) = has_room counts ledger s.node

-- "For a request that would be granted or refused 8"; "Output shorter than N is 11, tested after the request's own refusals 1 to 4 and 15,
-- before 14"
unfoldable pub reasons_decision : Machine → Tables → ℕ → ℕ → ℕ → Decision (List ℕ)
reasons_decision m t j k room =
    then (admitted m t j k)
    (λ r. unless (leb (node_count m) room) 11
    (unless (meets_room m.page_counts t.ledger (chosen t.free (order_of m t j k))) 14
    (accept (reasons_of m t j k))))

-- "write N reason bytes"; M-104: "Here and later no output changes past what is written"
unfoldable pub on_reasons : Machine → Tables → ℕ → ℕ → List ℕ → Written
on_reasons m t j k out =
    decided
    (not_written out)
    (λ reasons. wrote (accept (node_count m)) (reasons ++ drop (node_count m) out))
    (reasons_decision m t j k (length out))

-- for a proof that computes: `unfolding open_reasons` opens every definition of this file
unfoldable pub open_reasons : Unit {0}
unfolding outside_bind is_far unreachable names unnamed is_chosen reason_in reason_of reasons_of meets_room reasons_decision on_reasons
open_reasons = tt
