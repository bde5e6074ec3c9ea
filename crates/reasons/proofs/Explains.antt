-- The reasons at a request that has passed its tests are the rules'.
-- Assumes nothing.
use Prim.Native.Nat.{ℕ, ◌≤◌, ◌<◌}
use mathlib.Core.Path.{◌≡◌, sym}
use mathlib.Core.Bool.{true, false}
use mathlib.Core.List.{List, ◌++◌, map}
use mathlib.Core.Option as Math
use Rattle.std.specs.Prelude.{Option, Some, None}
use lib.ListN.{length, drop}
use borrow.Author.Tests.{le-leb, lt-leb}
use Rattle.rules.specs.Basics.{from}
use Rattle.rules.specs.Machine.{Machine, node_count, node_of_cpu}
use Rattle.rules.specs.Records.{Record}
use Rattle.rules.specs.SearchOrder.{Try, plan, order, chosen}
use Rattle.rules.specs.Decisions.{refuse, accept, Written, wrote}
use Rattle.rules.specs.Calls.{Tables, request_tables_ok, admitted, limit_of, order_of}
use Rattle.rules.specs.Reasons.{reason_in, reason_of, reasons_of, meets_room, reasons_decision, on_reasons}
use Rattle.machine.specs.Tables.{Starts}
use Rattle.placement.specs.Searches.{chosen_by}
use Rattle.placement.specs.declared.search.Chosen.{Chosen}
use Rattle.placement.proofs.Grants.{chose, paged}
use Rattle.placement.proofs.Hints.{no_hints}
use Rattle.placement.proofs.Requests.{let_through, searchable}
use Rattle.reasons.specs.Explains.{IsNode, Explainable, explained}

-- a node that a search has chosen is one of the machine's
pub is_node_lem : (counts free : List ℕ) (ts : List Try) (c : Option Chosen) → length free ≡ length counts → chosen_by c ≡ chosen free ts
    → IsNode (length counts) c
is_node_lem counts free ts (Some c) e h = (chose counts free ts _ e h).node
is_node_lem counts free ts None e h = tt

-- ---- 14, or the reasons

module _ (counts distances ledger free : List ℕ) (limit : ℕ) (r : Record) (x : ℕ) (out : List ℕ) where
  abbrev choice : Math.Option Try
  choice = chosen free (order (length counts) distances limit (plan limit r x))

  pub no_room : meets_room counts ledger choice ≡ false → wrote (refuse 14) out ≡ explained counts distances ledger free limit r x out
  unfolding explained
  no_room e = rw e

  pub reasons_put : {last : List ℕ} → meets_room counts ledger choice ≡ true
      → last ≡ map (reason_in (length counts) distances free limit r (plan limit r x)) (from 0 (length counts)) ++ drop (length counts) out
      → wrote (accept (length counts)) last ≡ explained counts distances ledger free limit r x out
  unfolding explained
  reasons_put e q = rw (e, q)

-- ---- the call, on tables that are in order

module _ (m : Machine) (t : Tables) (j k : ℕ) where
  -- what the reasons may count on
  pub explainable : {starts : List ℕ} {r : Record} {limit : ℕ} → limit ≡ limit_of t j → accept r ≡ admitted m t j k → Starts m.page_counts starts
      → Explainable m.page_counts starts m.distances t.ledger t.free limit r (node_of_cpu m.cpu_nodes k)
  explainable l e begin =
      let s = searchable m t j k l (let_through m t j k e) begin (no_hints m.page_counts t.ledger) in
      record {
        paged = paged s.0;
        one_each = s.2;
        searchable = s.3;
      }

module _ (m : Machine) (t : Tables) (j k : ℕ) (out : List ℕ) where
  -- the tables break the rules
  pub bad_tables_lem : request_tables_ok m t ≡ false → wrote (refuse 1) out ≡ on_reasons m t j k out
  unfolding on_reasons reasons_decision admitted
  bad_tables_lem e = rw e

  -- a test of the request refuses
  pub not_admitted : {n : ℕ} → refuse n ≡ admitted m t j k → wrote (refuse n) out ≡ on_reasons m t j k out
  unfolding on_reasons reasons_decision
  not_admitted e = rw (sym e)

  -- there is too little room
  pub too_short : {r : Record} → accept r ≡ admitted m t j k → length out < node_count m → wrote (refuse 11) out ≡ on_reasons m t j k out
  unfolding on_reasons reasons_decision
  too_short e l = rw (sym e, lt-leb (node_count m) (length out) l)

  -- there is enough
  pub long_enough : {r : Record} {limit : ℕ} {w : Written} → accept r ≡ admitted m t j k → limit ≡ limit_of t j → node_count m ≤ length out
      → w ≡ explained m.page_counts m.distances t.ledger t.free limit r (node_of_cpu m.cpu_nodes k) out → w ≡ on_reasons m t j k out
  unfolding on_reasons reasons_decision explained reasons_of reason_of order_of
  long_enough e l room h = rw (sym e, le-leb (node_count m) (length out) room) (rw ((let_through m t j k e).1, l) at h)
