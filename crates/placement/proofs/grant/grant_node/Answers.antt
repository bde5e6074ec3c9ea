-- `grant::grant_node` meets its contract: the page is marked, the count taken down and the turn stored; or there is no page.
-- Assumes nothing.
use Prim.Native.Nat.{ℕ}
use mathlib.Core.Path.{◌≡◌}
use mathlib.Core.List.{List, []}
use Rattle.std.proofs.lemmas.Result.{err_from_is_err_and}
use Rattle.rules.specs.Calls.{Tables, tables_of}
use Rattle.rules.specs.SearchOrder.{Try, try}
use Rattle.rules.specs.declared.Refusal.TheVariants.{WrongCount}
use Rattle.records.specs.Jobs.{turn_of}
use Rattle.placement.proofs.Grants.{grants_page, page_in_node, grants_none}
use Rattle.placement.proofs.grant.grant_node.Goals as goal

-- the node has a free page
pub returns : goal.returns
returns c = let tables : List ℕ → Tables = λ maps. tables_of c.args.pages.now c.args.jobs.now c.args.free.now maps in
    let chosen : Try = try (turn_of c.args.cursor) c.args.node.0 in
    let found = rw c.in_ok-page.ensures.ok_part at c.mark_page-marked.ensures.answer in record {
      did = λ maps. rw (c.mark_page-marked.ensures.table, c.in_ok-page.ensures.ok_part, c.store_cursor.ensures)
          (grants_page _ (tables maps) c.args.job chosen found);
      found = page_in_node _ (tables []) c.args.job chosen found;
    }

-- it has none
pub returns-in_err-page : goal.returns-in_err-page
returns-in_err-page c = let tables : List ℕ → Tables = λ maps. tables_of c.args.pages.now c.args.jobs.now c.args.free.now maps in
    let chosen : Try = try (turn_of c.args.cursor) c.args.node.0 in
    let none = c.in_err-page.ensures.ok_part in
    let told = rw none at c.in_err-page.ensures.value in
    let why : c.in_err-page.field-0.0 ≡ WrongCount = cc in
    let exit = err_from_is_err_and c.from_residual.result c.from_residual.ensures.1 in
    rw (exit.1, exit.2, why) (record {
      did = λ maps. rw (c.mark_page-marked.ensures.table, none)
          (grants_none _ (tables maps) c.args.job chosen (rw none at c.mark_page-marked.ensures.answer));
      found = tt;
    })
