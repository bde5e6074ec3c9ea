-- `moving::move_at` meets its contract.
-- Assumes nothing.
use Prim.Native.Nat.{◌+◌, ◌<◌}
use mathlib.Core.Path.{◌≡◌, refl, sym, ap, ◌∙◌}
use native.Mathlib.Omega.{arith}
use lib.ListN.{get_or, set}
use Rattle.rules.proofs.Pages.{PageOf, page_lt}
use Rattle.drain.proofs.Open.{met_moved}
use Rattle.drain.proofs.Moved.{goal_carries}
use Rattle.drain.proofs.moving.move_at.Goals as goal

pub bounds-pages-page : goal.bounds-pages-page
bounds-pages-page c = let page : PageOf c.args.board.layout.counts.now c.args.board.x.0 c.args.page.0 = record
    { start = c.requires.maps_value.2.start; end = c.requires.maps_value.2.end } in
    omega (arith, page_lt page, c.requires.maps_value.1.paged.fits)

pub carry-new-requires : goal.carry-new-requires
carry-new-requires c = let held : 0 < get_or c.args.pages.now c.args.page.0 0 = omega (arith, c.if-byte-eq0.false) in
    let page = c.requires.maps_value.2 in (
      goal_carries c.requires.maps_value.1 c.args.board.targets.jobs.now c.args.board.targets.maps.now c.args.page.0 c.in-Some.node.0
          (get_or c.args.pages.now c.args.page.0 0) c.requires.maps_value.0 page.start page.end held (sym c.in-Some.ensures.goes),
      c.requires.met.1,
    )

-- it is moved, and its pair put
pub returns-in-Some : goal.returns-in-Some
returns-in-Some c = let held : 0 < get_or c.args.pages.now c.args.page.0 0 = omega (arith, c.if-byte-eq0.false) in
    let done = c.carry-new.ensures in record {
      stays = λ e. absurd (omega (arith, e, held));
      moves = λ h k e.
          let f = c.in-Some.ensures.goes ∙ e in
          let same : c.in-Some.node.0 ≡ k = cc in (
            refl,
            rw (← same) done.table,
            rw (← same) done.counted,
            λ r. c.put_pair.ensures r ∙ ap (set (set c.args.out.now c.args.at c.args.page.0) (c.args.at + 1)) (rw (← same) done.taken),
          );
      kept = (rw done.counted (met_moved c.in-Some.node.0 c.requires.maps_value.1.ordered c.in-Some.ensures.kept), done.kept);
    }
