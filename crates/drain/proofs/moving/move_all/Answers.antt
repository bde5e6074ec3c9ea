-- `moving::move_all` meets its contract.
-- Assumes nothing.
use native.Mathlib.Omega.{arith}
use Rattle.placement.proofs.Grants.{node_end, first_is, end_is}
use Rattle.drain.proofs.Open.{none_met}
use Rattle.drain.proofs.Going.{none_gone, page_inside, all_gone, now_drainable, next_carried, next_gone}
use Rattle.drain.proofs.moving.move_all.Goals as goal

pub loop-page-init : goal.loop-page-init
loop-page-init c = let d = c.requires.maps_value.1 in
    (none_gone d (first_is d.paged c.args.board.x.0 d.ordered.node), none_met _ _ _ _ _, c.requires.maps_value.2)

pub move_at-at-requires : goal.move_at-at-requires
move_at-at-requires c = let d = c.requires.maps_value.1 in
    let by = c.requires.by_index in
    let v = c.loop-page.invariant in
    let inside = page_inside d c.loop-page-test.true in record {
      maps_value = (
        c.requires.maps_value.0,
        now_drainable d v.0 by.0 by.1 by.2 by.3,
        next_carried d v.0 by.0 by.1 by.2 by.3 inside,
        omega (arith, inside, v.0.few, node_end c.args.board.layout.counts.now c.args.board.x.0, d.paged.pages),
      );
      met = (v.1, v.2);
    }

pub loop-page-preserved : goal.loop-page-preserved
loop-page-preserved c = let d = c.requires.maps_value.1 in
    let by = c.requires.by_index in
    let moved = c.move_at-at.ensures in (
      next_gone d c.loop-page.invariant.0 (page_inside d c.loop-page-test.true) moved.stays moved.moves by.0 by.1 by.2 by.3
          c.move_at-at.auto.pages c.move_at-at.auto.free c.move_at-at.auto.out,
      moved.kept.0,
      moved.kept.1,
    )

pub returns : goal.returns
returns c = let d = c.requires.maps_value.1 in
    let v = c.loop-page.invariant in record {
      moved = all_gone d v.0 (omega (arith, v.0.to, end_is d.paged c.args.board.x.0 d.ordered.node, c.loop-page-test.false));
      kept = v.2;
    }
