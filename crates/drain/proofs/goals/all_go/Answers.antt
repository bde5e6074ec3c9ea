-- `goals::all_go` meets its contract: what the counts decide is what the law says.
-- Assumes nothing.
use Prim.Native.Nat.{ℕ}
use mathlib.Core.Path.{◌≡◌, ap₂, ◌∙◌}
use mathlib.Core.List.{List, []}
use native.Mathlib.Omega.{arith}
use lib.ListN.{length, get_or}
use Rattle.rules.specs.Calls.{Tables, tables_of}
use Rattle.placement.proofs.Grants.{inside, node_end}
use Rattle.drain.specs.Goals.{near_others, passes}
use Rattle.drain.proofs.Reached.{start_reached, free_few}
use Rattle.drain.proofs.Passes.{goes_from, part_of, part_long, part_byte}
use Rattle.drain.proofs.goals.all_go.Goals as goal

pub all_pass-requires : goal.all_pass-requires
all_pass-requires c = let d = c.requires.1 in
    let b = c.args.board in
    let most = free_few (start_reached b.layout.counts.now [] b.x.0 (tables_of c.args.pages.now [] c.args.free.now []) d.matches) d.paged.pages in
    let long = part_long d.paged b.x.0 d.ordered.node in
    let end = node_end b.layout.counts.now b.x.0 in
    rw c.copy_from_slice.ensures.after (c.requires.0, d.ordered, omega (arith, most, long, end, d.paged.pages))

pub returns : goal.returns
returns c distances e = let d = c.requires.1 in
    let b = c.args.board in
    let n = length b.layout.counts.now in
    let tables : Tables = tables_of c.args.pages.now b.targets.jobs.now c.args.free.now b.targets.maps.now in
    let bytes = part_of d.paged b.x.0 d.ordered.node in
    let went = goes_from b.layout.counts.now distances b.x.0 tables d.paged.few d.ordered.node d.paged.fits bytes
    (part_long d.paged b.x.0 d.ordered.node) (part_byte d.paged b.x.0 d.ordered.node) (get_or b.layout.counts.now b.x.0 0) 0 tables [] (omega arith)
    (start_reached b.layout.counts.now distances b.x.0 tables d.matches) in
    let passed : c.all_pass.result ≡ passes n (near_others n distances b.x.0) b.targets.jobs.now b.targets.maps.now b.x.0 c.args.free.now bytes =
    c.all_pass.ensures ∙ ap₂ (λ (o f : List ℕ). passes n o b.targets.jobs.now b.targets.maps.now b.x.0 f bytes) e c.copy_from_slice.ensures.after in
    rw passed went

pub slice_bounds-all_pass-count : goal.slice_bounds-all_pass-count
slice_bounds-all_pass-count c = (inside c.requires.1.paged c.args.board.x.0 c.requires.1.ordered.node).0

pub slice_bounds-all_pass-start : goal.slice_bounds-all_pass-start
slice_bounds-all_pass-start c = (inside c.requires.1.paged c.args.board.x.0 c.requires.1.ordered.node).0

pub slice_bounds-all_pass-end : goal.slice_bounds-all_pass-end
slice_bounds-all_pass-end c = (inside c.requires.1.paged c.args.board.x.0 c.requires.1.ordered.node).1
