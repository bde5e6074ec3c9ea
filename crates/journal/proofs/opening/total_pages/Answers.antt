-- `total_pages` adds up the counts that are read out of the record.
-- Assumes nothing.
use native.Mathlib.Omega.{arith}
use borrow.Author.Rules.{rules}
use Rattle.journal.proofs.MachineRecord.{head_in, Cut, cut}
use Rattle.journal.proofs.opening.total_pages.Goals as goal

pub byte_at-n-requires : goal.byte_at-n-requires
byte_at-n-requires c = omega (arith, head_in c.args.bytes.now c.requires.1)

pub slice_bounds-all-end : goal.slice_bounds-all-end
slice_bounds-all-end c = let lent : Cut c.args.bytes.now c.byte_at-n.result c.page_counts-all.result = cut c.args.bytes.now c.page_counts-all.result
    c.requires.0 c.byte_at-n.ensures.0 (search rules) c.page_counts-all.ensures in
    lent.inside

pub slice_bounds-total_pages-end : goal.slice_bounds-total_pages-end
slice_bounds-total_pages-end c = let lent : Cut c.args.bytes.now c.byte_at-n.result c.page_counts-all.result = cut c.args.bytes.now
    c.page_counts-all.result c.requires.0 c.byte_at-n.ensures.0 (search rules) c.page_counts-all.ensures in
    lent.long
