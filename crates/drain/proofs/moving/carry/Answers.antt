-- `moving::carry` meets its contract.
-- Assumes nothing.
use Prim.Native.Nat.{ℕ, ◌+◌, ◌-◌}
use mathlib.Core.Path.{sym, ap, ◌∙◌}
use mathlib.Core.List.{List}
use native.Mathlib.Omega.{arith}
use lib.ListN.{length, set, length-set}
use Rattle.drain.proofs.Carried.{old_inside, old_named, never_full, taken, new_named, both_written, both_hinted}
use Rattle.drain.proofs.moving.carry.Goals as goal

pub keep-requires : goal.keep-requires
keep-requires c = new_named c.requires.0 c.in-Some.ensures.answer

pub bounds-pages-page : goal.bounds-pages-page
bounds-pages-page c = let long = length-set c.args.pages.now c.in-Some.new.0 (c.args.byte - 1 + 1) in
    omega (arith, ap length c.in-Some.ensures.table ∙ long, old_inside c.requires.0)

pub keep-requires-in-Some : goal.keep-requires-in-Some
keep-requires-in-Some c = old_named c.requires.0

pub returns-in-Some : goal.returns-in-Some
returns-in-Some c = let marked = c.in-Some.ensures in
    let written = ap (λ (t : List ℕ). set t c.args.page.0 0) marked.table ∙ both_written c.requires.0 marked.answer in record {
      taken = sym (taken c.requires.0 marked.answer);
      table = written;
      counted = c.count_move.ensures;
      kept = both_hinted c.requires.0 marked.answer c.requires.1 c.keep.ensures c.keep-in-Some.ensures written;
    }

-- there is always a page
pub returns-in-None : goal.returns-in-None
returns-in-None c = absurd (never_full c.requires.0 c.in-None.ensures.answer)
