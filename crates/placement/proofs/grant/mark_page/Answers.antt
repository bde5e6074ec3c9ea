-- `grant::mark_page` meets its contract: what the picker did in the node's part, told of the whole table.
-- Assumes nothing.
use Prim.Native.Nat.{ℕ, ◌+◌, ◌-◌, ◌%◌, ◌≤◌, ◌<◌}
use mathlib.Core.Path.{◌≡◌, refl, sym, ap, subst, ◌∙◌}
use mathlib.Core.Logic.{inl, inr}
use mathlib.Core.Bool.{true}
use mathlib.Core.List.{List}
use native.Mathlib.Omega.{arith}
use borrow.Author.Tests.{eqb-true}
use lib.ListN.{length, get_or, take, drop, length-take, length-drop}
use Rattle.rules.specs.Machine.{first_page}
use Rattle.rules.specs.SearchOrder.{has_colour}
use Rattle.pages.specs.FirstZero.{offset_of, mark}
use Rattle.pages.specs.Colours.{pick_of, HeldBefore}
use Rattle.placement.specs.Grants.{part_colour}
use Rattle.placement.specs.Hints.{all_pages}
use Rattle.placement.proofs.Grants.{node_end, paged, first_is, end_is, inside, Picked, picked, held_before_lem}
use Rattle.placement.proofs.grant.mark_page.Goals as goal
use Rattle.placement.proofs.grant.mark_page.Goals.{After-part_of-part, After-pick}

pub part_of-part-requires : goal.part_of-part-requires
part_of-part-requires c = (omega (arith, c.requires.1, c.requires.0.few), (inside (paged c.requires.0) c.args.node.0 c.requires.1).0)

-- ---- the part that is searched

-- where it starts, and its size
abbrev low : (c : After-part_of-part) → ℕ
low c = c.part_of-part.result.low.0

abbrev size : (c : After-part_of-part) → ℕ
size c = c.part_of-part.result.end.0 - low c

-- where the node's pages start, and where they end
abbrev first : (c : After-part_of-part) → ℕ
first c = first_page c.args.layout.counts.now c.args.node.0

first_at : (c : After-part_of-part) → get_or c.args.layout.starts.now c.args.node.0 0 ≡ first c
first_at c = first_is (paged c.requires.0) c.args.node.0 c.requires.1

end_at : (c : After-part_of-part) → c.part_of-part.result.end.0 ≡ first c + get_or c.args.layout.counts.now c.args.node.0 0
end_at c = c.part_of-part.ensures.end ∙ end_is (paged c.requires.0) c.args.node.0 c.requires.1

-- the part starts in the node's pages and ends with them
after : (c : After-part_of-part) → first c ≤ low c
after c = omega (arith, c.part_of-part.ensures.first, first_at c)

ends : (c : After-part_of-part) → low c + size c ≡ first c + get_or c.args.layout.counts.now c.args.node.0 0
ends c = omega (arith, c.part_of-part.ensures.last, end_at c)

-- it is in the page table
in_table : (c : After-part_of-part) → c.part_of-part.result.end.0 ≤ length c.args.pages.now
in_table c = omega (arith, end_at c, node_end c.args.layout.counts.now c.args.node.0, c.requires.0.fits)

-- the node's pages before it are held
held : (c : After-part_of-part) → (q : ℕ) → first c ≤ q → q < low c → 0 < get_or c.args.pages.now q 1
held c q a b =
    c.requires.2.held c.args.node.0 all_pages q a (omega (arith, b, ends c)) (inl refl)
    (c.part_of-part.ensures.passed q (omega (arith, a, first_at c)) b)

-- and so are those of the job's colour that are passed over in it
coloured : (c : After-part_of-part) → (q : ℕ) → low c ≤ q → q < low c + c.part_of-part.result.ahead
    → has_colour c.args.layout.counts.now c.args.job c.args.node.0 q ≡ true → 0 < get_or c.args.pages.now q 1
unfolding has_colour
coloured c q a b e =
    c.requires.2.held c.args.node.0 (c.args.job % 4) q (omega (arith, a, after c)) (omega (arith, b, ends c, c.part_of-part.ensures.last))
    (inr (sym (eqb-true _ _ e)))
    (c.part_of-part.ensures.skipped q a b)

-- the colour by the node's first page
colour_is : (c : After-part_of-part) → c.part_of-part.result.colour ≡ part_colour c.args.job (first c) (low c)
colour_is c = c.part_of-part.ensures.colour ∙ ap (λ (a : ℕ). part_colour c.args.job a (low c)) (first_at c)

-- ---- the picker

pub pick-requires : goal.pick-requires
pick-requires c = let at = (goal.at.pick-requires c).After-part_of-part in
    let r = c.part_of-part.ensures in
    let part : List ℕ = take (size at) (drop (low at) c.args.pages.now) in
    let long : length part ≡ size at = simp (length-take, length-drop) (omega (arith, in_table at, r.last)) in (
      omega (arith, long, r.last),
      omega (arith, r.colour),
      subst (λ (x : ℕ). HeldBefore x c.part_of-part.result.ahead part) (sym (colour_is at))
          (held_before_lem c.args.layout.counts.now c.args.pages.now c.args.job c.args.node.0 (low at) (size at) c.requires.0.fits (after at) (ends at)
          (held at) c.part_of-part.result.ahead (omega (arith, r.last)) (coloured at)),
    )

-- what it did, told of the node and the whole table
told : (c : After-pick) → let at = (goal.at.After-pick c).After-part_of-part in
    Picked c.args.layout.counts.now c.args.pages.now c.args.job c.args.node.0 (low at) (size at) (offset_of c.pick.result) c.pick.new.part
told c = let at = (goal.at.After-pick c).After-part_of-part in
    let part : List ℕ = take (size at) (drop (low at) c.args.pages.now) in
    picked c.args.layout.counts.now c.args.pages.now c.args.job c.args.node.0 (low at) (size at) c.requires.0.fits (after at) (ends at) (held at) _ _
    (c.pick.ensures.answer ∙ ap (λ (x : ℕ). pick_of x part) (colour_is at))
    (c.pick.ensures.table ∙ ap (λ (x : ℕ). mark part (pick_of x part) (c.args.job + 1)) (colour_is at))

pub after-requires : goal.after-requires
after-requires c = let at = (goal.at.after-requires c).After-part_of-part in
    let within = rw c.in_ok-offset.was at (told (goal.at.after-requires c).After-pick).inside in
    omega (arith, within, ends at, node_end c.args.layout.counts.now c.args.node.0, c.requires.0.pages)

pub returns : goal.returns
returns c = let t = told (goal.at.returns c).After-pick in
    record {
      answer = rw c.after.ensures (rw c.in_ok-offset.was at t.answer);
      table = rw c.after.ensures (rw c.in_ok-offset.was at t.table);
    }

pub returns-in_err-offset : goal.returns-in_err-offset
returns-in_err-offset c = let t = told (goal.at.returns-in_err-offset c).After-pick in
    record {
      answer = rw c.from_residual.ensures (rw c.in_err-offset.was at t.answer);
      table = rw c.from_residual.ensures (rw c.in_err-offset.was at t.table);
    }

pub slice_bounds-pick-end : goal.slice_bounds-pick-end
slice_bounds-pick-end c = in_table (goal.at.slice_bounds-pick-end c).After-part_of-part
