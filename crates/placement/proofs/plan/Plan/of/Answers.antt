-- `plan::Plan::of` meets its contract, mode by mode.
-- Assumes nothing.
use Prim.Native.Nat.{◌^◌, ◌<◌}
use mathlib.Core.Path.{◌≡◌, refl, sym, ap, ap₂, ◌∙◌}
use mathlib.Core.List.{List, ◌∷◌}
use native.Mathlib.Nat.{lt_of_le_of_lt}
use native.Mathlib.Numerals.{add-one}
use native.Mathlib.Omega.{arith}
use borrow.Author.Tests.{eqb-true, eqb-false}
use lib.Bits.{and_le_l}
use Rattle.rules.specs.Masks.{most_nodes}
use Rattle.rules.specs.Records.{Record, aMask, row_of, carries, mode_of, cursor_limit, places_of}
use Rattle.rules.specs.SearchOrder.{Try, try, nearest, placed, target, plan_in, plan}
use Rattle.rules.proofs.Target.{no_target}
use Rattle.rules.proofs.WellFormed.{Formed, formed, effective_lt, carries_list}
use Rattle.nodemask.specs.Found.{found_node}
use Rattle.records.specs.declared.job.Mode.{Mode}
use Rattle.records.specs.Jobs.{carried_in, record_with, job_of}
use Rattle.placement.specs.Plans.{leaves, walk_tries, early_tries}
use Rattle.placement.proofs.Plans.{lowest_below, target_below, some_target, default_plan, preferred_plan}
use Rattle.placement.proofs.Plans.{bind_plan, interleave_plan, none_effective, some_user, list_plan, place_at, ring_tries_lem}
use Rattle.placement.proofs.plan.Plan.of.Goals as goal

-- preferred, with no effective node
pub returns-then-is_empty : goal.returns-then-is_empty
unfolding record_with row_of job_of
returns-then-is_empty c = let held : Mode → Record = λ m. record_with (carried_in m) c.args.job.allowed.0 c.args.job.places in
    let known : (m : Mode) → c.args.job.mode ≡ m → Formed c.args.nodes (held m) = λ m e. formed _ _ (rw e at c.requires.formed) in
    let local : (m : Mode) → c.args.job.mode ≡ m → carries (mode_of (held m).mode) ≡ aMask → (held m).user < 2 ^ most_nodes → (held m).effective ≡ 0
    → (nearest c.args.limit.0 c.args.x.0 (held m).turn ≡ plan c.args.limit.0 (job_of c.args.job) c.args.x.0) ×
    ((c.args.limit.0 < 2 ^ c.args.nodes) × (c.args.x.0 < c.args.nodes)) = λ m e mask word z. rw e
    (sym (none_effective _ _ _ _ c.requires.few (known _ e) mask word z), (c.requires.limit_below, c.requires.from_node)) in
    let z = eqb-true _ 0 (sym c.is_empty.ensures ∙ c.if-is_empty.true) in
    let both = local _ c.in-Preferred.is refl (omega arith) z in
    record { as_ruled = both.0; inside = both.1 }

-- bind, with no effective node
pub returns-then-is_empty-2 : goal.returns-then-is_empty-2
unfolding record_with row_of job_of
returns-then-is_empty-2 c = let held : Mode → Record = λ m. record_with (carried_in m) c.args.job.allowed.0 c.args.job.places in
    let known : (m : Mode) → c.args.job.mode ≡ m → Formed c.args.nodes (held m) = λ m e. formed _ _ (rw e at c.requires.formed) in
    let local : (m : Mode) → c.args.job.mode ≡ m → carries (mode_of (held m).mode) ≡ aMask → (held m).user < 2 ^ most_nodes → (held m).effective ≡ 0
    → (nearest c.args.limit.0 c.args.x.0 (held m).turn ≡ plan c.args.limit.0 (job_of c.args.job) c.args.x.0) ×
    ((c.args.limit.0 < 2 ^ c.args.nodes) × (c.args.x.0 < c.args.nodes)) = λ m e mask word z. rw e
    (sym (none_effective _ _ _ _ c.requires.few (known _ e) mask word z), (c.requires.limit_below, c.requires.from_node)) in
    let z = eqb-true _ 0 (sym c.is_empty-in-Bind.ensures ∙ c.if-is_empty-2.true) in
    let both = local _ c.in-Bind.is refl (omega arith) z in
    record { as_ruled = both.0; inside = both.1 }

pub target-requires : goal.target-requires
unfolding record_with row_of cursor_limit job_of
target-requires c = let held : Mode → Record = λ m. record_with (carried_in m) c.args.job.allowed.0 c.args.job.places in
    let known : (m : Mode) → c.args.job.mode ≡ m → Formed c.args.nodes (held m) = λ m e. formed _ _ (rw e at c.requires.formed) in
    omega (arith, (known _ c.in-Interleave.is).cursor_within, c.requires.few)

pub overflow_add-result : goal.overflow_add-result
unfolding record_with job_of
overflow_add-result c = let held : Mode → Record = λ m. record_with (carried_in m) c.args.job.allowed.0 c.args.job.places in
    let known : (m : Mode) → c.args.job.mode ≡ m → Formed c.args.nodes (held m) = λ m e. formed _ _ (rw e at c.requires.formed) in
    let aimed : found_node c.target.result ≡ target c.in-Interleave.effective.0 c.in-Interleave.cursor = c.target.ensures in
    let low = effective_lt c.args.nodes _ c.requires.few (known _ c.in-Interleave.is) in
    omega (arith, target_below c.args.nodes _ _ low (sym aimed ∙ ap found_node c.in-Some.is), c.requires.few)

pub returns-in-Default : goal.returns-in-Default
unfolding job_of record_with
returns-in-Default c = rw c.in-Default.is record {
  as_ruled = sym (default_plan 0 _ _ _ refl);
  inside = (c.requires.limit_below, c.requires.from_node);
}

-- preferred
pub returns-else-is_empty : goal.returns-else-is_empty
unfolding job_of record_with row_of
returns-else-is_empty c = let held : Mode → Record = λ m. record_with (carried_in m) c.args.job.allowed.0 c.args.job.places in
    let known : (m : Mode) → c.args.job.mode ≡ m → Formed c.args.nodes (held m) = λ m e. formed _ _ (rw e at c.requires.formed) in
    let k = known _ c.in-Preferred.is in
    let d = eqb-false _ 0 (sym c.is_empty.ensures ∙ c.if-is_empty.false) in
    let low = effective_lt _ _ c.requires.few k in
    rw (c.in-Preferred.is, c.lowest.ensures) record {
      as_ruled = sym (preferred_plan 0 _ _ _ d refl (some_user _ 0 _ 0 c.requires.few k refl d));
      inside = (c.requires.limit_below, lowest_below _ _ c.requires.few (omega arith) low);
    }

-- bind
pub returns-else-is_empty-2 : goal.returns-else-is_empty-2
unfolding job_of record_with
returns-else-is_empty-2 c = let d = eqb-false _ 0 (sym c.is_empty-in-Bind.ensures ∙ c.if-is_empty-2.false) in
    rw (c.in-Bind.is, c.both.ensures) record {
      as_ruled = sym (bind_plan 0 _ _ _ d refl);
      inside = (lt_of_le_of_lt (and_le_l _ _) c.requires.limit_below, c.requires.from_node);
    }

-- interleave
pub returns-in-Some : goal.returns-in-Some
unfolding job_of record_with
returns-in-Some c = let held : Mode → Record = λ m. record_with (carried_in m) c.args.job.allowed.0 c.args.job.places in
    let known : (m : Mode) → c.args.job.mode ≡ m → Formed c.args.nodes (held m) = λ m e. formed _ _ (rw e at c.requires.formed) in
    let aimed : found_node c.target.result ≡ target c.in-Interleave.effective.0 c.in-Interleave.cursor = c.target.ensures in
    let aim = sym aimed ∙ ap found_node c.in-Some.is in
    let low = effective_lt _ _ c.requires.few (known _ c.in-Interleave.is) in
    rw (c.in-Interleave.is, add-one) record {
      as_ruled = sym (interleave_plan 0 _ _ _ (some_target _ _ aim) refl aim);
      inside = (c.requires.limit_below, target_below _ _ _ low aim);
    }

-- interleave, with no effective node
pub returns-in-None : goal.returns-in-None
unfolding record_with row_of cursor_limit job_of
returns-in-None c = let held : Mode → Record = λ m. record_with (carried_in m) c.args.job.allowed.0 c.args.job.places in
    let known : (m : Mode) → c.args.job.mode ≡ m → Formed c.args.nodes (held m) = λ m e. formed _ _ (rw e at c.requires.formed) in
    let local : (m : Mode) → c.args.job.mode ≡ m → carries (mode_of (held m).mode) ≡ aMask → (held m).user < 2 ^ most_nodes → (held m).effective ≡ 0
    → (nearest c.args.limit.0 c.args.x.0 (held m).turn ≡ plan c.args.limit.0 (job_of c.args.job) c.args.x.0) ×
    ((c.args.limit.0 < 2 ^ c.args.nodes) × (c.args.x.0 < c.args.nodes)) = λ m e mask word z. rw e
    (sym (none_effective _ _ _ _ c.requires.few (known _ e) mask word z), (c.requires.limit_below, c.requires.from_node)) in
    let aimed : found_node c.target.result ≡ target c.in-Interleave.effective.0 c.in-Interleave.cursor = c.target.ensures in
    let aim = sym aimed ∙ ap found_node c.in-None.is in
    let z = no_target c.args.nodes _ _ c.requires.few (effective_lt _ _ c.requires.few (known _ c.in-Interleave.is))
    (known _ c.in-Interleave.is).cursor_within aim in
    let both = local _ c.in-Interleave.is refl (omega arith) z in
    record { as_ruled = both.0; inside = both.1 }

-- list
pub of_list-requires : goal.of_list-requires
unfolding record_with row_of job_of
of_list-requires c = let held : Mode → Record = λ m. record_with (carried_in m) c.args.job.allowed.0 c.args.job.places in
    let known : (m : Mode) → c.args.job.mode ≡ m → Formed c.args.nodes (held m) = λ m e. formed _ _ (rw e at c.requires.formed) in
    (carries_list c.args.nodes _ (known _ c.in-List.is).data_fits_lem).4

pub returns-in-List : goal.returns-in-List
unfolding job_of record_with row_of plan_in places_of
returns-in-List c = let held : Mode → Record = λ m. record_with (carried_in m) c.args.job.allowed.0 c.args.job.places in
    let known : (m : Mode) → c.args.job.mode ≡ m → Formed c.args.nodes (held m) = λ m e. formed _ _ (rw e at c.requires.formed) in
    rw c.in-List.is record {
      as_ruled = c.of_list.ensures.as_ruled ∙ sym (list_plan _ _ _ _ (known _ c.in-List.is) refl);
      inside = c.of_list.ensures.inside _ c.requires.from_node;
    }

-- ring
pub returns-in-Ring : goal.returns-in-Ring
unfolding job_of record_with walk_tries early_tries row_of plan_in cursor_limit
returns-in-Ring c = let held : Mode → Record = λ m. record_with (carried_in m) c.args.job.allowed.0 c.args.job.places in
    let known : (m : Mode) → c.args.job.mode ≡ m → Formed c.args.nodes (held m) = λ m e. formed _ _ (rw e at c.requires.formed) in
    let k = known _ c.in-Ring.is in
    let l = carries_list c.args.nodes _ k.data_fits_lem in
    rw (c.with.ensures, c.in-Ring.is) record {
      as_ruled = sym (list_plan _ _ _ _ k refl ∙ ap placed (ring_tries_lem _ _));
      inside = (l.4, k.cursor_within);
    }

-- early
pub returns-in-Early : goal.returns-in-Early
unfolding job_of record_with walk_tries early_tries leaves row_of plan_in cursor_limit
returns-in-Early c = let held : Mode → Record = λ m. record_with (carried_in m) c.args.job.allowed.0 c.args.job.places in
    let known : (m : Mode) → c.args.job.mode ≡ m → Formed c.args.nodes (held m) = λ m e. formed _ _ (rw e at c.requires.formed) in
    let k = known _ c.in-Early.is in
    let l = carries_list c.args.nodes _ k.data_fits_lem in
    let tries = ap₂ (λ (t : Try) (ts : List Try). t ∷ ts) (ap (try _) (place_at _ 0 l.3)) (ring_tries_lem _ _) in
    rw (c.with-in-Early.ensures, c.in-Early.is) record {
      as_ruled = sym (list_plan _ _ _ _ k refl ∙ ap placed tries);
      inside = (l.4, k.cursor_within);
    }
