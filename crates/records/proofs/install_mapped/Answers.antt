-- `install_mapped` stores a policy, turned into system nodes, in a record.
-- Assumes nothing.
use mathlib.Core.Bool.{true, false, not, ◌&&◌}
use mathlib.Core.List.{[]}
use mathlib.Core.Path.{◌≡◌, sym, ap, ◌∙◌}
use native.Mathlib.Omega.{arith}
use lib.Dec.{leb}
use lib.ListN.{length}
use Rattle.rules.specs.Masks.{is_empty}
use Rattle.rules.specs.Records.{places_per_job, Policy, Record, carries, mode_of, record_at, well_formed}
use Rattle.rules.specs.Maps.{nodes_in, turned, within_map}
use Rattle.rules.specs.Calls.{after_writes, after_stores, after_remaps, applied, policy_known, policy_fits}
use Rattle.rules.proofs.WellFormed.{some_pos}
use Rattle.records.specs.Jobs.{record_of, asked, Asks}
use Rattle.records.proofs.Judged.{good_small, by_numbers, fits_few, fits_turned, small_numbers}
use Rattle.records.proofs.install_mapped.Goals as goal
use Rattle.records.proofs.install_mapped.Goals.{Else-not-well_formed, After-known, Else-not-known, After-is_empty, Else-is_empty, After-within, Else-not-within}
use Rattle.records.proofs.install_mapped.Goals.{After-fits}

-- the record is well formed
well : (c : Else-not-well_formed) → well_formed c.args.nodes (record_at c.args.jobs.now c.args.job) ≡ true
well c = rw (sym c.load-old.ensures) (sym c.well_formed-2.ensures ∙ c.if-not-well_formed.false)

-- the tests of the policy are the law's
known_is : (c : After-known) (p : Policy) → Asks c.args.policy p → policy_known p ≡ c.known.result
known_is c p a = ap policy_known (by_numbers a) ∙ sym (c.known.ensures p.places)

known : (c : Else-not-known) (p : Policy) → Asks c.args.policy p → policy_known p ≡ true
known c p a = known_is (goal.at.Else-not-known c).After-known p a ∙ c.if-not-known.false

empty_is : (c : After-is_empty) → is_empty (record_at c.args.jobs.now c.args.job).allowed ≡ c.is_empty.result
unfolding record_of
empty_is c = ap (λ (r : Record). is_empty r.allowed) (sym c.load-old.ensures) ∙ sym c.is_empty.ensures

some : (c : Else-is_empty) → is_empty (record_at c.args.jobs.now c.args.job).allowed ≡ false
some c = empty_is (goal.at.Else-is_empty c).After-is_empty ∙ c.if-is_empty.false

within_is : (c : After-within) (p : Policy) → Asks c.args.policy p
    → (leb (length p.places) places_per_job && within_map (nodes_in c.args.map.bytes.now) p) ≡ c.within.result
within_is c p a = sym (c.within.ensures.tests p (nodes_in c.args.map.bytes.now) a c.args.map.counted)

within : (c : Else-not-within) (p : Policy) → Asks c.args.policy p
    → (leb (length p.places) places_per_job && within_map (nodes_in c.args.map.bytes.now) p) ≡ true
within c p a = within_is (goal.at.Else-not-within c).After-within p a ∙ c.if-not-within.false

fits_is : (c : After-fits) (p : Policy) → Asks c.args.policy p
    → policy_fits (carries (mode_of p.mode)) c.args.nodes (record_at c.args.jobs.now c.args.job).allowed (turned (nodes_in c.args.map.bytes.now) p)
    ≡ c.fits.result
unfolding record_of
fits_is c p a = let stands = c.turned-turned.ensures.stands p a in
    rw (sym c.load-old.ensures) (fits_turned _ _ _ p stands ∙ sym (c.fits.ensures _ stands.same_len))

pub returns-then-not-well_formed : goal.returns-then-not-well_formed
unfolding applied
returns-then-not-well_formed c t p a = rw (sym c.load-old.ensures, sym c.well_formed-2.ensures ∙ c.if-not-well_formed.true)

pub returns-then-not-known : goal.returns-then-not-known
unfolding applied
returns-then-not-known c t p a = let at = goal.at.returns-then-not-known c in
    rw (well at.Else-not-well_formed, known_is at.After-known p a ∙ c.if-not-known.true)

pub returns-then-is_empty : goal.returns-then-is_empty
unfolding applied record_of
returns-then-is_empty c t p a = let at = goal.at.returns-then-is_empty c in
    rw (well at.Else-not-well_formed, known at.Else-not-known p a, empty_is at.After-is_empty ∙ c.if-is_empty.true)

pub returns-then-not-within : goal.returns-then-not-within
unfolding applied record_of
returns-then-not-within c t p a = let at = goal.at.returns-then-not-within c in
    rw (well at.Else-not-well_formed, known at.Else-not-known p a, some at.Else-is_empty, fits_few, within_is at.After-within p a ∙ c.if-not-within.true)

-- the map of the job is good, and the places are few enough
pub turned-turned-requires : goal.turned-turned-requires
turned-turned-requires c = let few = c.within.ensures.few (c.if-not-within.false) in
    let good = good_small c.args.nodes c.args.map.bytes.now c.requires.1 c.requires.2 in
    (few, omega (arith, good.0, c.args.map.counted), good.1)

pub returns-then-not-fits : goal.returns-then-not-fits
unfolding applied record_of
returns-then-not-fits c t p a = let at = goal.at.returns-then-not-fits c in
    rw (
      well at.Else-not-well_formed,
      known at.Else-not-known p a,
      some at.Else-is_empty,
      fits_few,
      within at.Else-not-within p a,
      fits_is at.After-fits p a ∙ c.if-not-fits.true,
    )

pub installed-requires : goal.installed-requires
installed-requires c = let small = small_numbers (asked c.args.policy []) (sym (c.known.ensures []) ∙ c.if-not-known.false) in
    let few = c.within.ensures.few (c.if-not-within.false) in
    let same = c.turned-turned.ensures.same in (
      some_pos _ (ap not (sym c.is_empty.ensures ∙ c.if-is_empty.false)),
      omega (arith, same.0, small.0),
      omega (arith, same.1, small.1),
      omega (arith, same.2, few),
    )

pub returns : goal.returns
unfolding after_writes after_stores after_remaps applied record_of
returns c t p a = let at = goal.at.returns c in
    rw (
      well at.Else-not-well_formed,
      known at.Else-not-known p a,
      some at.Else-is_empty,
      fits_few,
      within at.Else-not-within p a,
      fits_is at.After-fits p a ∙ c.if-not-fits.false,
      c.store.ensures,
      c.installed.ensures _ (c.turned-turned.ensures.stands p a),
      c.load-old.ensures,
    )
