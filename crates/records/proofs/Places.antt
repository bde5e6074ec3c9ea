-- The places of a policy that is asked for: the first sixteen are at hand, and zeros past their end.
-- Assumes nothing.
use Prim.Native.Nat.{ℕ, ◌-◌, ◌≤◌, ◌<◌}
use mathlib.Core.Path.{◌≡◌, refl, sym, ap₂, ◌∙◌}
use mathlib.Core.Bool.{true, false, ◌&&◌, ◌||◌, cond}
use mathlib.Core.List.{List, ◌++◌, map}
use native.Mathlib.Omega.{arith}
use borrow.Author.Tests.{le-leb, lt-leb}
use lib.Dec.{leb, ltb, eqb}
use lib.ListN.{length, take, replicate, length-map}
use lib.Seq.{take-take, take-append_seam}
use Rattle.rules.specs.Basics.{all}
use Rattle.rules.specs.Masks.{below}
use Rattle.rules.specs.Records.{places_per_job, Policy, closes}
use Rattle.rules.specs.Maps.{system_node, system_mask, turned, named_places, within_map}
use Rattle.rules.proofs.Closing.{closing_rest}
use Rattle.rules.proofs.Lists.{both_true}
use Rattle.records.specs.Jobs.{Numbers}

module _ {mode flag user len : ℕ} {places : List ℕ} {p : Policy} (a : Numbers mode flag user len places p) where
  -- at most sixteen places are all at hand
  pub all_places : len ≤ places_per_job → take len places ≡ p.places
  all_places few =
      let h : length p.places ≤ places_per_job = rw a.same_len few in
      rw (sym a.same_len, sym a.same_places)
      (take-take (length p.places) places_per_job (p.places ++ replicate places_per_job 0) h ∙ take-append_seam p.places (replicate places_per_job 0))

  -- the last place closes a mode 4 list: the others name nodes
  pub naming_others : len ≤ places_per_job → (eqb mode 4 && closes (take len places)) ≡ true → take (len - 1) places ≡ named_places p
  unfolding named_places
  naming_others few h =
      let b : (eqb p.mode 4 && closes p.places) ≡ true = rw (a.same_mode, sym (all_places few)) h in
      let rest = (closing_rest p.places (both_true {a = eqb p.mode 4} b).1).1 in
      sym (take-take (len - 1) len places (omega arith))
      ∙ ap₂ (λ (k : ℕ) (ps : List ℕ). take (k - 1) ps) (sym a.same_len) (all_places few)
      ∙ rest ∙ sym (rw b refl)

  -- it does not: all name nodes
  pub naming_all : len ≤ places_per_job → (eqb mode 4 && closes (take len places)) ≡ false → take len places ≡ named_places p
  unfolding named_places
  naming_all few h =
      let b : (eqb p.mode 4 && closes p.places) ≡ false = rw (a.same_mode, sym (all_places few)) h in
      all_places few ∙ sym (rw b refl)

  -- every number that is asked for has an entry in a map, as the code tests it
  pub within_asked : (nodes : List ℕ) (entries : ℕ) (naming : List ℕ) → len ≤ places_per_job → entries ≡ length nodes → naming ≡ named_places p
      → ((eqb flag 2 || below entries user) && all (λ k. ltb k entries) naming) ≡ (leb (length p.places) places_per_job && within_map nodes p)
  unfolding within_map
  within_asked nodes entries naming few e n =
      rw (e, n, sym a.same_flag, sym a.same_user, le-leb (length p.places) places_per_job (rw a.same_len few))

  -- more than sixteen places are refused
  pub too_many : (nodes : List ℕ) → places_per_job < len → false ≡ (leb (length p.places) places_per_job && within_map nodes p)
  too_many nodes l = rw (lt-leb (length p.places) places_per_job (rw a.same_len l))

  -- the policy in system nodes, by its numbers
  pub turned_stands : (nodes : List ℕ) (mask : ℕ) (out : List ℕ) → len ≤ places_per_job → mask ≡ cond (eqb flag 2) user (system_mask nodes user)
      → out ≡ take places_per_job (map (system_node nodes) (take len places) ++ replicate places_per_job 0)
      → Numbers mode flag mask len out (turned nodes p)
  unfolding turned
  turned_stands nodes mask out few m o = record {
    same_mode = a.same_mode;
    same_flag = a.same_flag;
    same_user = rw (a.same_flag, a.same_user) (sym m);
    same_len = length-map p.places (system_node nodes) ∙ a.same_len;
    same_places = rw (sym (all_places few)) (sym o);
  }
