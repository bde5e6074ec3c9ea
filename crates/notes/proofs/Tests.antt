-- What the tests of `note_places` come to, test by test. Assumes nothing.
use mathlib.Core.Path.{◌≡◌}
use mathlib.Core.Bool.{Bool, true, false, cond}
use mathlib.Core.List.{List}
use Prim.Native.Nat.{ℕ}
use lib.Dec.{eqb}
use lib.ListN.{length}
use Rattle.rules.specs.Maps.{map_bytes, nodes_in, good_map}
use Rattle.rules.specs.Decisions.{refuse, wrote, written}
use Rattle.rules.specs.Calls.{is_job, mapped_tables_ok}
use Rattle.rules.specs.Notes.{strings, list_ok, text_part, data_part, note_ok, table_ok, places_in, list_part, places_decision, note_places}
use Rattle.notes.specs.Steps.{note_tests}
use Rattle.notes.proofs.Notes.{good_note}

-- ---- after 15

-- each list of a good note is good
pub note_list : (note : List ℕ) (which : ℕ) → note_ok note ≡ true → list_ok (list_part note which) ≡ true
unfolding list_part
note_list note which e = by (eqb which 0)
  where
    by : (t : Bool) → list_ok (cond t (text_part note) (data_part note)) ≡ true
    by true = (good_note note e).text_good
    by false = (good_note note e).data_good

module _ (names : List (List ℕ)) (nodes note : List ℕ) (which : ℕ) (out : List ℕ) where
  pub bad_note : note_ok note ≡ false → wrote (refuse 16) out ≡ note_tests names nodes note which out
  unfolding note_tests
  bad_note e = rw e

  pub note_turned : note_ok note ≡ true → written out (places_in names nodes (strings (list_part note which))) ≡ note_tests names nodes note which out
  unfolding note_tests
  note_turned e = rw e

-- two numbers that are both 0 or both another turn the same list
pub same_list : (names : List (List ℕ)) (nodes note : List ℕ) (k which : ℕ) (out : List ℕ) → eqb k 0 ≡ eqb which 0
    → note_tests names nodes note k out ≡ note_tests names nodes note which out
unfolding note_tests list_part
same_list names nodes note k which out e = rw e

-- ---- from 1 on

module _ (n : ℕ) (records maps table note : List ℕ) (j which : ℕ) (out : List ℕ) where
  pub bad_tables_lem : mapped_tables_ok n (length records) (length maps) ≡ false → wrote (refuse 1) out ≡ note_places n records maps table note j which out
  unfolding note_places places_decision
  bad_tables_lem e = rw e

  module _ (e : mapped_tables_ok n (length records) (length maps) ≡ true) where
    pub bad_names : table_ok n table ≡ false → wrote (refuse 1) out ≡ note_places n records maps table note j which out
    unfolding note_places places_decision
    bad_names f = rw (e, f)

    module _ (f : table_ok n table ≡ true) where
      pub no_job_lem : is_job records j ≡ false → wrote (refuse 2) out ≡ note_places n records maps table note j which out
      unfolding note_places places_decision
      no_job_lem g = rw (e, f, g)

      module _ (g : is_job records j ≡ true) where
        pub bad_map_lem : good_map n (map_bytes maps j) ≡ false → wrote (refuse 15) out ≡ note_places n records maps table note j which out
        unfolding note_places places_decision
        bad_map_lem h = rw (e, f, g, h)

        pub good_map_lem : good_map n (map_bytes maps j) ≡ true
            → note_tests (strings table) (nodes_in (map_bytes maps j)) note which out ≡ note_places n records maps table note j which out
        unfolding note_places places_decision note_tests
        good_map_lem h = rw (e, f, g, h)
