-- Has a node room? Its part of the page table tells.
-- Assumes nothing.
use Prim.Native.Nat.{ℕ, ◌+◌, ◌-◌, ◌<◌}
use mathlib.Core.Path.{◌≡◌, ap}
use mathlib.Core.Bool.{not}
use mathlib.Core.List.{List}
use native.Mathlib.Omega.{arith}
use lib.ListN.{length, get_or, take, drop}
use Rattle.rules.specs.Basics.{is_nil}
use Rattle.rules.specs.Machine.{first_page, pages_of}
use Rattle.rules.specs.SearchOrder.{free_pages, has_room}
use Rattle.pages.specs.Colours.{free_from}
use Rattle.pages.proofs.Part.{free_part}
use Rattle.placement.specs.Grants.{Paged}
use Rattle.placement.proofs.Grants.{first_is, end_is, inside}

module _ {counts starts ledger : List ℕ} (p : Paged counts starts ledger) (n : ℕ) (l : n < length counts) where
  -- a page of the part is free exactly where the node has room
  pub room_is : not (is_nil (free_from 0 (take (get_or starts (n + 1) 0 - get_or starts n 0) (drop (get_or starts n 0) ledger)))) ≡ has_room counts ledger n
  unfolding has_room free_pages pages_of
  room_is =
      let size : get_or starts (n + 1) 0 - get_or starts n 0 ≡ get_or counts n 0 = let f = first_is p n l in let e = end_is p n l in omega arith in
      rw (size, first_is p n l)
      (ap not (free_part ledger (first_page counts n) (get_or counts n 0) (let e = end_is p n l in let i = (inside p n l).1 in omega arith)))
