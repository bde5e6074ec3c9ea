-- `store` writes the map of a job.
-- Assumes nothing.
use Prim.Native.Nat.{ℕ, ◌+◌, ◌*◌, ◌≤◌}
use mathlib.Core.Path.{◌≡◌, sym, ap, ◌∙◌}
use mathlib.Core.List.{List, ◌++◌, append_assoc}
use native.Mathlib.Nat.{add-sub_cancel_left}
use native.Mathlib.Omega.{arith}
use borrow.Author.Rules.{rules}
use lib.ListN.{length, take, drop}
use lib.Seq.{sets, sets-eq, drop-drop}
use Rattle.maps.proofs.turning.store.Goals as goal

-- a table with other entries from one place on
put : (table xs : List ℕ) (at k : ℕ) → k ≡ length xs → at + k ≤ length table
    → take at table ++ (xs ++ drop k (drop at table)) ≡ sets table at xs
put table xs at k n h =
    rw drop-drop
    (sym (append_assoc (take at table) xs (drop (at + k) table))
    ∙ ap (λ (m : ℕ). take at table ++ xs ++ drop (at + m) table) n
    ∙ sym (sets-eq xs table at (omega arith)))

pub returns : goal.returns
returns c = rw (add-sub_cancel_left, c.copy_from_slice.ensures.after) (put c.args.maps.now c.args.bytes (64 * c.args.job) 64 (search rules) c.requires)
