-- Masks of ranks, by which the code folds and remaps.
use Rattle.std.specs.Prelude.{ℕ, ◌%◌, ◌&&◌}
use Rattle.rules.specs.Masks.{most_nodes, has, rank, mask_of, image}

-- the bits of a mask, each moved to its number mod w
unfoldable pub wrapped : ℕ → ℕ → ℕ
wrapped w u = image u (λ b. b % w) most_nodes

-- the ranks in a set of the nodes of a mask
unfoldable pub ranks_in : ℕ → ℕ → ℕ
ranks_in set u = image u (rank set) most_nodes

-- the nodes of a set whose ranks are in a mask
unfoldable pub ranked_in : ℕ → ℕ → ℕ
ranked_in set ranks = mask_of most_nodes (λ n. has set n && has ranks (rank set n))
