-- Request M-103, "Jobs that number from 0": the map of a job, and what it makes of the numbers that the job uses.
use Rattle.std.specs.Prelude.{
  ℕ,
  suc,
  ◌-◌,
  ◌*◌,
  Bool,
  true,
  not,
  ◌&&◌,
  ◌||◌,
  cond,
  List,
  [],
  ◌∷◌,
  ◌++◌,
  map,
  length,
  get_or,
  take,
  drop,
  replicate,
  leb,
  ltb,
  eqb,
}
use Rattle.std.proofs.lemmas.List.Edits.{sets}
use Rattle.rules.specs.Basics.{all, any, but_last, is_nil, each, from, between}
use Rattle.rules.specs.Masks.{most_nodes, below, mask_of, image}
use Rattle.rules.specs.Records.{Policy, policy, closes, job_count}

-- "64 bytes a job"
abbrev pub map_size : ℕ
map_size = 64

-- "then FF to the end": no node
abbrev pub no_node : ℕ
no_node = 255

-- "in a further lent table of 64 bytes a job, else 1": by the lengths of the job table and of the map table
unfoldable pub map_table_ok : ℕ → ℕ → Bool
map_table_ok words bytes = eqb bytes (map_size * job_count words)

-- "per job": the bytes of job j
unfoldable pub map_bytes : List ℕ → ℕ → List ℕ
map_bytes maps j = take map_size (drop (map_size * j) maps)

-- "entry a being application node a, then FF to the end": the nodes of a map's bytes, those before the first FF
unfoldable pub nodes_in : List ℕ → List ℕ
nodes_in [] = []
nodes_in (b ∷ bs) = cond (eqb b no_node) [] (b ∷ nodes_in bs)

-- "then FF to the end": the bytes of a map of some nodes
unfoldable pub bytes_for : List ℕ → List ℕ
bytes_for nodes = nodes ++ replicate (map_size - length nodes) no_node

-- "per job": the map table with other nodes for job j
unfoldable pub put_map : List ℕ → ℕ → List ℕ → List ℕ
put_map maps j nodes = sets maps (map_size * j) (bytes_for nodes)

-- the node is one of a list
abbrev pub is_in : List ℕ → ℕ → Bool
is_in nodes k = any (eqb k) nodes

-- "different": no node comes twice
unfoldable pub different : List ℕ → Bool
different [] = true
different (k ∷ ks) = not (is_in ks k) && different ks

-- "a list of 1 to 64 different system nodes"
unfoldable pub good_nodes : ℕ → List ℕ → Bool
good_nodes n nodes = between 1 map_size (length nodes) && all (λ k. ltb k n) nodes && different nodes

-- "An empty map, or one with a repeated or unknown node or a node after an FF, is refused 15": any other is good
unfoldable pub good_map : ℕ → List ℕ → Bool
good_map n bytes = good_nodes n (nodes_in bytes) && all (eqb no_node) (drop (length (nodes_in bytes)) bytes)

-- "the map is a second limit": the set of its nodes
unfoldable pub set_of : List ℕ → ℕ
set_of nodes = mask_of most_nodes (is_in nodes)

-- "entry a being application node a": its system node
abbrev pub system_node : List ℕ → ℕ → ℕ
system_node nodes a = get_or nodes a no_node

-- "answers back": the application number of a system node, the entry that it stands in, from number a on; "outside the map .. node FF"
unfoldable pub entry_from : ℕ → List ℕ → ℕ → ℕ
entry_from a [] k = no_node
entry_from a (x ∷ xs) k = cond (eqb x k) a (entry_from (suc a) xs k)

abbrev pub application_node : List ℕ → ℕ → ℕ
application_node nodes k = entry_from 0 nodes k

-- "User masks .. are turned into system nodes": bit a gives the bit of entry a
unfoldable pub system_mask : List ℕ → ℕ → ℕ
system_mask nodes user = image user (system_node nodes) (length nodes)

-- "User masks and places are turned into system nodes at install ..; a relative mask doesn't, being ranks already". M-104's closing 255,
-- past every map's end, stays 255.
unfoldable pub turned : List ℕ → Policy → Policy
turned nodes p =
    policy p.mode p.flag (cond (eqb p.flag 2) p.user (system_mask nodes p.user)) (map (system_node nodes) p.places)

-- the places of a policy that name application nodes; M-104: "a 255 in the last place of a mode 4 list stands, unmapped," for no node
unfoldable pub named_places : Policy → List ℕ
named_places p = cond (eqb p.mode 4 && closes p.places) (but_last p.places) p.places

-- "an application number past the map's end is 6": those that a policy names, in a mask that is turned or as places
unfoldable pub within_map : List ℕ → Policy → Bool
within_map nodes p = (eqb p.flag 2 || below (length nodes) p.user) && all (λ a. ltb a (length nodes)) (named_places p)

-- "rising": each above the one before, the first at least `least`
unfoldable pub rising : ℕ → List ℕ → Bool
rising least [] = true
rising least (a ∷ rest) = leb least a && rising (suc a) rest

-- "it lists the application nodes it keeps of a good map, one or more, rising, else 15"
unfoldable pub keeps_of : List ℕ → List ℕ → Bool
keeps_of nodes kept = not (is_nil kept) && rising 0 kept && all (λ a. ltb a (length nodes)) kept

-- "may only drop nodes": the first list is the second without some of its entries, the others in their order
pub data Sublist : List ℕ → List ℕ → Type 0 where
  none : Sublist [] []
  with : (x : ℕ) (xs ys : List ℕ) → Sublist xs ys → Sublist (x ∷ xs) (x ∷ ys)
  without : (y : ℕ) (xs ys : List ℕ) → Sublist xs ys → Sublist xs (y ∷ ys)

-- "map 0 to N-1": the map table of so many jobs that have it
unfoldable pub identity_maps : ℕ → ℕ → List ℕ
identity_maps n jobs = each (λ j. bytes_for (from 0 n)) (from 0 jobs)

-- for a proof that computes: `unfolding open_maps` opens every definition of this file
unfoldable pub open_maps : Unit {0}
unfolding map_table_ok map_bytes nodes_in bytes_for put_map different good_nodes good_map set_of entry_from system_mask turned named_places within_map rising
    keeps_of identity_maps
open_maps = tt
