-- Document 01, "The machine": what its tables hold, and when they are in order.
use Rattle.std.specs.Prelude.{ℕ, suc, ◌+◌, ◌-◌, ◌*◌, ◌/◌, ◌%◌, Bool, ◌&&◌, cond, List, [], ◌∷◌, length, get_or, take, leb, ltb, eqb}
use Rattle.rules.specs.Basics.{all, from, sum, between, all_at}
use Rattle.rules.specs.Masks.{most_nodes}

-- "The machine": the page counts of its nodes, the CPUs' nodes, and the distances row by row
pub record Machine : Type 0 where
  pub page_counts : List ℕ
  pub cpu_nodes : List ℕ
  pub distances : List ℕ

-- "N nodes": as many as there are page counts
abbrev pub node_count : Machine → ℕ
node_count m = length m.page_counts

-- "N nodes, 1 to 64": a mask has a bit for each
unfoldable pub nodes_ok : ℕ → Bool
nodes_ok n = between 1 most_nodes n

-- "Each has 0 to 65,536 pages, at most 1,048,576 together"
unfoldable pub pages_ok : List ℕ → Bool
pages_ok counts = all (λ c. leb c 65536) counts && leb (sum counts) 1048576

-- "The CPU table has 1 to 256 bytes, each a node below N"
unfoldable pub cpus_ok : ℕ → List ℕ → Bool
cpus_ok n cpus = between 1 256 (length cpus) && all (λ x. ltb x n) cpus

-- "10 on the diagonal, 10 to 255 elsewhere": entry k stands in row k / N, column k % N
unfoldable pub distance_ok : ℕ → ℕ → ℕ → Bool
distance_ok n k d = cond (eqb (k / n) (k % n)) (eqb d 10) (between 10 255 d)

-- "The distance table has exactly N x N bytes, row by row"
unfoldable pub distances_ok : ℕ → List ℕ → Bool
distances_ok n distances = eqb (length distances) (n * n) && all_at (distance_ok n) 0 distances

-- "The page table has at least as many bytes as there are pages": by the table's length
unfoldable pub page_table_ok : List ℕ → ℕ → Bool
page_table_ok counts bytes = leb (sum counts) bytes

-- "The machine": all that a request is lent of it is in order
unfoldable pub machine_ok : Machine → Bool
machine_ok m =
    nodes_ok (node_count m) && pages_ok m.page_counts && cpus_ok (node_count m) m.cpu_nodes && distances_ok (node_count m) m.distances

-- "Pages are numbered through: node 0 first, then node 1": the first page of node n
unfoldable pub first_page : List ℕ → ℕ → ℕ
first_page counts n = sum (take n counts)

-- "Pages are numbered through": the pages of node n, lowest first
unfoldable pub pages_of : List ℕ → ℕ → List ℕ
pages_of counts n = from (first_page counts n) (get_or counts n 0)

-- "Pages are numbered through": the node of page p
unfoldable pub node_of_page : List ℕ → ℕ → ℕ
node_of_page [] p = 0
node_of_page (c ∷ cs) p = cond (ltb p c) 0 (suc (node_of_page cs (p - c)))

-- "The CPU table": the node of CPU k
abbrev pub node_of_cpu : List ℕ → ℕ → ℕ
node_of_cpu cpus k = get_or cpus k 0

-- "The distance table": of n nodes, row x, column k; "255 for unreachable"
unfoldable pub distance : ℕ → List ℕ → ℕ → ℕ → ℕ
distance n distances x k = get_or distances (x * n + k) 255

-- for a proof that computes: `unfolding open_machine` opens every definition of this file
unfoldable pub open_machine : Unit {0}
unfolding nodes_ok pages_ok cpus_ok distance_ok distances_ok page_table_ok machine_ok first_page pages_of node_of_page distance
open_machine = tt
