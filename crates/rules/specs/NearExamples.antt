-- Request M-102 by examples: near(x) put into bytes that are all 7, how many nodes it lists and in how many rounds.
use Rattle.std.specs.Prelude.{ℕ, ◌-◌, ◌^◌, Bool, ◌&&◌, List, [], ◌∷◌, T, replicate}
use Rattle.rules.specs.Basics.{open_basics, all, from, same}
use Rattle.rules.specs.Machine.{open_machine}
use Rattle.rules.specs.Masks.{open_masks}
use Rattle.rules.specs.SearchOrder.{open_search_order}
use Rattle.rules.specs.Near.{open_near, on_near}
use Rattle.rules.specs.Answers.{order_numbers}
use Rattle.rules.specs.Examples.{machine_a}

-- near(x) over this set, with N and these distances, into so many bytes: refusal, nodes and rounds, and the bytes afterwards
pub record Example : Type 0 where
  pub nodes : ℕ
  pub distances : List ℕ
  pub set : ℕ
  pub x : ℕ
  pub room : ℕ
  pub wanted : List ℕ
  pub output : List ℕ

abbrev example : ℕ → List ℕ → ℕ → ℕ → ℕ → List ℕ → List ℕ → Example
example nodes distances set x room wanted output =
    record { nodes = nodes; distances = distances; set = set; x = x; room = room; wanted = wanted; output = output }

-- a refused question leaves the bytes
abbrev refused_near : ℕ → List ℕ → ℕ → ℕ → ℕ → ℕ → Example
refused_near nodes distances set x room number = example nodes distances set x room (number ∷ 0 ∷ 0 ∷ []) (replicate room 7)

abbrev pub right : Example → Bool
right e =
    let done = on_near e.nodes e.distances e.set e.x (replicate e.room 7) in
    same (order_numbers done.answer) e.wanted && same done.output e.output

-- three nodes: from node 0, node 1 is unreachable and node 2 as far as a node can be reached; node 2 is cut off
abbrev three : List ℕ
three = 10 ∷ 255 ∷ 254 ∷ 20 ∷ 10 ∷ 20 ∷ 255 ∷ 255 ∷ 10 ∷ []

abbrev pub table : List Example
table =
    -- 01: "order 2,0,3,1"; 4 rounds for the nodes, 3 for those listed after x
    example 4 machine_a.distances 15 2 6 (0 ∷ 4 ∷ 7 ∷ []) (2 ∷ 0 ∷ 3 ∷ 1 ∷ 7 ∷ 7 ∷ [])
    -- x not in the set
    ∷ example 4 machine_a.distances 10 0 2 (0 ∷ 2 ∷ 6 ∷ []) (1 ∷ 3 ∷ [])
    -- distance 254 is listed, 255 is not
    ∷ example 3 three 7 0 3 (0 ∷ 2 ∷ 4 ∷ []) (0 ∷ 2 ∷ 7 ∷ [])
    -- lower number first when equal
    ∷ example 3 three 5 1 3 (0 ∷ 2 ∷ 5 ∷ []) (0 ∷ 2 ∷ 7 ∷ [])
    ∷ example 3 three 7 2 1 (0 ∷ 1 ∷ 3 ∷ []) (2 ∷ [])
    ∷ example 3 three 0 1 0 (0 ∷ 0 ∷ 3 ∷ []) []
    -- "at most 1,000 rounds in all for any N and row": the most there are
    ∷ example 64 (replicate 4096 10) (2 ^ 64 - 1) 63 64 (0 ∷ 64 ∷ 127 ∷ []) (63 ∷ from 0 63)
    -- 1: N, the number of distances, the diagonal, a distance below 10; before 6
    ∷ refused_near 0 [] 1 0 2 1
    ∷ refused_near 65 (replicate 4225 10) 1 0 2 1
    ∷ refused_near 2 (10 ∷ 20 ∷ 20 ∷ []) 7 2 2 1
    ∷ refused_near 2 (10 ∷ 20 ∷ 20 ∷ 11 ∷ []) 7 2 2 1
    ∷ refused_near 2 (10 ∷ 9 ∷ 20 ∷ 10 ∷ []) 7 2 2 1
    -- 6: a node of the set, or x, at N or above; before 11
    ∷ refused_near 3 three 8 0 0 6
    ∷ refused_near 3 three 7 3 0 6
    -- 11: one byte too few
    ∷ refused_near 3 three 7 0 1 11
    ∷ []

pub all_right : T (all right table)
unfolding open_basics open_machine open_masks open_search_order open_near
all_right = tt
