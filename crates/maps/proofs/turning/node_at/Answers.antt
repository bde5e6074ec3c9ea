-- `node_at` reads an entry of a map.
-- Assumes nothing.
use native.Mathlib.Omega.{arith}
use Rattle.maps.proofs.MapNodes.{nodes_le, node_byte}
use Rattle.maps.proofs.turning.node_at.Goals as goal

pub bounds-bytes-a : goal.bounds-bytes-a
bounds-bytes-a c = omega (arith, c.requires, nodes_le c.args.bytes.now)

pub returns : goal.returns
returns c = node_byte c.args.bytes.now c.args.a.0 c.requires
