-- The rows of a graph with as many labels as nodes.
--     row_indices      the neighbours in a row are nodes
--     row_edge         and those to which an edge leads
-- Assumes nothing.
use mathlib.Core.Path.{◌≡◌}
use mathlib.Core.List.{List}
use Prim.Native.Nat.{ℕ, ◌<◌}
use native.Mathlib.Omega.{arith}
use lib.ListN.{length}
use Rattle.regions.specs.Graph.{Edges}
use Rattle.graph.specs.Rows.{row_of, Rows}
use Rattle.graph.proofs.Rows.{row_low}
use Rattle.signals.specs.Flags.{Indices}

pub row_indices : {n m : ℕ} {edge : Edges} {ends next : List ℕ} → Rows n edge ends next → n ≡ m → {x : ℕ} → x < n
    → Indices (length (row_of ends next x)) m (row_of ends next x)
row_indices rows e {x} lt = record { long = omega arith; below = λ p h. omega (arith, row_low rows x lt p h, e) }
