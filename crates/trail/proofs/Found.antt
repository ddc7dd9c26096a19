-- The search as a whole, by the graph forward.
-- Assumes nothing.
use Prim.Native.Nat.{ℕ}
use mathlib.Core.Path.{subst}
use mathlib.Core.Bool.{Bool}
use mathlib.Core.List.{List}
use lib.ListN.{length}
use Rattle.regions.specs.Graph.{Edges, flip}
use Rattle.graph.specs.Rows.{edges_of, Rows}
use Rattle.graph.proofs.Rows.{edges_are}
use Rattle.trail.specs.Levels.{Levels}

-- the levels against the edges turned around are those along the edges
pub forward_levels : {n : ℕ} {edge : Edges} {ends back levels : List ℕ} {feeds : ℕ → Bool} → Rows n (flip edge) ends back
    → Levels (length ends) (flip (edges_of ends back)) feeds levels → Levels n edge feeds levels
forward_levels {n} {edge} {ends} {back} {levels} {feeds} r v =
    subst (λ (g : Edges). Levels n (flip g) feeds levels) (edges_are r.rows) (subst (λ (k : ℕ). Levels k (flip (edges_of ends back)) feeds levels) r.rows.nodes v)
