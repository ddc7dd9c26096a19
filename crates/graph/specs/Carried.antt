-- Marks of regions, carried along the edges between them. No edge leads to a smaller number (crate `regions`, Theorems), so one look at the
-- row of each node, its region's turn come, carries a mark as far as a walk from the marked regions' nodes would go.
-- The theorem is `carry_laws` of proofs/Carrying.antt.
-- Assumes nothing: this is a definition.
use Rattle.std.specs.Prelude.{◌≡◌, Bool, true, List, ◌↔◌, ℕ, ◌<◌}
use Rattle.regions.specs.Graph.{Edges, Reach, at, marked}
use Rattle.regions.specs.Kosaraju.{region_of}

-- a region has a mark at the end exactly if a node of a region that had one reaches its nodes
pub record Carried (n : ℕ) (edge : Edges) (before after : List Bool) : Type 0 where
  pub exactly : (b : ℕ) → b < n
      → (marked after (at (region_of n edge) b) ≡ true) ↔ ((s : ℕ) × (s < n) × (marked before (at (region_of n edge) s) ≡ true) × Reach edge s b)
