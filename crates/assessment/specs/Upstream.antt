-- The table of what is upstream of each region: a row to a region, which is a set of members.
-- Assumes nothing: these are definitions.
use Rattle.std.specs.Prelude.{ℕ, ◌≡◌, ◌<◌, Bool, true, false, ◌&&◌, List, [], ◌↔◌, eqb, ltb, get_or, map}
use Rattle.sets.specs.declared.ComponentSet.{ComponentSet}
use Rattle.sets.specs.Members.{member_of}
use Rattle.regions.specs.Graph.{Edges, Reach, at, marked}
use Rattle.regions.specs.Kosaraju.{region_of}
use Rattle.graph.specs.Carried.{Carried}
use Rattle.graph.specs.inner.Marks.{Handed}

-- what stands for a row past the last
abbrev pub no_row : ComponentSet
no_row = record { words = [] }

-- member k is in the row of region r
abbrev pub in_row : List ComponentSet → ℕ → ℕ → Bool
in_row rows r k = member_of (get_or rows r no_row).words k

-- no row has a member
abbrev pub RowsEmpty : List ComponentSet → Type 0
RowsEmpty rows = (r k : ℕ) → in_row rows r k ≡ false

-- the row of each region has the flagged members of that region
pub record Seeded (n : ℕ) (labels : List ℕ) (flags : List Bool) (rows : List ComponentSet) : Type 0 where
  pub at : (r k : ℕ) → in_row rows r k ≡ ((ltb k n && marked flags k) && eqb (at labels k) r)

-- member k's marks: the regions in whose rows it is
abbrev pub column : ℕ → List ComponentSet → List Bool
column k rows = map (λ row. member_of row.words k) rows

-- each member's mark of region r is handed on to the regions of the first `count` nodes
pub record RowHanded (nodes labels : List ℕ) (count r : ℕ) (old new : List ComponentSet) : Type 0 where
  pub of : (k : ℕ) → Handed nodes labels count r (column k old) (column k new)

-- each member's marks are carried along the edges
pub record RowsCarried (n : ℕ) (edge : Edges) (old new : List ComponentSet) : Type 0 where
  pub of : (k : ℕ) → Carried n edge (column k old) (column k new)

-- the row of a node's region has exactly the flagged nodes that reach the node
pub record UpstreamRows (n : ℕ) (edge : Edges) (flags : List Bool) (rows : List ComponentSet) : Type 0 where
  pub exactly : (b k : ℕ) → b < n
      → (in_row rows (at (region_of n edge) b) k ≡ true) ↔ ((k < n) × (marked flags k ≡ true) × Reach edge k b)
