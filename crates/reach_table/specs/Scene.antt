-- The reach table of a scene (document 02, R-8), in list order.
--     listed                the signal edges between list places
--     reaches               its finished table
--     reach_table           the same as the square's places, row after row
--     SceneLaws             what holds of it
-- Assumes nothing: these are definitions.
use Rattle.std.specs.Prelude.{◌≡◌, true, ◌&&◌, List, [], ◌++◌, ◌↔◌, ℕ, zero, suc, ◌<◌, ltb, ℤ}
use Rattle.lists.specs.First.{tabulate}
use Rattle.lists.specs.Ids.{member_of}
use Rattle.lists.specs.Records.{component, component_count}
use Rattle.regions.specs.Graph.{Edges}
use Rattle.signals.specs.Regions.{region_of_place}
use Rattle.signals.specs.Signals.{signals}
use Rattle.liveness.specs.Demand.{Chain}
use Rattle.reach_table.specs.Table.{bit, filled, is_same_row}

-- a signal connection leads from the component at place a to that at place b
abbrev pub listed : List ℤ → List ℤ → Edges
listed cs ps a b = ltb a (component_count cs) && (ltb b (component_count cs) && signals cs ps (member_of cs a) (member_of cs b))

-- middle components are admitted in list order
abbrev pub reaches : List ℤ → List ℤ → Edges
reaches cs ps = filled (component_count cs) (listed cs ps)

-- the first k rows of n columns
unfoldable pub rows_of : ℕ → Edges → ℕ → List ℕ
rows_of n table zero = []
rows_of n table (suc k) = rows_of n table k ++ tabulate (λ b. bit (table k b)) n

abbrev pub reach_table : List ℤ → List ℤ → List ℕ
reach_table cs ps = rows_of (component_count cs) (reaches cs ps) (component_count cs)

-- ---- what holds of it, of an accepted scene: the theorem is `scene_laws` of proofs/Scenes.antt

pub record SceneLaws (cs ps : List ℤ) : Type 0 where
  -- row v has a 1 in column w exactly if a chain of connections leads from the one component to the other
  pub chains : (v w : ℕ) → v < component_count cs → w < component_count cs
      → (reaches cs ps v w ≡ true) ↔ Chain ps (component cs v).id (component cs w).id
  -- two rows are equal exactly if the components share a region of the quick walk
  pub classes : (v w : ℕ) → v < component_count cs → w < component_count cs
      → (is_same_row (component_count cs) (reaches cs ps) v w ≡ true) ↔ (region_of_place cs ps v ≡ region_of_place cs ps w)
