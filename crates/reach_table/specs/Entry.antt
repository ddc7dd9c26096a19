-- The entry `slow_regions` (document 02, R-8): what it answers, and what it leaves in the slices that it was lent. Its lists and refusals
-- are those of the liveness entry; a square of fewer places than components times components is refused with 2.
-- Assumes nothing: these are definitions.
use Rattle.std.specs.Prelude.{⊤, Result, IfOk, ◌≡◌, Bool, ◌&&◌, ◌↔◌, List, ℕ, ◌+◌, ◌*◌, ◌<◌, length, get_or, ℤ}
use Rattle.lists.specs.declared.Refusal.{Refusal}
use Rattle.lists.specs.Records.{component, component_count}
use Rattle.lists.specs.Slices.{left_of, work_of}
use Rattle.checks.specs.Refusals.{room_for, liveness_lists}
use Rattle.signals.specs.Regions.{region_count, regions_of}
use Rattle.liveness.specs.Sets.{checked}
use Rattle.liveness.specs.Demand.{Chain, RegionsOfScene}
use Rattle.reach_table.specs.Scene.{reach_table, SceneLaws}

-- a place per pair of components, one per component, and one pair of the walk's stack per component
abbrev pub table_room : List ℤ → ℕ → ℕ → ℕ → Bool
table_room cs square regions stack =
    room_for (component_count cs * component_count cs) 1 square
    && (room_for (component_count cs) 1 regions && room_for (component_count cs) 2 stack)

abbrev pub table_refusal : ℕ → List ℤ → List ℤ → List ℤ → ℕ → ℕ → ℕ → Result ⊤ Refusal
table_refusal rules cs ps fs square regions stack = liveness_lists rules cs ps fs (table_room cs square regions stack)

-- by what the checks say: their refusal, or how many regions there are; the table and the quick walk's regions
pub record TabledBy (checks : Result ⊤ Refusal) (cs ps : List ℤ) (square square' regions regions' stack stack' : List ℕ) (r : Result ℕ Refusal) : Type 0 where
  pub answer : checked r ≡ checks
  pub count : IfOk r (λ count. count ≡ region_count cs ps)
  pub square_left : square' ≡ left_of checks (reach_table cs ps) square
  pub regions_left : regions' ≡ left_of checks (regions_of cs ps) regions
  pub stack_left : stack' ≡ work_of checks stack

-- the square as its reader sees it: the place of row v and column w is v * components + w
pub record SquareOfScene (cs ps : List ℤ) (square regions : List ℕ) : Type 0 where
  -- a 1 stands exactly where a chain of connections leads from the row's component to the column's, and else a 0
  pub one : (v w : ℕ) → v < component_count cs → w < component_count cs
      → (get_or square (v * component_count cs + w) 0 ≡ 1) ↔ Chain ps (component cs v).id (component cs w).id
  pub nothing : (v w : ℕ) → v < component_count cs → w < component_count cs
      → (get_or square (v * component_count cs + w) 0 ≡ 0) ↔ (Chain ps (component cs v).id (component cs w).id → ⊥)
  -- two rows are equal exactly if their components have one region number
  pub rows : (v w : ℕ) → v < component_count cs → w < component_count cs
      → ((u : ℕ) → u < component_count cs → get_or square (v * component_count cs + u) 0 ≡ get_or square (w * component_count cs + u) 0)
      ↔ (get_or regions v 0 ≡ get_or regions w 0)

-- from components, port connections, frontiers and three lent slices
pub record Tabled (rules : ℕ) (cs ps fs : List ℤ) (square square' regions regions' stack stack' : List ℕ) (r : Result ℕ Refusal) : Type 0 where
  pub by : TabledBy (table_refusal rules cs ps fs (length square) (length regions) (length stack)) cs ps square square' regions regions' stack stack' r
  -- of the table of an accepted scene: who reaches whom, and equal rows
  pub laws : IfOk r (λ _. SceneLaws cs ps)
  -- the same, on the square that is left
  pub table : IfOk r (λ _. SquareOfScene cs ps square' regions')
  -- and demand 3, on the answer itself
  pub demand : IfOk r (λ count. RegionsOfScene cs ps regions' count)
