-- The slow region finder, for a host that calls through the C convention (document 02, R-8), by the definitions of `slow_regions`.
--     table_number      its answer as one number
--     TabledByLists     what `dustroute_reach_table` answers and leaves
-- Assumes nothing: these are definitions.
use Rattle.std.specs.Prelude.{⊤, Result, Ok, Err, ℕ, ◌*◌, ◌/◌, ◌%◌, ◌≡◌, List, length, ℤ}
use Rattle.lists.specs.declared.Refusal.{Refusal}
use Rattle.lists.specs.Slices.{left_of, work_of}
use Rattle.checks.specs.Refusals.{packed}
use Rattle.signals.specs.Regions.{region_count, regions_of}
use Rattle.liveness.specs.Demand.{RegionsOfScene}
use Rattle.reach_table.specs.Scene.{reach_table}
use Rattle.reach_table.specs.Entry.{table_refusal, SquareOfScene}

-- a refusal's number, list and item, or 0 in the sixteen lowest bits and then the count of regions
abbrev pub table_number : Result ⊤ Refusal → ℕ → ℕ
table_number (Ok tt) regions = 65536 * regions
table_number (Err refusal) regions = packed (Err refusal)

-- from a rules number, the lists and three lent slices
pub record TabledByLists (rules : ℕ) (cs ps fs : List ℤ) (square square' regions regions' stack stack' : List ℕ) (r : ℕ) : Type 0 where
  pub answer : r ≡ table_number (table_refusal rules cs ps fs (length square) (length regions) (length stack)) (region_count cs ps)
  pub square_left : square' ≡ left_of (table_refusal rules cs ps fs (length square) (length regions) (length stack)) (reach_table cs ps) square
  pub regions_left : regions' ≡ left_of (table_refusal rules cs ps fs (length square) (length regions) (length stack)) (regions_of cs ps) regions
  pub stack_left : stack' ≡ work_of (table_refusal rules cs ps fs (length square) (length regions) (length stack)) stack
  -- who reaches whom, and equal rows, on the square that is left
  pub table : table_refusal rules cs ps fs (length square) (length regions) (length stack) ≡ Ok tt → SquareOfScene cs ps square' regions'
  -- and demand 3, on the numbers that are left and the count answered
  pub demand : table_refusal rules cs ps fs (length square) (length regions) (length stack) ≡ Ok tt → RegionsOfScene cs ps regions' (r / 65536 % 65536)
