-- The square as the stages leave it, row after row: the place of row a and column b is a * n + b.
-- Assumes nothing: these are definitions.
use Rattle.std.specs.Prelude.{◌≡◌, Bool, ◌&&◌, ◌||◌, List, ℕ, suc, ◌+◌, ◌*◌, ◌≤◌, ◌<◌, eqb, length, get_or, bit_or, ℤ}
use Rattle.lists.specs.Limits.{component_limit}
use Rattle.lists.specs.Ids.{member_of}
use Rattle.lists.specs.Records.{component_count}
use Rattle.regions.specs.Graph.{Edges, at}
use Rattle.regions.specs.Kosaraju.{order}
use Rattle.regions.specs.Search.{Zeros, labels_of}
use Rattle.signals.specs.Regions.{region_count, regions_of}
use Rattle.reach_table.specs.Table.{bit, is_same_row}
use Rattle.reach_table.specs.Numbers.{number_class, numbers}
use Rattle.reach_table.specs.Scene.{reach_table}

-- the square holds the table
pub record Holds (n : ℕ) (table : Edges) (square : List ℕ) : Type 0 where
  pub long : length square ≡ n * n
  pub at : (a b : ℕ) → a < n → b < n → get_or square (a * n + b) 0 ≡ bit (table a b)

-- what a function makes of each table that the square holds
pub record Makes (n : ℕ) (f : Edges → Edges) (square₀ square : List ℕ) : Type 0 where
  pub table : (t : Edges) → Holds n t square₀ → Holds n (f t) square

-- a square of n rows, within the limit
pub record Side (n : ℕ) (square : List ℕ) : Type 0 where
  pub few : n ≤ component_limit
  pub long : length square ≡ n * n

-- row a gets a 1 in each column where row m has one
abbrev pub join_row : ℕ → ℕ → Edges → Edges
join_row a m t x y = t x y || (eqb x a && t m y)

-- one row gets the 1s of another
pub record Joined (middle row₀ row : List ℕ) : Type 0 where
  pub at : (c : ℕ) → c < length row₀ → get_or row c 0 ≡ bit_or (get_or row₀ c 0) (get_or middle c 0)

-- r is whether two rows are equal
pub record Compared (n : ℕ) (square : List ℕ) (a b : ℕ) (r : Bool) : Type 0 where
  pub same : (t : Edges) → Holds n t square → r ≡ is_same_row n t a b

-- ---- numbers

-- the class of row a got a number
pub record ClassNumbered (n : ℕ) (square : List ℕ) (a count : ℕ) (numbered₀ : List Bool) (regions₀ : List ℕ) (numbered : List Bool) (regions : List ℕ) : Type 0 where
  pub is : (t : Edges) → Holds n t square
      → labels_of numbered regions (suc count) ≡ number_class n (is_same_row n t) a (labels_of numbered₀ regions₀ count)

-- the list places of n nodes, one after the other
pub record PlacesIn (n : ℕ) (order : List ℕ) : Type 0 where
  pub long : length order ≡ n
  pub below : (k : ℕ) → k < n → get_or order k 0 < n

-- all classes got their numbers, by an order of the rows
pub record AllNumbered (n : ℕ) (square order : List ℕ) (numbered : List Bool) (regions : List ℕ) (count : ℕ) : Type 0 where
  pub is : (t : Edges) → Holds n t square → labels_of numbered regions count ≡ numbers n (is_same_row n t) order

-- room for that order, and for the walk
pub record FinishRoom (cs : List ℤ) (ends places stack : List ℕ) : Type 0 where
  pub nodes : length ends ≡ component_count cs
  pub places_room : length places ≡ component_count cs
  pub stack_room : 2 * component_count cs ≤ length stack
  pub stack_zeros : Zeros stack

-- the list places of the nodes, in the order in which the quick walk finishes them; the stack is zero again
pub record Finished (cs : List ℤ) (edge : Edges) (places stack : List ℕ) : Type 0 where
  pub places_in : PlacesIn (component_count cs) places
  pub nodes : (k : ℕ) → k < component_count cs → member_of cs (get_or places k 0) ≡ at (order (component_count cs) edge) k
  pub stack_zeros : Zeros stack

-- ---- a plot's table

-- room in the slices that are lent
pub record LentRoom (cs : List ℤ) (square regions stack : List ℕ) : Type 0 where
  pub square_room : length square ≡ component_count cs * component_count cs
  pub regions_room : length regions ≡ component_count cs
  pub stack_room : 2 * component_count cs ≤ length stack

-- the finished table, the quick walk's regions and their count, and a stack of zeros
pub record Tables (cs ps : List ℤ) (square regions stack : List ℕ) (r : ℕ) : Type 0 where
  pub square_is : square ≡ reach_table cs ps
  pub regions_are : regions ≡ regions_of cs ps
  pub count_is : r ≡ region_count cs ps
  pub stack_zeros : Zeros stack
