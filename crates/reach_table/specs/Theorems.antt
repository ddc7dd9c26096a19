-- What is proved of the definitions of `Table` and `Numbers`, for every graph whose edges are between the nodes below n. The theorem is
-- `table_laws` of proofs/Theorems.antt.
-- Assumes nothing: these are statements.
use Rattle.std.specs.Prelude.{◌≡◌, true, List, ◌↔◌, ℕ, ◌<◌}
use Rattle.tables.specs.Order.{member}
use Rattle.regions.specs.Graph.{Edges, at, Reach, Both}
use Rattle.regions.specs.Kosaraju.{order, labels, region_of}
use Rattle.reach_table.specs.Table.{through, middles_below, filled, is_same_row}
use Rattle.reach_table.specs.Numbers.{numbers}

-- a chain of edges from a to c whose inner nodes are below k
pub data Over (edge : Edges) (k : ℕ) : ℕ → ℕ → Type 0 where
  stay : {a : ℕ} → Over edge k a a
  last : {a b : ℕ} → edge a b ≡ true → Over edge k a b
  over : {a b c : ℕ} → edge a b ≡ true → b < k → Over edge k b c → Over edge k a c

pub record TableLaws (n : ℕ) (edge : Edges) : Type 0 where
  -- after k middles a 1 stands exactly where the row reaches the column over nodes below k
  pub after : (k a b : ℕ) → (middles_below k edge a b ≡ true) ↔ Over edge k a b
  -- the finished table has a 1 exactly where the row reaches the column
  pub reaches : (a b : ℕ) → (filled n edge a b ≡ true) ↔ Reach edge a b
  -- the order in which the middles are admitted makes no difference
  pub any_order : (middles : List ℕ) → ((x : ℕ) → x < n → member x middles ≡ true)
      → (a b : ℕ) → through middles edge a b ≡ filled n edge a b
  -- two rows are equal exactly if each of the two nodes reaches the other
  pub rows : (a b : ℕ) → a < n → b < n → (is_same_row n (filled n edge) a b ≡ true) ↔ Both edge a b
  -- so the classes are those of the quick walk
  pub classes : (a b : ℕ) → a < n → b < n
      → (is_same_row n (filled n edge) a b ≡ true) ↔ (at (region_of n edge) a ≡ at (region_of n edge) b)
  -- and with the quick walk's order of finishing so are their numbers
  pub same_numbers : numbers n (is_same_row n (filled n edge)) (order n edge) ≡ labels n edge
