-- What the carry of marks asks, and its turns leave.
-- Assumes nothing: these are definitions.
use Rattle.std.specs.Prelude.{◌≡◌, Bool, true, List, ◌⊎◌, ℕ, ◌+◌, ◌≤◌, ◌<◌, length}
use Rattle.regions.specs.Graph.{at, marked}
use Rattle.graph.specs.Rows.{begin_of, end_of}
use Rattle.graph.specs.inner.Layout.{many}

-- the nodes, by rising region
pub record ByRegion (n : ℕ) (labels nodes : List ℕ) : Type 0 where
  pub long : n ≤ length nodes
  pub low : (i : ℕ) → i < n → at nodes i < n
  pub all : (a : ℕ) → a < n → (i : ℕ) × (i < n) × (at nodes i ≡ a)
  pub rise : (i j : ℕ) → i ≤ j → j < n → at labels (at nodes i) ≤ at labels (at nodes j)

-- where the nodes of each region end: there are as many as have its number
pub record Sizes (labels ends : List ℕ) : Type 0 where
  pub size : (r : ℕ) → r < length ends → end_of ends r ≡ begin_of ends r + many (at labels) r (length labels)

-- the mark of region r is handed on to the regions of the first `count` nodes
pub record Handed (nodes labels : List ℕ) (count r : ℕ) (before after : List Bool) : Type 0 where
  pub stays : (q : ℕ) → marked before q ≡ true → marked after q ≡ true
  pub only : (q : ℕ) → marked after q ≡ true
      → (marked before q ≡ true) ⊎ ((marked before r ≡ true) × ((p : ℕ) × (p < count) × (at labels (at nodes p) ≡ q)))
  pub handed : (p : ℕ) → p < count → marked before r ≡ true → marked after (at labels (at nodes p)) ≡ true

-- each node has a label, and it is below a number
pub record Labels (nodes labels : List ℕ) (regions : ℕ) : Type 0 where
  pub nodes_below : (p : ℕ) → p < length nodes → at nodes p < length labels
  pub labels_below : (p : ℕ) → p < length nodes → at labels (at nodes p) < regions
