-- What is proved of the definitions of `Kosaraju`, for every n and every graph on the nodes below n: that they are what document 01 asks of
-- regions ("What the contracts must leave no choice in", 3) and of `drive` and `potential` (under "liveness.rs").
-- The theorems are `region_laws` and `reach_laws` of proofs/Theorems.antt.
-- Assumes nothing: these are statements.
use Rattle.std.specs.Prelude.{◌≡◌, Bool, true, List, ◌↔◌, ℕ, ◌≤◌, ◌<◌, length}
use Rattle.regions.specs.Graph.{Edges, Reach, Both, at, marked}
use Rattle.regions.specs.Kosaraju.{region_of, count, reached}

pub record RegionLaws (n : ℕ) (edge : Edges) : Type 0 where
  -- two nodes have the same region exactly if each reaches the other
  pub same : (a b : ℕ) → a < n → b < n → (at (region_of n edge) a ≡ at (region_of n edge) b) ↔ Both edge a b
  -- a region's number is below the count
  pub below : (a : ℕ) → a < n → at (region_of n edge) a < count n edge
  -- no region is empty: each number below the count is some node's
  pub onto : (k : ℕ) → k < count n edge → (a : ℕ) × (a < n) × (at (region_of n edge) a ≡ k)
  -- no edge leads to a smaller number
  pub rises : (a b : ℕ) → edge a b ≡ true → at (region_of n edge) a ≤ at (region_of n edge) b
  -- each node has an entry, and there are at most n regions
  pub long : length (region_of n edge) ≡ n
  pub few : count n edge ≤ n

pub record ReachLaws (n : ℕ) (edge : Edges) (starts : List Bool) : Type 0 where
  -- a node is reached exactly if some start reaches it
  pub exactly : (k : ℕ) → (marked (reached n edge starts) k ≡ true) ↔ ((s : ℕ) × (s < n) × (marked starts s ≡ true) × Reach edge s k)
  -- each start is reached
  pub includes : (s : ℕ) → s < n → marked starts s ≡ true → marked (reached n edge starts) s ≡ true
  -- each node has an entry
  pub long : length (reached n edge starts) ≡ n
