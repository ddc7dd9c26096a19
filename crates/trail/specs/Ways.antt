-- What the contracts say of the walk from the start down the levels, and of what the search asks.
-- Assumes nothing: these are definitions.
use Rattle.std.specs.Prelude.{ℕ, ◌≤◌, ◌<◌, ◌≡◌, Bool, List, ◌∷◌, length, take}
use Rattle.lists.specs.Limits.{component_limit}
use Rattle.regions.specs.Graph.{Edges, flip, at}
use Rattle.graph.specs.Rows.{Rows}
use Rattle.trail.specs.Levels.{Levels, Descends}

-- a node of a graph with levels, and room for a way from it
pub record WalkRoom (n : ℕ) (edge : Edges) (levels : List ℕ) (s : ℕ) (way : List ℕ) : Type 0 where
  pub feeds : ℕ → Bool
  pub levelled : Levels n edge feeds levels
  pub node : s < n
  pub reaches : 0 < at levels s
  pub way_room : n ≤ length way

-- the way from s down stands at the front of a list
pub record WalkedDown (edge : Edges) (levels : List ℕ) (s : ℕ) (way : List ℕ) : Type 0 where
  pub rest : List ℕ
  pub down : Descends edge levels s rest
  pub way_is : take (at levels s) way ≡ s ∷ rest

-- what the search asks: the edges turned around, and room for each drive source's node
pub record FindRoom (n : ℕ) (edge : Edges) (back_ends back : List ℕ) (drives feeds : List Bool) (levels way : List ℕ) : Type 0 where
  pub nodes : n ≤ component_limit
  pub turned : Rows n (flip edge) back_ends back
  pub drives_length : length drives ≡ n
  pub feeds_length : length feeds ≡ n
  pub levels_length : length levels ≡ n
  pub way_room : n ≤ length way
