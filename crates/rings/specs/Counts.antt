-- What the functions that look for rings hand on to each other.
-- Assumes nothing: these are definitions.
use Rattle.std.specs.Prelude.{◌≡◌, Bool, ◌&&◌, ◌||◌, List, ℕ, suc, ◌+◌, ◌*◌, ◌≤◌, ◌<◌, eqb, length, get_or, ℤ}
use Rattle.sets.specs.Members.{count_below}
use Rattle.tables.specs.Order.{member}
use Rattle.lists.specs.Records.{component_count}
use Rattle.regions.specs.Graph.{Edges, at}
use Rattle.rings.specs.Rings.{join_count}

-- node a was seen from node b: its mark is one more than b
abbrev pub is_seen : List ℕ → ℕ → ℕ → Bool
is_seen seen b a = eqb (at seen a) (b + 1)

-- a stands in the row, and has the label of b
abbrev pub near_by : List ℕ → List ℕ → ℕ → ℕ → Bool
near_by labels row b a = eqb (at labels a) (at labels b) && member a row

-- no mark is from a node after b
abbrev pub SeenUpTo : ℕ → List ℕ → Type 0
SeenUpTo m seen = (a : ℕ) → at seen a ≤ m

-- the nodes up to b that are near to b by a row are seen from b, and r is how many are
pub record RowSeen (labels row : List ℕ) (b : ℕ) (seen₀ seen : List ℕ) (r : ℕ) : Type 0 where
  pub marks : (a : ℕ) → a ≤ b → is_seen seen b a ≡ (is_seen seen₀ b a || near_by labels row b a)
  pub low : SeenUpTo (b + 1) seen
  pub count : r ≡ count_below (is_seen seen b) (suc b)

-- a and b have one label, and an edge joins them, in either direction
abbrev pub near_either : Edges → List ℕ → Edges
near_either edge labels a b = eqb (at labels a) (at labels b) && (edge b a || edge a b)

-- both are in region r
abbrev pub near_in : Edges → List ℕ → ℕ → Edges
near_in edge labels r a b = eqb (at labels b) r && near_either edge labels a b

-- each number is how many pairs of nodes below n are joined in the region, a node with itself being one
pub record JoinsCounted (edge : Edges) (labels : List ℕ) (n : ℕ) (joins : List ℕ) : Type 0 where
  pub is : (r : ℕ) → r < length joins → get_or joins r 0 ≡ join_count (near_in edge labels r) n

-- room in the two slices that are lent
pub record RingsRoom (cs : List ℤ) (regions stack : List ℕ) : Type 0 where
  pub regions_room : component_count cs ≤ length regions
  pub stack_room : 2 * component_count cs ≤ length stack
