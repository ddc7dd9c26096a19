-- A graph on the nodes 0, 1, .., n - 1 as rows: `next` holds the neighbours of each node, row after row, and `ends` where the row of each
-- node ends. In a row they rise; a neighbour may be there more than once, as where several port connections lead from one component to
-- another.
-- Assumes nothing: these are definitions.
use Rattle.std.specs.Prelude.{◌≡◌, ◌&&◌, List, ◌∷◌, ℕ, ◌-◌, ◌≤◌, ◌<◌, ltb, length, get_or, take, drop}
use Rattle.tables.specs.Order.{member, Ascending}
use Rattle.regions.specs.Graph.{Edges, Within}

-- where the row of x begins: where the one before it ends
abbrev pub begin_of : List ℕ → ℕ → ℕ
begin_of ends x = get_or (0 ∷ ends) x 0

-- where it ends
abbrev pub end_of : List ℕ → ℕ → ℕ
end_of ends x = get_or ends x 0

-- what stands from a place on up to an end
unfoldable pub cut : List ℕ → ℕ → ℕ → List ℕ
cut next place end = take (end - place) (drop place next)

-- the neighbours of x
abbrev pub row_of : List ℕ → List ℕ → ℕ → List ℕ
row_of ends next x = cut next (begin_of ends x) (end_of ends x)

-- the rows lie one after the other, and hold the nodes to which an edge leads, in any order
pub record Holds (n : ℕ) (edge : Edges) (ends next : List ℕ) : Type 0 where
  pub nodes : length ends ≡ n
  pub within : Within n edge
  pub ordered : (x : ℕ) → x < n → begin_of ends x ≤ end_of ends x
  pub inside : (x : ℕ) → x < n → end_of ends x ≤ length next
  pub holds : (x : ℕ) → x < n → (y : ℕ) → member y (row_of ends next x) ≡ edge x y

-- the same by rising number
pub record Rows (n : ℕ) (edge : Edges) (ends next : List ℕ) : Type 0 where
  pub rows : Holds n edge ends next
  pub rising : (x : ℕ) → x < n → Ascending (row_of ends next x)

-- the graph that rows stand for: where `Rows n edge ends next`, it is `edge` (`edges_are` of proofs/Rows.antt)
unfoldable pub edges_of : List ℕ → List ℕ → Edges
edges_of ends next a b = ltb a (length ends) && member b (row_of ends next a)
