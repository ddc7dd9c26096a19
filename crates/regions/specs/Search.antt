-- What the contracts say: what a walk asks of the arrays that it is lent, and how they hold the states of `Kosaraju`. The stack is the one
-- that document 01 has the caller lend, n pairs; it is zero before and after. Document 01, "liveness.rs".
-- Assumes nothing: these are definitions.
use Rattle.std.specs.Prelude.{◌≡◌, Bool, cond, List, [], ◌∷◌, ℕ, ◌+◌, ◌≤◌, get_or, take, drop}
use Rattle.regions.specs.Graph.{Edges}
use Rattle.regions.specs.Kosaraju as Kosaraju
use Rattle.regions.specs.Kosaraju.{Walk, visit, Labels, label, reached}

-- ---- one walk

-- the state that the arrays hold: the order is the first `count` places of its array
abbrev pub walk_of : List Bool → List ℕ → ℕ → Walk
walk_of visited order count = record { visited = visited; order = take count order }

-- w for each node that is not visited
unfoldable pub weight : ℕ → List Bool → ℕ
weight w [] = 0
weight w (b ∷ l) = cond b 0 w + weight w l

-- how many nodes are not visited
abbrev pub fresh : List Bool → ℕ
fresh visited = weight 1 visited

-- every place holds 0
abbrev pub Zeros : List ℕ → Type 0
Zeros l = (i : ℕ) → get_or l i 0 ≡ 0

-- what a walk from x does: it is `visit`, it touches no place of the order past the nodes that it adds, and it leaves the stack zero
pub record Searched (n : ℕ) (edge : Edges) (x : ℕ) (visited₀ : List Bool) (order₀ : List ℕ) (count₀ : ℕ)
    (visited : List Bool) (order : List ℕ) (count : ℕ) (stack : List ℕ) : Type 0 where
  pub visits : walk_of visited order count ≡ visit n edge n x (walk_of visited₀ order₀ count₀)
  pub rest : drop count order ≡ drop count order₀
  pub stack_zeros : Zeros stack
  pub grows : count₀ ≤ count
  pub adds : count + fresh visited ≡ count₀ + fresh visited₀

-- ---- regions

-- what the walk forward leaves: the nodes in the order in which they finished
pub record Ordered (n : ℕ) (edge : Edges) (order₀ order stack : List ℕ) : Type 0 where
  pub order_is : take n order ≡ Kosaraju.order n edge
  pub rest : drop n order ≡ drop n order₀
  pub stack_zeros : Zeros stack

-- the state that the arrays hold
abbrev pub labels_of : List Bool → List ℕ → ℕ → Labels
labels_of visited region_of count = record { visited = visited; region_of = region_of; count = count }

-- what the walk back from one node does: it is `label`, and it leaves the stack zero
pub record Labelled (n : ℕ) (edge : Edges) (x : ℕ) (visited₀ : List Bool) (regionOf₀ : List ℕ) (count₀ : ℕ)
    (visited : List Bool) (region_of : List ℕ) (count : ℕ) (stack : List ℕ) : Type 0 where
  pub labels : labels_of visited region_of count ≡ label n edge x (labels_of visited₀ regionOf₀ count₀)
  pub stack_zeros : Zeros stack

-- the regions of the graph: how many, and each node's
pub record Regions (n : ℕ) (edge : Edges) (labels : List ℕ) (count : ℕ) (stack : List ℕ) : Type 0 where
  pub count_is : count ≡ Kosaraju.count n edge
  pub labels_are : labels ≡ Kosaraju.region_of n edge
  pub stack_zeros : Zeros stack

-- ---- reach

-- what the starts reach
pub record Reached (n : ℕ) (edge : Edges) (starts visited : List Bool) (stack : List ℕ) : Type 0 where
  pub visited_is : visited ≡ reached n edge starts
  pub stack_zeros : Zeros stack
