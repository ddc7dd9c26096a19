-- Graphs and chains of edges. What document 01 says of components and of port connections of transfer 0 to 5 (under "liveness.rs", and in
-- "What the contracts must leave no choice in", 3) is said in this crate of nodes and edges: node k is the component with the k-th least id,
-- so that "by rising id" is by rising number.
-- Assumes nothing: these are definitions.
use Rattle.std.specs.Prelude.{◌≡◌, Bool, true, false, cond, List, [], ◌∷◌, ℕ, zero, suc, ◌<◌, get_or}

-- ---- graphs

-- a graph on the nodes 0, 1, .., n - 1 is its edge test
abbrev pub Edges : Type 0
Edges = ℕ → ℕ → Bool

-- every edge leads from a node below n to a node below n
abbrev pub Within : ℕ → Edges → Type 0
Within n edge = (a b : ℕ) → edge a b ≡ true → (a < n) × (b < n)

-- the edges, turned around
abbrev pub flip : Edges → Edges
flip edge a b = edge b a

-- There is a chain of edges from a to c, each one's end the next one's start. The empty chain leads only from a node to itself.
pub data Reach (edge : Edges) : ℕ → ℕ → Type 0 where
  here : {a : ℕ} → Reach edge a a
  step : {a b c : ℕ} → edge a b ≡ true → Reach edge b c → Reach edge a c

-- each of a and b reaches the other
abbrev pub Both : Edges → ℕ → ℕ → Type 0
Both edge a b = Reach edge a b × Reach edge b a

-- ---- lists of nodes

-- the number at place p, counted from 0
abbrev pub at : List ℕ → ℕ → ℕ
at l p = get_or l p 0

-- the mark at place p
abbrev pub marked : List Bool → ℕ → Bool
marked l p = get_or l p false

-- a, a + 1, .., a + k - 1
unfoldable pub range : ℕ → ℕ → List ℕ
range a zero = []
range a (suc k) = a ∷ range (suc a) k

-- the nodes that pass the test, in the list's order
unfoldable pub filter : (ℕ → Bool) → List ℕ → List ℕ
filter p [] = []
filter p (x ∷ l) = cond (p x) (x ∷ filter p l) (filter p l)

-- do f at each node of the list, one after the other
unfoldable pub each : {S : Type 0} → (ℕ → S → S) → List ℕ → S → S
each f [] s = s
each f (x ∷ l) s = each f l (f x s)

-- the nodes to which an edge leads from x, by rising number
unfoldable pub next : ℕ → Edges → ℕ → List ℕ
next n edge x = filter (edge x) (range zero n)
