-- The two walks over lists of nodes, which the proofs are about. `Refine` proves that the arrays of `Kosaraju` hold the same.
-- Assumes nothing.
use mathlib.Core.Bool.{cond}
use mathlib.Core.List.{List, [], ◌∷◌, ◌++◌}
use Prim.Native.Nat.{ℕ, zero, suc}
use lib.ListN.{length}
use Rattle.tables.specs.Order.{member}
use Rattle.regions.specs.Graph.{range, each, Edges, flip, next}

-- ---- the first walk

-- the nodes that were entered, and those that were left, the last one first
pub record Trace : Type 0 where
  pub visited : List ℕ
  pub finished : List ℕ

abbrev pub enter : ℕ → Trace → Trace
enter x s = record { visited = x ∷ s.visited; finished = s.finished }

abbrev pub leave : ℕ → Trace → Trace
leave x s = record { visited = s.visited; finished = x ∷ s.finished }

-- before a walk: the nodes of `base` are not to be entered
abbrev pub begin : List ℕ → Trace
begin base = record { visited = base; finished = [] }

unfoldable pub explore : ℕ → Edges → ℕ → ℕ → Trace → Trace
explore n edge zero x s = s
explore n edge (suc fuel) x s = cond (member x s.visited) s (leave x (each (λ k t. explore n edge fuel k t) (next n edge x) (enter x s)))

unfoldable pub explored : ℕ → Edges → Trace
explored n edge = each (explore n edge n) (range zero n) (begin [])

-- ---- the second walk: a list of the regions, the last one first

-- the nodes that have a region
unfoldable pub assigned : List (List ℕ) → List ℕ
assigned [] = []
assigned (r ∷ rs) = r ++ assigned rs

-- what a walk from x against the edges enters, beside the nodes `old`
unfoldable pub collect : ℕ → Edges → ℕ → List ℕ → List ℕ
collect n edge x old = (explore n (flip edge) n x (begin old)).finished

unfoldable pub found : ℕ → Edges → ℕ → List (List ℕ) → List (List ℕ)
found n edge x rs = cond (member x (assigned rs)) rs (collect n edge x (assigned rs) ∷ rs)

unfoldable pub regions : ℕ → Edges → List (List ℕ)
regions n edge = each (found n edge) (explored n edge).finished []

-- a region's number is how many regions were found before it
unfoldable pub number : List (List ℕ) → ℕ → ℕ
number [] a = zero
number (r ∷ rs) a = cond (member a r) (length rs) (number rs a)
