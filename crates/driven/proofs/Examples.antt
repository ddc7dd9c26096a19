-- Small graphs: the order in which nodes are met decides which are met when the walk stops.
-- Assumes nothing.
use mathlib.Core.Path.{◌≡◌, refl}
use mathlib.Core.Bool.{Bool, true, false}
use mathlib.Core.List.{List, [], ◌∷◌}
use lib.ListN.{set, replicate}
use Rattle.tables.specs.Order.{member}
use Rattle.regions.specs.Graph.{Edges, range, filter, each, next}
use Rattle.graph.specs.Rows.{cut, edges_of}
use Rattle.driven.specs.Seek.{seek, sought}
use Rattle.driven.specs.Search.{search_of}

-- 0 leads to 1 and 2, 1 to 3, 2 to 4, and 3 back to 0
abbrev graph : Edges
graph = edges_of (2 ∷ 3 ∷ 4 ∷ 5 ∷ 5 ∷ []) (1 ∷ 2 ∷ 3 ∷ 4 ∷ 0 ∷ [])

abbrev none : List Bool
none = replicate 5 false

-- 2 and 3 are goals. What 1 leads to comes before 2: 3 is met, and 2 is not.
deep_first : sought 5 graph (set (set none 2 true) 3 true) (set none 0 true) ≡ search_of (true ∷ true ∷ false ∷ true ∷ false ∷ []) true
unfolding sought seek each next filter range edges_of cut member
deep_first = refl

-- 1 and 2 are goals: 1 is met first, and what it leads to is not met
lower_first : sought 5 graph (set (set none 1 true) 2 true) (set none 0 true) ≡ search_of (true ∷ true ∷ false ∷ false ∷ false ∷ []) true
unfolding sought seek each next filter range edges_of cut member
lower_first = refl

-- a goal that is a start is all that is met
at_once : sought 5 graph (set none 3 true) (set (set none 3 true) 4 true) ≡ search_of (false ∷ false ∷ false ∷ true ∷ false ∷ []) true
unfolding sought seek each next filter range edges_of cut member
at_once = refl

-- no goal is reached: all that is reached is met
no_goal : sought 5 graph (set none 0 true) (set none 2 true) ≡ search_of (false ∷ false ∷ true ∷ false ∷ true ∷ []) false
unfolding sought seek each next filter range edges_of cut member
no_goal = refl
