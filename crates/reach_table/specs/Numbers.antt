-- The numbers of the classes (document 02, R-8: "Numbering is taken from the quick walk's rule"): the nodes are taken last finished first,
-- and each that has no number yet gives its whole class, the nodes whose rows are equal to its own, the next number.
-- Assumes nothing: these are definitions.
use Rattle.std.specs.Prelude.{cond, ◌||◌, List, reverse, ℕ, suc}
use Rattle.lists.specs.First.{tabulate}
use Rattle.regions.specs.Graph.{Edges, at, marked, each}
use Rattle.regions.specs.Kosaraju.{Labels, unlabelled}

-- the class of x gets the next number
abbrev pub number_class : ℕ → Edges → ℕ → Labels → Labels
number_class n same x s =
    record {
      visited = tabulate (λ y. marked s.visited y || same x y) n;
      region_of = tabulate (λ y. cond (same x y) s.count (at s.region_of y)) n;
      count = suc s.count;
    }

unfoldable pub number_next : ℕ → Edges → ℕ → Labels → Labels
number_next n same x s = cond (marked s.visited x) s (number_class n same x s)

-- of the nodes of an order, from the last to the first
unfoldable pub numbers : ℕ → Edges → List ℕ → Labels
numbers n same order = each (number_next n same) (reverse order) (unlabelled n)
