-- The reach table of a graph (document 02, R-8), as a test on rows and columns:
--
--     "a square of 1 and 0 .., row reaching column,               a table is a test; bit
--     its diagonal 1 from the start,                              start
--     filled by admitting one middle component after another,     admit, filled
--     then rows compared."                                        is_same_row
--
-- Assumes nothing: these are definitions.
use Rattle.std.specs.Prelude.{Bool, true, false, ◌&&◌, ◌||◌, List, ℕ, zero, eqb}
use Rattle.lists.specs.First.{all_from}
use Rattle.regions.specs.Graph.{Edges, range, each}

-- what stands at a place of the square
abbrev pub bit : Bool → ℕ
bit true = 1
bit false = 0

-- before any middle is admitted: each node reaches itself, and each edge is there
abbrev pub start : Edges → Edges
start edge a b = eqb a b || edge a b

-- with one more middle: a reaches b as before, or a reaches the middle and the middle reaches b
abbrev pub admit : ℕ → Edges → Edges
admit m table a b = table a b || (table a m && table m b)

-- after the middles of a list, one after the other
unfoldable pub through : List ℕ → Edges → Edges
through middles edge = each admit middles (start edge)

-- after the middles below k, by rising number
abbrev pub middles_below : ℕ → Edges → Edges
middles_below k edge = through (range zero k) edge

-- after all n middles
abbrev pub filled : ℕ → Edges → Edges
filled n edge = middles_below n edge

-- the rows of a and b are equal in each of n columns
unfoldable pub is_same_row : ℕ → Edges → ℕ → ℕ → Bool
is_same_row n table a b = all_from (λ c. eqb (bit (table a c)) (bit (table b c))) zero n
