-- Small graphs: a straight wire of three nodes whose connections go both ways, a ring of three, and a node that feeds a two-way pair.
-- Assumes nothing.
use mathlib.Core.Path.{◌≡◌, refl}
use mathlib.Core.Bool.{◌&&◌, ◌||◌}
use mathlib.Core.List.{[], ◌∷◌}
use lib.Dec.{eqb}
use Rattle.lists.specs.First.{all_from, tabulate}
use Rattle.regions.specs.Graph.{Edges, range, filter, each, next}
use Rattle.regions.specs.Kosaraju.{visit, order}
use Rattle.reach_table.specs.Table.{through, middles_below, filled, is_same_row}
use Rattle.reach_table.specs.Numbers.{number_next, numbers}
use Rattle.reach_table.specs.Scene.{rows_of}

-- 0 ⇄ 1 ⇄ 2
wire : Edges
wire a b = (eqb a 0 && eqb b 1) || ((eqb a 1 && eqb b 0) || ((eqb a 1 && eqb b 2) || (eqb a 2 && eqb b 1)))

-- 0 → 1 → 2 → 0
ring : Edges
ring a b = (eqb a 0 && eqb b 1) || ((eqb a 1 && eqb b 2) || (eqb a 2 && eqb b 0))

-- 2 → 0 ⇄ 1
fed : Edges
fed a b = (eqb a 2 && eqb b 0) || ((eqb a 0 && eqb b 1) || (eqb a 1 && eqb b 0))

-- both are one region: all of their tables is 1
wire_table : rows_of 3 (filled 3 wire) 3 ≡ 1 ∷ 1 ∷ 1 ∷ 1 ∷ 1 ∷ 1 ∷ 1 ∷ 1 ∷ 1 ∷ []
unfolding wire rows_of tabulate through each range
wire_table = refl

ring_table : rows_of 3 (filled 3 ring) 3 ≡ 1 ∷ 1 ∷ 1 ∷ 1 ∷ 1 ∷ 1 ∷ 1 ∷ 1 ∷ 1 ∷ []
unfolding ring rows_of tabulate through each range
ring_table = refl

-- after the middle 0 alone the ring's node 2 reaches 1, and 1 does not reach 0 yet
ring_after_one : rows_of 3 (middles_below 1 ring) 3 ≡ 1 ∷ 1 ∷ 0 ∷ 0 ∷ 1 ∷ 1 ∷ 1 ∷ 1 ∷ 1 ∷ []
unfolding ring rows_of tabulate through each range
ring_after_one = refl

fed_table : rows_of 3 (filled 3 fed) 3 ≡ 1 ∷ 1 ∷ 0 ∷ 1 ∷ 1 ∷ 0 ∷ 1 ∷ 1 ∷ 1 ∷ []
unfolding fed rows_of tabulate through each range
fed_table = refl

-- node 2 finished last, so its region is number 0
fed_numbers : (numbers 3 (is_same_row 3 (filled 3 fed)) (order 3 fed)).region_of ≡ 1 ∷ 1 ∷ 0 ∷ []
unfolding fed numbers number_next is_same_row all_from tabulate through order visit next filter each range
fed_numbers = refl
