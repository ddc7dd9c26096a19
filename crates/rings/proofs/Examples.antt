-- Plots, as antt computes them: which are cyclic, and which of them have a ring.
--     row_no_ring            five wires in a row, joined both ways: cyclic, and no ring
--     founding_no_ring       the founding plot, three wires each feeding the next: neither
--     triangle_ring          three wires, each joined both ways to both others: a ring
--     repeater_ring          a repeater that feeds itself through four wires: a ring
--     self_ring              a wire connected to itself: a ring of one
--     self_in_row            a row of two wires one of which is connected to itself
-- Assumes nothing.
use Prim.Native.Nat.{ℕ}
use mathlib.Core.Path.{◌≡◌, refl}
use mathlib.Core.Bool.{true, false}
use mathlib.Core.List.{List, [], ◌∷◌, ◌++◌}
use lib.IntN.{ℤ, pos}
use Rattle.sets.specs.Members.{count_below}
use Rattle.lists.specs.First.{first_from, tabulate}
use Rattle.lists.specs.Ids.{smaller_ids}
use Rattle.regions.specs.Graph as graph
use Rattle.regions.specs.Kosaraju as walk
use Rattle.signals.specs.Signals.{signals}
use Rattle.signals.specs.Regions.{region_count, is_cyclic}
use Rattle.rings.specs.Rings.{join_count}
use Rattle.rings.specs.Scene.{has_ring}

-- a component of a kind and an id
abbrev block : ℕ → ℕ → List ℤ
block kind id = pos id ∷ pos id ∷ pos 0 ∷ pos 0 ∷ pos kind ∷ pos 0 ∷ pos 0 ∷ pos 0 ∷ []

abbrev wire : ℕ → List ℤ
wire id = block 0 id

abbrev feed : ℕ → ℕ → List ℤ
feed source sink = pos source ∷ pos 0 ∷ pos sink ∷ pos 0 ∷ pos 0 ∷ []

-- one each way
abbrev join : ℕ → ℕ → List ℤ
join a b = feed a b ++ feed b a

abbrev three : List ℤ
three = wire 0 ++ wire 1 ++ wire 2

abbrev five : List ℤ
five = three ++ wire 3 ++ wire 4

abbrev row : List ℤ
row = join 0 1 ++ join 1 2 ++ join 2 3 ++ join 3 4

row_no_ring : (region_count five row ≡ 1) × (is_cyclic five row 0 ≡ true) × (has_ring five row 0 ≡ false)
unfolding count_below first_from tabulate smaller_ids graph.range graph.filter graph.each graph.next walk.visit walk.order walk.paint walk.label walk.labels signals is_cyclic join_count
row_no_ring = (refl, refl, refl)

abbrev straight : List ℤ
straight = feed 0 1 ++ feed 1 2

founding_no_ring : (region_count three straight ≡ 3) × (has_ring three straight 0 ≡ false) × (has_ring three straight 1 ≡ false) × (has_ring three straight 2 ≡ false)
unfolding count_below first_from tabulate smaller_ids graph.range graph.filter graph.each graph.next walk.visit walk.order walk.paint walk.label walk.labels signals join_count
founding_no_ring = (refl, refl, refl, refl)

abbrev triangle : List ℤ
triangle = join 0 1 ++ join 1 2 ++ join 2 0

triangle_ring : (region_count three triangle ≡ 1) × (has_ring three triangle 0 ≡ true)
unfolding count_below first_from tabulate smaller_ids graph.range graph.filter graph.each graph.next walk.visit walk.order walk.paint walk.label walk.labels signals join_count
triangle_ring = (refl, refl)

-- repeater 0, wires 1 to 4
abbrev clock : List ℤ
clock = block 1 0 ++ wire 1 ++ wire 2 ++ wire 3 ++ wire 4

abbrev round : List ℤ
round = feed 0 1 ++ join 1 2 ++ join 2 3 ++ join 3 4 ++ feed 4 0

repeater_ring : (region_count clock round ≡ 1) × (has_ring clock round 0 ≡ true)
unfolding count_below first_from tabulate smaller_ids graph.range graph.filter graph.each graph.next walk.visit walk.order walk.paint walk.label walk.labels signals join_count
repeater_ring = (refl, refl)

self_ring : (region_count (wire 7) (feed 7 7) ≡ 1) × (has_ring (wire 7) (feed 7 7) 0 ≡ true)
unfolding count_below first_from tabulate smaller_ids graph.range graph.filter graph.each graph.next walk.visit walk.order walk.paint walk.label walk.labels signals join_count
self_ring = (refl, refl)

abbrev two : List ℤ
two = wire 0 ++ wire 1

self_in_row : (has_ring two (join 0 1) 0 ≡ false) × (has_ring two (join 0 1 ++ feed 1 1) 0 ≡ true)
unfolding count_below first_from tabulate smaller_ids graph.range graph.filter graph.each graph.next walk.visit walk.order walk.paint walk.label walk.labels signals join_count
self_in_row = (refl, refl)
