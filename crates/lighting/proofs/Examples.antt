-- A plot, as antt computes it: lever 3 feeds the loop of wires 2 and 4, which feeds lamp 0; wire 1, which nothing drives, feeds the lamp
-- too. The regions are 0: the lever; 1: the loop; 2: wire 1; 3: the lamp.
-- Assumes nothing.
use Prim.Native.Nat.{ℕ}
use mathlib.Core.Path.{◌≡◌, refl}
use mathlib.Core.Bool.{true, false}
use mathlib.Core.List.{List, [], ◌∷◌, ◌++◌}
use lib.IntN.{ℤ, pos}
use Rattle.lists.specs.First.{first_from, tabulate}
use Rattle.lists.specs.Ids.{smaller_ids}
use Rattle.sets.specs.Members.{count_below}
use Rattle.regions.specs.Graph as graph
use Rattle.regions.specs.Kosaraju as walk
use Rattle.signals.specs.Signals.{signals}
use Rattle.signals.specs.Sources.{source_kind, first_at, is_on_frontier}
use Rattle.signals.specs.Regions.{regions_of, region_count, holds_drive}
use Rattle.signals.specs.Drive.{members_where, drive}
use Rattle.lighting.specs.Pass.{feeds, lit_below}

abbrev block : ℕ → ℕ → List ℤ
block kind id = pos id ∷ pos 0 ∷ pos 0 ∷ pos 0 ∷ pos kind ∷ pos 0 ∷ pos 0 ∷ pos 0 ∷ []

abbrev feed : ℕ → ℕ → List ℤ
feed source sink = pos source ∷ pos 0 ∷ pos sink ∷ pos 0 ∷ pos 0 ∷ []

-- lamp 0, wire 1, wire 2, lever 3, wire 4
abbrev cs : List ℤ
cs = block 11 0 ++ block 0 1 ++ block 0 2 ++ block 4 3 ++ block 0 4

abbrev ps : List ℤ
ps = feed 3 4 ++ feed 4 2 ++ feed 2 4 ++ feed 2 0 ++ feed 1 0

numbered : regions_of cs ps ≡ 3 ∷ 2 ∷ 1 ∷ 0 ∷ 1 ∷ []
unfolding first_from tabulate smaller_ids count_below graph.range graph.filter graph.each graph.next walk.visit walk.order walk.paint walk.label walk.labels signals
numbered = refl

-- wire 1 alone is dark
lit_by_number : lit_below cs ps [] (region_count cs ps) ≡ true ∷ true ∷ false ∷ true ∷ []
unfolding first_from tabulate smaller_ids count_below graph.range graph.filter graph.each graph.next walk.visit walk.order walk.paint walk.label walk.labels signals source_kind first_at is_on_frontier holds_drive feeds lit_below
lit_by_number = refl

driven : drive cs ps [] ≡ true ∷ false ∷ true ∷ true ∷ true ∷ []
unfolding first_from tabulate smaller_ids count_below graph.range graph.filter graph.each graph.next walk.visit walk.order walk.paint walk.label walk.labels walk.reached signals source_kind first_at is_on_frontier members_where drive
driven = refl
