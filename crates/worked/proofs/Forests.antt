-- The single places that a forest begins with, as a list that antt computes in as many steps as it has places.
-- A forest has a place for each component that a scene may have, and the definition's list takes the square of that number.
-- Assumes nothing.
use Prim.Native.Nat.{ℕ, zero, suc}
use mathlib.Core.Path.{◌≡◌, refl, ap, ◌∙◌}
use mathlib.Core.List.{List, [], ◌∷◌, ◌++◌}
use native.Mathlib.Nat.{zero-add}
use lib.ListN.{replicate}
use Rattle.lists.specs.Limits.{component_limit}
use Rattle.circuit.specs.Forest as forest
use Rattle.regions.specs.Graph as graph
use Rattle.regions.proofs.Laws.Loops.{range_suc}

rising : (n : ℕ) → forest.range n ≡ graph.range 0 n
unfolding forest.range graph.range
rising zero = refl
rising (suc n) = ap (λ (l : List ℕ). l ++ (n ∷ [])) (rising n) ∙ rw (range_suc, zero-add)

abbrev pub single_places : forest.Forest
single_places = record { roots = graph.range 0 component_limit; ranks = replicate component_limit 0 }

pub single_places_lem : forest.singletons ≡ single_places
unfolding forest.singletons
single_places_lem = ap (λ (roots : List ℕ). record { roots = roots; ranks = replicate component_limit 0 }) (rising component_limit)
