-- `circuit::settle::join_all` meets its contract: the forests after k connections are those of their joins.
-- Assumes nothing.
use mathlib.Core.Path.{◌≡◌}
use mathlib.Core.List.{List}
use lib.IntN.{ℤ}
use Rattle.lists.specs.Places.{PlacesOfIds}
use Rattle.circuit.specs.Forest.{singletons, unite_all}
use Rattle.circuit.specs.Topology.{joins, net_kinds, fragment_kinds}
use Rattle.circuit.proofs.settle.join_all.Given as goal

abbrev pub invariant-loop-k : goal.invariant-loop-k
invariant-loop-k l = record {
  nets : (cs : List ℤ) → PlacesOfIds cs l.keys → l.nets ≡ unite_all singletons (joins cs l.connections.numbers.now net_kinds l.k);
  fragments : (cs : List ℤ) → PlacesOfIds cs l.keys → l.fragments ≡ unite_all singletons (joins cs l.connections.numbers.now fragment_kinds l.k);
}
