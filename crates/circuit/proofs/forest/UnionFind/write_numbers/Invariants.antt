-- The loop's invariant: the forest stays, and the places that were passed have the numbers of their groups. Assumes nothing.
use Prim.Native.Nat.{ℕ, ◌<◌}
use mathlib.Core.Path.{◌≡◌}
use lib.ListN.{get_or}
use Rattle.circuit.specs.Groups.{group_of}
use Rattle.circuit.proofs.forest.UnionFind.write_numbers.Given as goal

abbrev pub invariant-loop-v : goal.invariant-loop-v
invariant-loop-v l = record {
  kept : l.self ≡ l.initial.self;
  numbered : (k : ℕ) → k < l.v → get_or l.out k 0 ≡ group_of l.initial.self k;
}
