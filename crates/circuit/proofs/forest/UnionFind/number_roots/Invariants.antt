-- The loop's invariant: the places that were passed have their numbers, and the count is that of the roots among them.
-- Assumes nothing.
use Prim.Native.Nat.{ℕ, ◌<◌}
use mathlib.Core.Path.{◌≡◌}
use lib.ListN.{get_or}
use Rattle.circuit.specs.Groups.{roots_below}
use Rattle.circuit.proofs.forest.UnionFind.number_roots.Given as goal

abbrev pub invariant-loop-v : goal.invariant-loop-v
invariant-loop-v l = record {
  counted : l.count ≡ roots_below l.self l.v;
  numbered : (k : ℕ) → k < l.v → get_or l.numbers k 0 ≡ roots_below l.self k;
}
