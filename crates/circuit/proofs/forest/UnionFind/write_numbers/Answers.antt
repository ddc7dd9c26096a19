-- Answers for the goals that the search leaves.
use native.Mathlib.Omega.{arith}
use Rattle.circuit.proofs.Roots.{groups_whole}
use Rattle.circuit.proofs.forest.UnionFind.write_numbers.Goals as goal

pub returns : goal.returns
returns c = rw (← c.loop-v.auto.out) (groups_whole c.args.self.now c.loop-v.out (λ v h. c.loop-v.invariant.numbered v (omega arith)))
