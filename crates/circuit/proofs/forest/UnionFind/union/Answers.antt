-- Answers for the goals that the search leaves.
use Rattle.circuit.specs.Forest.{unite}
use Rattle.circuit.proofs.forest.UnionFind.union.Goals as goal

pub returns : goal.returns
unfolding unite
returns c = rw (c.union_roots.ensures, c.root-r.ensures.root, c.root-r.ensures.kept, c.root-l.ensures.kept, c.root-l.ensures.root)
