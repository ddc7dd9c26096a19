-- Answers for the goals that the search leaves.
use native.Mathlib.Omega.{arith}
use mathlib.Core.Path.{◌≡◌}
use lib.ListN.{replicate}
use Rattle.lists.specs.Limits.{component_limit}
use Rattle.circuit.specs.Forest.{range, singletons, Represents}
use Rattle.circuit.proofs.Lists.{own_range}
use Rattle.circuit.proofs.Link.{singletons_represents}
use Rattle.circuit.proofs.Follow.{seen_forest, represents_seen}
use Rattle.circuit.proofs.forest.UnionFind.new.Goals as goal
use Rattle.circuit.proofs.forest.UnionFind.new.Goals.{After-loop-place}

-- the parents at the end of the loop
stands : (c : After-loop-place) → Represents c.loop-place.parent-items (replicate component_limit 0) singletons
stands c =
    let own : c.loop-place.parent-items ≡ range component_limit = own_range component_limit _ (omega arith) (λ k h. c.loop-place.invariant k (omega arith)) in
    rw own singletons_represents

pub invariant_of-result : goal.invariant_of-result
invariant_of-result c = represents_seen _ _ _ (stands (goal.at.invariant_of-result c).After-loop-place)

pub returns : goal.returns
returns c = seen_forest _ _ _ (stands (goal.at.returns c).After-loop-place)
