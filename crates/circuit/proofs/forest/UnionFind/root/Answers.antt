-- Answers for the goals that the search leaves.
use mathlib.Core.Path.{◌∙◌}
use Rattle.circuit.proofs.Follow.{seen_forest, represents_seen}
use Rattle.circuit.proofs.forest.UnionFind.root.Goals as goal

pub invariant_of-self : goal.invariant_of-self
invariant_of-self c = represents_seen _ _ _ (c.find.ensures.finds _ c.self.invariant).1

pub returns-clause-kept : goal.returns-clause-kept
returns-clause-kept c = seen_forest _ _ _ (c.find.ensures.finds _ c.self.invariant).1 ∙ c.self.view_is
