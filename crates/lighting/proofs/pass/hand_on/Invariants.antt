-- `lighting::pass::hand_on` meets its contract. The loop's invariant: the mark is handed on to the regions of the nodes before the place.
-- Assumes nothing.
use Rattle.graph.specs.inner.Marks.{Handed}
use Rattle.lighting.proofs.pass.hand_on.Given as goal

abbrev pub invariant-loop-node : goal.invariant-loop-node
invariant-loop-node l = Handed l.nodes l.labels l.node-index l.r l.initial.marks l.marks
