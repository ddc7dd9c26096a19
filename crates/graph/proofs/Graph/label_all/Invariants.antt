-- `graph::Graph::label_all` meets its contract. The loop's invariant: the nodes of the order that the iterator has given are dealt with.
-- Assumes nothing.
use lib.ListN.{length}
use Rattle.regions.specs.Graph.{flip}
use Rattle.graph.specs.Rows.{edges_of}
use Rattle.graph.proofs.Label.{Labelling}
use Rattle.graph.proofs.Graph.label_all.Given as goal

abbrev pub invariant-loop-node : goal.invariant-loop-node
invariant-loop-node l =
    let g = l.fn.self in
    Labelling (length g.ends.now) (flip (edges_of g.ends.now g.next.now)) l.visited l.labels l.count l.members l.stack l.node-iterator.iter.rest.now
