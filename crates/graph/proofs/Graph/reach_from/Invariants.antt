-- `graph::Graph::reach_from` meets its contract. The loop's invariant: the arrays hold what the walks from the starts before `node` leave.
-- Assumes nothing.
use lib.ListN.{length}
use Rattle.regions.specs.Kosaraju.{starts_of}
use Rattle.graph.specs.Rows.{edges_of}
use Rattle.graph.proofs.Order.{Walked}
use Rattle.graph.proofs.Graph.reach_from.Given as goal

abbrev pub invariant-loop-node : goal.invariant-loop-node
invariant-loop-node l =
    let g = l.fn.self in
    Walked (length g.ends.now) (edges_of g.ends.now g.next.now) l.initial.order l.visited l.order l.count l.stack (starts_of l.node l.starts)
