-- `graph::Graph::finish_order` meets its contract. The loop's invariant: the arrays hold what the first walk has after the nodes before
-- `start`.
-- Assumes nothing.
use Prim.Native.Nat.{zero}
use lib.ListN.{length}
use Rattle.regions.specs.Graph.{range}
use Rattle.graph.specs.Rows.{edges_of}
use Rattle.graph.proofs.Order.{Walked}
use Rattle.graph.proofs.Graph.finish_order.Given as goal

abbrev pub invariant-loop-start : goal.invariant-loop-start
invariant-loop-start l =
    let g = l.fn.self in
    Walked (length g.ends.now) (edges_of g.ends.now g.next.now) l.initial.order l.visited l.order l.count l.stack (range zero l.start)
