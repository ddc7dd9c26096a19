-- `reach_table::start::put_edges` meets its contract. The loop's invariant: the places of the edges from the members passed hold 1.
-- Assumes nothing.
use Rattle.lists.specs.Records.{component_count}
use Rattle.graph.specs.Rows.{edges_of}
use Rattle.reach_table.specs.Square.{Makes}
use Rattle.reach_table.proofs.Starting.{edges_to}
use Rattle.reach_table.proofs.start.put_edges.Given as goal

abbrev pub invariant-loop-m : goal.invariant-loop-m
invariant-loop-m l =
    let cs = l.fn.plot.components.now in
    let g = l.fn.graph in
    Makes (component_count cs) (edges_to cs (edges_of g.ends.now g.next.now) l.m) l.initial.square l.square
