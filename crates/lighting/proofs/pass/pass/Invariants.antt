-- `lighting::pass::pass` meets its contract. The loop's invariant: the edges from the nodes before place i are dealt with.
-- Assumes nothing.
use Rattle.std.proofs.Common.{length}
use Rattle.graph.specs.Rows.{edges_of}
use Rattle.graph.proofs.Carrying.{Carrying}
use Rattle.lighting.proofs.pass.pass.Given as goal

abbrev pub invariant-loop-i : goal.invariant-loop-i
invariant-loop-i l =
    let g = l.fn.graph in Carrying (length g.ends.now) (edges_of g.ends.now g.next.now) l.nodes l.initial.marks l.marks l.i
