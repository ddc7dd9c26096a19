-- `trail::find::walk_down` meets its contract. The loop's invariant is `Going`. Assumes nothing.
use lib.ListN.{length}
use Rattle.graph.specs.Rows.{edges_of}
use Rattle.trail.proofs.Walking.{Going}
use Rattle.trail.proofs.find.walk_down.Given as goal

abbrev pub invariant-loop-i : goal.invariant-loop-i
invariant-loop-i l =
    let g = l.graph in Going (length g.ends.now) (edges_of g.ends.now g.next.now) l.levels l.start l.i l.node l.way
