-- `driven::seek::seek_all` meets its contract. The loop's invariant: the arrays hold what the searches from the starts before `start` leave, and none
-- has stopped. Assumes nothing.
use lib.ListN.{length}
use Rattle.graph.specs.Rows.{edges_of}
use Rattle.driven.proofs.Starts.{Going}
use Rattle.driven.proofs.seek.seek_all.Given as goal

abbrev pub invariant-loop-start : goal.invariant-loop-start
invariant-loop-start l =
    let g = l.fn.graph in
    Going (length g.ends.now) (edges_of g.ends.now g.next.now) l.fn.goals l.fn.starts l.met l.stack l.start
