-- `trail::levels::spread` meets its contract. The loop's invariant is `Spreading`. Assumes nothing.
use lib.ListN.{length}
use Rattle.graph.specs.Rows.{edges_of}
use Rattle.trail.proofs.Spreading.{Spreading}
use Rattle.trail.proofs.levels.spread.Given as goal

abbrev pub invariant-loop-neighbour : goal.invariant-loop-neighbour
invariant-loop-neighbour l =
    let g = l.graph in
    Spreading (length g.ends.now) (edges_of g.ends.now g.next.now) l.neighbour-items l.fn.levels l.fn.queue l.head l.tail l.node l.level l.neighbour-index
    l.levels l.queue l.count
