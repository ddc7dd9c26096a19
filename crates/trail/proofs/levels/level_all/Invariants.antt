-- `trail::levels::level_all` meets its contract. The loop's invariant: the arrays hold a wave. The measure is what is left of the nodes.
-- Assumes nothing.
use Prim.Native.Nat.{◌-◌}
use lib.ListN.{length}
use Rattle.regions.specs.Graph.{flip, marked}
use Rattle.graph.specs.Rows.{edges_of}
use Rattle.trail.specs.Waves.{Wave}
use Rattle.trail.proofs.levels.level_all.Given as goal

abbrev pub invariant-loop-head : goal.invariant-loop-head
invariant-loop-head l =
    let g = l.backward in
    Wave (length g.ends.now) (flip (edges_of g.ends.now g.next.now)) (marked l.feeds) l.levels l.queue l.head l.tail

abbrev pub decreases-loop-head : goal.decreases-loop-head
decreases-loop-head l = length l.feeds - l.head
