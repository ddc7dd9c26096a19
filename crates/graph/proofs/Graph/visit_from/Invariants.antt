-- `graph::Graph::visit_from` meets its contract. The loop's invariant: to finish the open calls gives what `visit` gives at the start. A
-- turn passes a neighbour that is visited, enters one that is not, or leaves the node. The measure weighs each node that is not visited by
-- the places and 2, and adds the places that are left of each open call. Assumes nothing.
use Prim.Native.Nat.{suc, ◌+◌, ◌-◌}
use mathlib.Core.List.{◌∷◌}
use lib.ListN.{length}
use Rattle.regions.specs.Search.{walk_of, fresh}
use Rattle.regions.proofs.Frames.{frame}
use Rattle.regions.proofs.Stack.{frames}
use Rattle.graph.specs.Rows.{edges_of}
use Rattle.graph.proofs.Frames.{finish}
use Rattle.graph.proofs.Stack.{effort, Open}
use Rattle.graph.proofs.Graph.visit_from.Given as goal

abbrev pub invariant-loop-place : goal.invariant-loop-place
invariant-loop-place l =
    let n = length l.ends in
    let edge = edges_of l.ends l.next in
    let init = l.initial in
    Open n edge l.ends l.next
    (finish n edge l.ends l.next (n - suc init.depth) (frame init.node init.place ∷ frames init.depth init.stack) (walk_of init.visited init.order init.done))
    (suc init.depth + (init.done + fresh init.visited)) init.done init.order init.stack l.visited l.order l.done l.stack l.depth l.node l.place

abbrev pub decreases-loop-place : goal.decreases-loop-place
decreases-loop-place l = effort (length l.next) l.visited l.depth l.stack l.node l.place
