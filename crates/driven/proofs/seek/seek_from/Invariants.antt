-- `driven::seek::seek_from` meets its contract. The loop's invariant: to finish the open calls gives what `seek` gives at the start. A turn passes a
-- neighbour that is met, stops at a goal, enters a neighbour that is not met, or leaves the node. The measure is that of `visit_from` of the
-- crate `graph`. Assumes nothing.
use Prim.Native.Nat.{suc, ◌-◌}
use mathlib.Core.List.{◌∷◌}
use lib.ListN.{length}
use Rattle.regions.proofs.Frames.{frame}
use Rattle.regions.proofs.Stack.{frames}
use Rattle.graph.specs.Rows.{edges_of}
use Rattle.graph.proofs.Stack.{effort}
use Rattle.driven.specs.Seek.{seeking}
use Rattle.driven.proofs.Frames.{finish}
use Rattle.driven.proofs.Stack.{Open}
use Rattle.driven.proofs.seek.seek_from.Given as goal

abbrev pub invariant-loop-place : goal.invariant-loop-place
invariant-loop-place l =
    let n = length l.ends in
    let edge = edges_of l.ends l.next in
    let init = l.initial in
    Open n edge l.ends l.next l.goals
    (finish n edge l.ends l.next l.goals (n - suc init.depth) (frame init.node init.place ∷ frames init.depth init.stack) (seeking init.met))
    init.stack l.met l.stack l.depth l.node l.place

abbrev pub decreases-loop-place : goal.decreases-loop-place
decreases-loop-place l = effort (length l.next) l.met l.depth l.stack l.node l.place
