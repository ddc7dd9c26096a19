-- Answers for the goals that the search leaves.
use native.Mathlib.Omega.{arith}
use lib.ListN.{length-set}
use Rattle.trail.proofs.Walking.{going_lower, going_next, going_end}
use Rattle.trail.proofs.find.walk_down.Goals as goal

pub step_down-node-requires : goal.step_down-node-requires
step_down-node-requires c =
    let g = c.loop-i.invariant in
    let room = c.requires.1 in
    (room.levelled.long, g.inside, going_lower g room.levelled (rw c.from-i-end.ensures at c.loop-i-test.true))

pub loop-i-preserved : goal.loop-i-preserved
loop-i-preserved c =
    let g = c.loop-i.invariant in
    let room = c.requires.1 in
    going_next g (λ a b e. (c.args.graph.rows.rows.within a b e).1)
    (omega (arith, c.loop-i.auto.way, length-set c.args.way.now 0 c.args.start, room.way_room, room.levelled.low c.args.start, c.from-i-end.ensures, c.loop-i-test.true))
    (rw c.from-i-end.ensures at c.loop-i-test.true) c.step_down-node.ensures

pub returns : goal.returns
returns c =
    let room = c.requires.1 in
    going_end c.loop-i.invariant (rw c.from-i-end.ensures at c.loop-i-test.false)
    (omega (arith, c.loop-i.auto.way, length-set c.args.way.now 0 c.args.start, room.way_room, room.levelled.low c.args.start))
