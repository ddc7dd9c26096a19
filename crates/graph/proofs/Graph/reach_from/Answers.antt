-- Answers for the goals that the search leaves.
use native.Mathlib.Omega.{arith}
use Rattle.graph.proofs.Order.{reach_begin, reach_more, reach_skip, reach_end, walk_room}
use Rattle.graph.proofs.Graph.reach_from.Goals as goal
use Rattle.graph.proofs.Graph.reach_from.Goals.{then-is_start, else-is_start}

pub loop-node-init : goal.loop-node-init
loop-node-init c = reach_begin _ c.requires.1 (c.fill.ensures.after (λ y e. e)) c.args.starts.now

pub visit_from-count-requires : goal.visit_from-count-requires
visit_from-count-requires c = walk_room c.loop-node.invariant _ (let long = c.requires.0 in omega arith)

pub loop-node-preserved : goal.loop-node-preserved
loop-node-preserved c =
    let start = c.loop-node.node in
    let starts = c.args.starts.now in
    let w = c.loop-node.invariant in
    elim c.if-is_start.branch [
      | then-is_start v ↦
          let call = v.visit_from-count in
          rw (v.visited-is, v.order-is, v.stack-is, v.count-is)
          (reach_more start starts w v.if-is_start.true call.ensures call.auto.visited call.auto.order call.auto.stack)
      | else-is_start v ↦ rw (v.visited-is, v.order-is, v.stack-is, v.count-is) (reach_skip start starts w v.if-is_start.false)
    ]

pub returns : goal.returns
returns c = let long = c.requires.0 in reach_end _ _ c.loop-node.invariant (omega arith) (omega arith)
