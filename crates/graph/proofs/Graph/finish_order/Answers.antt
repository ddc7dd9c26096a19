-- Answers for the goals that the search leaves.
use native.Mathlib.Omega.{arith}
use Rattle.graph.proofs.Order.{order_begin, order_more, order_skip, order_end, walk_room}
use Rattle.graph.proofs.Graph.finish_order.Goals as goal
use Rattle.graph.proofs.Graph.finish_order.Goals.{then-not-visited-start, else-not-visited-start}

pub loop-start-init : goal.loop-start-init
loop-start-init c = order_begin _ c.requires (c.fill.ensures.after (λ y e. e))

pub visit_from-count-requires : goal.visit_from-count-requires
visit_from-count-requires c = walk_room c.loop-start.invariant _ (let r = c.loop-start.invariant.room.visited_length in omega arith)

pub loop-start-preserved : goal.loop-start-preserved
loop-start-preserved c =
    let start = c.loop-start.start in
    let w = c.loop-start.invariant in
    elim c.if-not-visited-start.branch [
      | then-not-visited-start v ↦
          let call = v.visit_from-count in
          rw (v.visited-is, v.order-is, v.stack-is, v.count-is) (order_more start w call.ensures call.auto.visited call.auto.order call.auto.stack)
      | else-not-visited-start v ↦ rw (v.visited-is, v.order-is, v.stack-is, v.count-is) (order_skip start w v.if-not-visited-start.false)
    ]

pub returns : goal.returns
returns c =
    let long = c.requires.visited_length in
    order_end _ c.loop-start.invariant c.args.self.rows.rows.within (omega arith) (omega arith)
