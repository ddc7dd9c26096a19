-- Answers for the goals that the search leaves.
use mathlib.Core.Path.{◌∙◌}
use Rattle.graph.proofs.Label.{within_flip, label_begin, label_room, label_more, label_end}
use Rattle.graph.proofs.Graph.label_all.Goals as goal

pub loop-node-init : goal.loop-node-init
loop-node-init c =
    let (order_is, labels_length, room) = c.requires in
    rw (c.into_iter-node-iterator.ensures.into_iter_gives, c.rev-node-items.ensures.source)
    (label_begin _ (within_flip c.args.self.rows.rows.within) (c.iter.ensures.rest ∙ order_is) labels_length room
    (c.fill-2.ensures.after (λ y e. e)) (c.fill.ensures.after (λ y e. e)))

pub label_from-count-requires : goal.label_from-count-requires
label_from-count-requires c =
    rw c.from.ensures (label_room _ _ c.loop-node.invariant c.in-Some.ensures.steps (within_flip c.args.self.rows.rows.within))

pub loop-node-preserved : goal.loop-node-preserved
loop-node-preserved c =
    let call = c.label_from-count in
    label_more _ _ c.loop-node.invariant c.in-Some.ensures.steps (rw c.from.ensures at call.ensures) call.auto.visited call.auto.labels call.auto.members call.auto.stack

pub returns : goal.returns
returns c = label_end c.loop-node.invariant c.in-None.ensures.steps.0
