-- Answers that name what a turn does.
use Rattle.std.proofs.Common.{arith, ap, ◌∙◌}
use Rattle.regions.specs.Graph.{at}
use Rattle.graph.proofs.Carrying.{handed_none, handed_more, handed_all}
use Rattle.lighting.proofs.pass.hand_on.Goals as goal

pub loop-node-init : goal.loop-node-init
loop-node-init c = handed_none _ _ _ _

pub loop-node-preserved : goal.loop-node-preserved
loop-node-preserved c =
    let is = c.from-t.ensures ∙ ap (at c.args.labels.now) c.from.ensures in
    let low = c.requires.labels.labels_below c.loop-node.node-index (omega arith) in
    handed_more c.loop-node.invariant _ is (omega arith)

pub returns : goal.returns
returns c = handed_all c.loop-node.invariant (omega arith) (omega arith)
