-- Answers for the goals that the search leaves.
use Rattle.std.proofs.Common.{arith, ap, ap₂, ◌∙◌, ◌<◌, length}
use Rattle.regions.specs.Graph.{at}
use Rattle.graph.specs.Rows.{row_of}
use Rattle.graph.proofs.Carrying.{carrying_none, carrying_more, carry_laws, handed_as, labels_long, row_labels}
use Rattle.lighting.proofs.pass.pass.Goals as goal

pub loop-i-init : goal.loop-i-init
loop-i-init c = carrying_none _ _ _ _

pub bounds-labels-x : goal.bounds-labels-x
bounds-labels-x c =
    let low = c.requires.nodes.low c.loop-i.i (omega arith) in
    let long = labels_long c.args.graph.rows.rows.within c.requires.labels in
    let is = c.from-x.ensures in
    omega arith

pub hand_on-requires-clause-labels : goal.hand_on-requires-clause-labels
hand_on-requires-clause-labels c =
    let rows = c.args.graph.rows in
    let low = c.requires.nodes.low c.loop-i.i (omega arith) in
    let long = labels_long rows.rows.within c.requires.labels in
    let is = c.from-x.ensures in
    let lt : c.from-x.result < length c.args.graph.ends.now = omega arith in
    rw (c.row.ensures, c.loop-i.auto.marks) (row_labels rows _ _ lt long c.requires.below)

pub loop-i-preserved : goal.loop-i-preserved
loop-i-preserved c =
    let by = rw c.requires.labels at c.requires.nodes in
    let lt : c.loop-i.i < length c.args.graph.ends.now = omega arith in
    let row = c.row.ensures ∙ ap (row_of c.args.graph.ends.now c.args.graph.next.now) c.from-x.ensures in
    let region = c.from.ensures ∙ ap₂ at c.requires.labels c.from-x.ensures in
    carrying_more c.args.graph.rows by c.loop-i.invariant lt (handed_as row c.requires.labels region c.hand_on.ensures)

pub returns : goal.returns
returns c = carry_laws c.args.graph.rows.rows.within (rw c.requires.labels at c.requires.nodes) c.loop-i.invariant (omega arith)
