-- Answers for the goals that the search leaves.
use Rattle.std.proofs.Common.{◌<◌, length, arith, ap, ap₂, ◌∙◌}
use Rattle.regions.specs.Graph.{at}
use Rattle.graph.specs.Rows.{row_of}
use Rattle.graph.proofs.Carrying.{labels_long, row_labels}
use Rattle.assessment.proofs.UpRows.{carry_none, carry_more, carry_all, region_low}
use Rattle.assessment.proofs.upstream.carry_rows.Goals as goal

pub loop-i-init : goal.loop-i-init
loop-i-init c = carry_none _ _ _ _

pub bounds-labels-x : goal.bounds-labels-x
bounds-labels-x c =
    let low = c.requires.nodes.low c.loop-i.i (omega arith) in
    let long = labels_long c.args.graph.rows.rows.within c.requires.labels in
    let is = c.from-x.ensures in
    omega arith

pub hand_row-requires-clause-region : goal.hand_row-requires-clause-region
hand_row-requires-clause-region c =
    let within = c.args.graph.rows.rows.within in
    let low = c.requires.nodes.low c.loop-i.i (omega arith) in
    let region = c.from.ensures ∙ ap₂ at c.requires.labels c.from-x.ensures in
    omega (arith, region, region_low within _ low, c.requires.few)

pub hand_row-requires-clause-labels : goal.hand_row-requires-clause-labels
hand_row-requires-clause-labels c =
    let rows = c.args.graph.rows in
    let low = c.requires.nodes.low c.loop-i.i (omega arith) in
    let long = labels_long rows.rows.within c.requires.labels in
    let is = c.from-x.ensures in
    let lt : c.from-x.result < length c.args.graph.ends.now = omega arith in
    rw c.row.ensures (row_labels rows _ _ lt long (λ y h. rw c.requires.labels (omega (arith, region_low rows.rows.within y h, c.requires.few))))

pub loop-i-preserved : goal.loop-i-preserved
loop-i-preserved c =
    let by = rw c.requires.labels at c.requires.nodes in
    let lt : c.loop-i.i < length c.args.graph.ends.now = omega arith in
    let row = c.row.ensures ∙ ap (row_of c.args.graph.ends.now c.args.graph.next.now) c.from-x.ensures in
    let region = c.from.ensures ∙ ap₂ at c.requires.labels c.from-x.ensures in
    carry_more c.args.graph.rows by c.loop-i.invariant lt row c.requires.labels region c.hand_row.ensures

pub returns : goal.returns
returns c = carry_all c.args.graph.rows.rows.within (rw c.requires.labels at c.requires.nodes) c.loop-i.invariant (omega arith)
