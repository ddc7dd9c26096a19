-- Answers for the goals that the search leaves: passive marks are gathered by member, and the labels are indices of the flags.
use Rattle.std.proofs.Common.{◌≤◌, false, length, replicate, arith, sym, ◌∙◌}
use lib.Seq.{length-take-le}
use Rattle.lists.specs.Limits.{component_limit}
use Rattle.signals.proofs.Lent.{gathered_same}
use Rattle.liveness.proofs.Inferring.{labels_long, ends_long, graph, labels_small, members_small}
use Rattle.liveness.proofs.Outside.{fed_is}
use Rattle.liveness.proofs.infer.outside_regions.Goals as goal
use Rattle.liveness.proofs.infer.outside_regions.Goals.{Start}

small : (s : Start) → length s.args.plot.now.labels.now ≤ component_limit
small s =
    let p = s.args.plot.now in
    omega (arith, labels_long p.plot.accepted.scene p.prepared, p.plot.accepted.scene.components.few)

pub slice_bounds-array-end : goal.slice_bounds-array-end
slice_bounds-array-end c = small (goal.at.slice_bounds-array-end c).Start

pub slice_bounds-passive-end : goal.slice_bounds-passive-end
slice_bounds-passive-end c = sym (length-take-le _ _ (small (goal.at.slice_bounds-passive-end c).Start))

pub gather-requires-clause-indices : goal.gather-requires-clause-indices
gather-requires-clause-indices c =
    let p = c.args.plot.now in
    members_small p.plot.accepted.scene p.prepared _
    (omega (
      arith,
      labels_long p.plot.accepted.scene p.prepared,
      length-take-le (length p.labels.now) (replicate component_limit false) (small (goal.at.gather-requires-clause-indices c).Start),
    ))

pub flag_outside-requires-clause-nodes : goal.flag_outside-requires-clause-nodes
flag_outside-requires-clause-nodes c =
    let p = c.args.plot.now in
    (ends_long p.plot.accepted.scene p.prepared, omega (arith, c.gather.auto.out ∙ length-take-le _ _ (small (goal.at.flag_outside-requires-clause-nodes c).Start)))

pub flag_outside-requires-clause-indices : goal.flag_outside-requires-clause-indices
flag_outside-requires-clause-indices c =
    let p = c.args.plot.now in
    labels_small p.plot.accepted.scene p.prepared _ (omega (arith, p.plot.accepted.scene.components.few, c.requires))

pub returns : goal.returns
returns c =
    let p = c.args.plot.now in
    let scene = p.plot.accepted.scene in
    fed_is scene p.prepared.labels_are p.prepared.members_are p.plot.rules (rw c.component_list.ensures at c.passive_flags.ensures)
    (c.gather.auto.out ∙ length-take-le _ _ (small (goal.at.returns c).Start) ∙ labels_long scene p.prepared) (gathered_same p.prepared.members_long c.gather.ensures)
    (c.flag_outside.auto.fed ∙ c.requires) (rw (graph scene p.prepared) at c.flag_outside.ensures)
