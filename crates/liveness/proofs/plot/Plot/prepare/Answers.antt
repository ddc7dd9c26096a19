-- Answers for the goals that the search leaves.
use Rattle.std.proofs.Common.{◌≡◌, length, arith, rules, ◌∙◌}
use lib.Seq.{length-take-le}
use Rattle.lists.specs.Limits.{component_limit}
use Rattle.graph.proofs.Rows.{own_rows}
use Rattle.signals.proofs.Staged.{members_below}
use Rattle.liveness.proofs.Lent.{nodes_are, nodes_few}
use Rattle.liveness.proofs.plot.Plot.prepare.Goals as goal

pub slice_bounds-ends-end : goal.slice_bounds-ends-end
slice_bounds-ends-end c = nodes_few c.args.self.accepted

pub rows-requires-clause-nodes : goal.rows-requires-clause-nodes
rows-requires-clause-nodes c =
    let few = nodes_few c.args.self.accepted in
    let ends : length c.args.room.now.ends ≡ component_limit = search rules in
    let back_ends : length c.args.room.now.back_ends ≡ component_limit = search rules in
    (length-take-le _ _ (omega (arith, few, ends)) ∙ nodes_are c.args.self.accepted, length-take-le _ _ (omega (arith, few, back_ends)) ∙ nodes_are c.args.self.accepted)

pub invariant_of-forward : goal.invariant_of-forward
invariant_of-forward c = record { rows = own_rows c.rows.ensures.forward }

pub invariant_of-backward : goal.invariant_of-backward
invariant_of-backward c = record { rows = own_rows c.rows.ensures.backward }

pub spread-requires : goal.spread-requires
spread-requires c =
    let a = c.args.self.accepted in
    let few = nodes_few a in
    let nodes = nodes_are a in
    let below = members_below c.args.self.components.now (c.place_members.ensures c.args.self.components.now a.table a.scene.distinct) in
    let labels : length c.args.room.now.labels ≡ component_limit = search rules in
    let members : length c.args.room.now.members ≡ component_limit = search rules in
    let region_at : length c.args.room.now.region_at ≡ component_limit = search rules in
    let n = length c.args.self.keys.now in
    let labels_long = c.regions-count.auto.labels ∙ length-take-le n c.args.room.now.labels (omega (arith, few, labels)) in
    let members_long = c.place_members.auto.members ∙ length-take-le n c.args.room.now.members (omega (arith, few, members)) in
    let room = length-take-le n c.args.room.now.region_at (omega (arith, few, region_at)) in (
      record { long = omega arith; below = λ p h. omega (arith, below.below p (omega (arith, members_long, nodes)), labels_long, nodes) },
      omega (arith, members_long, room),
    )
