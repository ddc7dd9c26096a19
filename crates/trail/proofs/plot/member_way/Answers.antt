-- Answers for the goals that the search leaves.
use mathlib.Core.Path.{sym, ◌∙◌}
use native.Mathlib.Omega.{arith}
use Rattle.liveness.proofs.Lent.{flags_lent, nodes_lent, nodes_are, nodes_few}
use Rattle.graph.proofs.Rows.{own_rows, own_turned}
use Rattle.trail.proofs.Written.{way_found}
use Rattle.trail.proofs.plot.member_way.Goals as goal

pub slice_bounds-forward_ends-end : goal.slice_bounds-forward_ends-end
slice_bounds-forward_ends-end c = nodes_few c.args.plot.now.accepted

pub slice_bounds-ends-end : goal.slice_bounds-ends-end
slice_bounds-ends-end c = sym (nodes_lent c.args.plot.now.accepted)

pub slice_bounds-backward_ends-end : goal.slice_bounds-backward_ends-end
slice_bounds-backward_ends-end c = nodes_few c.args.plot.now.accepted

pub slice_bounds-back_ends-end : goal.slice_bounds-back_ends-end
slice_bounds-back_ends-end c = sym (nodes_lent c.args.plot.now.accepted)

pub slice_bounds-drive_flags-end : goal.slice_bounds-drive_flags-end
slice_bounds-drive_flags-end c = nodes_few c.args.plot.now.accepted

pub slice_bounds-drives-end : goal.slice_bounds-drives-end
slice_bounds-drives-end c = sym (flags_lent c.args.plot.now.accepted)

pub slice_bounds-feed_flags-end : goal.slice_bounds-feed_flags-end
slice_bounds-feed_flags-end c = nodes_few c.args.plot.now.accepted

pub slice_bounds-feeds-end : goal.slice_bounds-feeds-end
slice_bounds-feeds-end c = sym (flags_lent c.args.plot.now.accepted)

pub slice_bounds-levels-end : goal.slice_bounds-levels-end
slice_bounds-levels-end c = nodes_few c.args.plot.now.accepted

pub slice_bounds-find_way-end : goal.slice_bounds-find_way-end
slice_bounds-find_way-end c = sym (nodes_lent c.args.plot.now.accepted)

pub rows-requires-clause-nodes : goal.rows-requires-clause-nodes
rows-requires-clause-nodes c = let a = c.args.plot.now.accepted in (nodes_lent a ∙ nodes_are a, nodes_lent a ∙ nodes_are a)

pub invariant_of-forward : goal.invariant_of-forward
invariant_of-forward c = record { rows = own_rows c.rows.ensures.forward }

pub invariant_of-backward : goal.invariant_of-backward
invariant_of-backward c = record { rows = own_rows c.rows.ensures.backward }

pub find_way-requires : goal.find_way-requires
find_way-requires c =
    let a = c.args.plot.now.accepted in
    let nodes = c.rows.ensures.forward.rows.nodes in
    let few = a.scene.components.few in
    record {
      nodes = omega (arith, nodes, few);
      turned = own_turned c.rows.ensures.forward c.rows.ensures.backward;
      drives_length = c.drive_members.auto.goals ∙ flags_lent a ∙ nodes_are a ∙ sym nodes;
      feeds_length = c.flag_immediate.auto.starts ∙ flags_lent a ∙ nodes_are a ∙ sym nodes;
      levels_length = nodes_lent a ∙ nodes_are a ∙ sym nodes;
      way_room = omega (arith, nodes, c.requires);
    }

pub returns : goal.returns
returns c p is =
    let l = c.args.plot.now in
    way_found l.components.now l.ports.now l.frontiers.now p c.args.port c.find_way.new.way c.find_way.result c.rows.ensures.forward
    c.drive_members.ensures (c.flag_immediate.ensures p is) c.find_way.ensures
