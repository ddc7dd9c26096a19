-- `driven::plot::driven_port` meets its contract: the arrays are filled one after the other, then the search is made in them.
-- Assumes nothing.
use mathlib.Core.Path.{sym, ◌∙◌}
use Rattle.liveness.proofs.Lent.{flags_lent, nodes_lent, nodes_are, nodes_few}
use Rattle.graph.proofs.Rows.{own_rows}
use Rattle.driven.proofs.Asking.{asked_searched}
use Rattle.driven.proofs.plot.driven_port.Goals as goal

pub slice_bounds-row_ends-end : goal.slice_bounds-row_ends-end
slice_bounds-row_ends-end c = nodes_few c.args.plot.now.accepted

pub slice_bounds-ends-end : goal.slice_bounds-ends-end
slice_bounds-ends-end c = sym (nodes_lent c.args.plot.now.accepted)

pub slice_bounds-feeds-end : goal.slice_bounds-feeds-end
slice_bounds-feeds-end c = nodes_few c.args.plot.now.accepted

pub slice_bounds-starts-end : goal.slice_bounds-starts-end
slice_bounds-starts-end c = sym (flags_lent c.args.plot.now.accepted)

pub slice_bounds-drives-end : goal.slice_bounds-drives-end
slice_bounds-drives-end c = nodes_few c.args.plot.now.accepted

pub slice_bounds-goals-end : goal.slice_bounds-goals-end
slice_bounds-goals-end c = sym (flags_lent c.args.plot.now.accepted)

pub back_rows-requires-clause-nodes : goal.back_rows-requires-clause-nodes
back_rows-requires-clause-nodes c = let a = c.args.plot.now.accepted in nodes_lent a ∙ nodes_are a

pub invariant_of-graph : goal.invariant_of-graph
invariant_of-graph c = record { rows = own_rows c.back_rows.ensures }

pub returns : goal.returns
returns c p is =
    let l = c.args.plot.now in
    asked_searched l.components.now l.ports.now l.frontiers.now c.back_rows.ensures p c.args.port c.drive_members.ensures (c.flag_immediate.ensures p is)
    (c.search_upstream.auto.stack ∙ c.fill.auto.self) c.search_upstream.ensures
