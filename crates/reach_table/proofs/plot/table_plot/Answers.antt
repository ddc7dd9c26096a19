-- `reach_table::plot::table_plot` meets its contract: the start of the table, its middles, the order, and the numbers by it.
-- Assumes nothing.
use mathlib.Core.Path.{sym, subst, ◌∙◌}
use Prim.Native.Nat.{ℕ}
use Rattle.liveness.proofs.Lent.{nodes_lent, flags_lent, nodes_are, nodes_few}
use Rattle.graph.specs.Rows.{edges_of}
use Rattle.graph.proofs.Rows.{edges_are, own_rows}
use Rattle.reach_table.specs.Scene.{listed}
use Rattle.reach_table.specs.Square.{AllNumbered}
use Rattle.reach_table.proofs.Entries.{tables}
use Rattle.reach_table.proofs.plot.table_plot.Goals as goal

pub slice_bounds-row_ends-end : goal.slice_bounds-row_ends-end
slice_bounds-row_ends-end c = nodes_few c.args.plot.now.accepted

pub slice_bounds-ends-end : goal.slice_bounds-ends-end
slice_bounds-ends-end c = sym (nodes_lent c.args.plot.now.accepted)

pub slice_bounds-order-end : goal.slice_bounds-order-end
slice_bounds-order-end c = nodes_few c.args.plot.now.accepted

pub slice_bounds-places-end : goal.slice_bounds-places-end
slice_bounds-places-end c = sym (nodes_lent c.args.plot.now.accepted)

pub slice_bounds-back_ends-end : goal.slice_bounds-back_ends-end
slice_bounds-back_ends-end c = nodes_few c.args.plot.now.accepted

pub slice_bounds-rows-end-2 : goal.slice_bounds-rows-end-2
slice_bounds-rows-end-2 c = sym (nodes_lent c.args.plot.now.accepted)

pub slice_bounds-numbered-end : goal.slice_bounds-numbered-end
slice_bounds-numbered-end c = nodes_few c.args.plot.now.accepted

pub slice_bounds-number_all-end : goal.slice_bounds-number_all-end
slice_bounds-number_all-end c = sym (flags_lent c.args.plot.now.accepted)

pub rows-requires-clause-nodes : goal.rows-requires-clause-nodes
rows-requires-clause-nodes c = let a = c.args.plot.now.accepted in (nodes_lent a ∙ nodes_are a, nodes_lent a ∙ nodes_are a)

pub invariant_of-graph : goal.invariant_of-graph
invariant_of-graph c = record { rows = own_rows c.rows.ensures.forward }

pub fill-requires : goal.fill-requires
fill-requires c =
    let a = c.args.plot.now.accepted in
    record { few = nodes_few a; long = rw (nodes_are a) c.start_square.ensures.long }

pub returns : goal.returns
returns c =
    let a = c.args.plot.now.accepted in
    let rows = c.rows.ensures.forward in
    let filled = (rw (nodes_are a) at c.fill.ensures) (listed c.args.plot.now.components.now c.args.plot.now.ports.now) c.start_square.ensures in
    let long = c.requires.regions_room in
    tables (edges_of c.rows.new.ends c.rows.new.next) a.scene (edges_are rows.rows) filled c.finish_places.ensures (c.number_all.auto.regions ∙ long)
    (subst (λ (k : ℕ). AllNumbered k c.fill.new.square c.finish_places.new.places c.number_all.new.numbered c.number_all.new.regions c.number_all.result) long
    c.number_all.ensures)
