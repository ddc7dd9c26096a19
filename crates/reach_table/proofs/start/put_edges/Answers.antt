-- Answers for the goals that the search leaves.
use mathlib.Core.Path.{subst}
use Prim.Native.Nat.{ℕ, ◌<◌}
use native.Mathlib.Omega.{arith}
use Rattle.lists.specs.Records.{component_count}
use Rattle.liveness.proofs.Lent.{nodes_are}
use Rattle.graph.specs.Rows.{edges_of, Rows}
use Rattle.graph.proofs.Rows.{row_low}
use Rattle.reach_table.proofs.Starting.{edges_none, edges_more, edges_all}
use Rattle.reach_table.proofs.start.put_edges.Goals as goal
use Rattle.reach_table.proofs.start.put_edges.Goals.{After-place_at-row}

-- the rows, of as many nodes as there are components
rows : (c : After-place_at-row) → let g = c.args.graph in Rows (component_count c.args.plot.now.components.now) (edges_of g.ends.now g.next.now) g.ends.now g.next.now
rows c = let g = c.args.graph in subst (λ (k : ℕ). Rows k (edges_of g.ends.now g.next.now) g.ends.now g.next.now) c.requires.0 g.rows

inside : (c : After-place_at-row) → c.loop-m.m < component_count c.args.plot.now.components.now
inside c = omega (arith, c.requires.0, c.loop-m-test.true)

pub place_at-row-requires : goal.place_at-row-requires
place_at-row-requires c = omega (arith, c.requires.0, c.loop-m-test.true, nodes_are c.args.plot.now.accepted)

pub loop-m-init : goal.loop-m-init
loop-m-init c = edges_none c.args.plot.now.components.now (edges_of c.args.graph.ends.now c.args.graph.next.now) c.args.square.now

pub put_row-requires-clause-members : goal.put_row-requires-clause-members
put_row-requires-clause-members c =
    let s = (goal.at.put_row-requires-clause-members c).After-place_at-row in
    rw c.row.ensures (λ i h. row_low (rows s) c.loop-m.m (inside s) i h)

pub loop-m-preserved : goal.loop-m-preserved
loop-m-preserved c =
    let s = (goal.at.loop-m-preserved c).After-place_at-row in
    let a = c.args.plot.now.accepted in
    edges_more a.scene.distinct (rows s) (inside s) (c.place_at-row.ensures c.args.plot.now.components.now a.table) c.loop-m.invariant (rw c.row.ensures at c.put_row.ensures)

pub returns : goal.returns
returns c =
    edges_all c.args.plot.now.components.now (edges_of c.args.graph.ends.now c.args.graph.next.now) (omega (arith, c.requires.0, c.loop-m-test.false)) c.loop-m.invariant
