-- Answers for the goals that the search leaves.
use Prim.Native.Nat.{suc, ◌-◌}
use mathlib.Core.Path.{◌≡◌}
use native.Mathlib.Omega.{arith}
use lib.ListN.{length}
use Rattle.regions.specs.Graph.{at}
use Rattle.graph.specs.Rows.{edges_of}
use Rattle.trail.proofs.Row.{Neighbours, neighbours}
use Rattle.trail.proofs.Walking.{stepped, stepped_some}
use Rattle.trail.proofs.find.step_down.Goals as goal
use Rattle.trail.proofs.find.step_down.Goals.{After-row-neighbour-items}

row : (c : After-row-neighbour-items)
    → let g = c.args.graph in Neighbours (length g.ends.now) (edges_of g.ends.now g.next.now) c.args.node c.row-neighbour-items.result.now
row c = neighbours c.args.graph.rows c.args.node c.requires.1 c.row-neighbour-items.ensures

above : (c : After-row-neighbour-items) → at c.args.levels.now c.args.node ≡ suc (at c.args.levels.now c.args.node - 1)
above c = let e = c.requires.2.2 in omega arith

pub bounds-levels-next : goal.bounds-levels-next
bounds-levels-next c =
    let r = row (goal.at.bounds-levels-next c).After-row-neighbour-items in
    omega (arith, c.from-next.ensures, r.low c.loop-neighbour.neighbour-index c.loop-neighbour-test.true, c.requires.0)

pub returns-then-levels-next : goal.returns-then-levels-next
returns-then-levels-next c =
    let s = (goal.at.returns-then-levels-next c).After-row-neighbour-items in
    stepped (row s) c.args.levels.now (above s) c.loop-neighbour.invariant c.loop-neighbour-test.true c.from-next.ensures c.if-levels-next.true

pub unreachable-requires : goal.unreachable-requires
unreachable-requires c =
    let s = (goal.at.unreachable-requires c).After-row-neighbour-items in
    stepped_some (row s) c.args.levels.now (above s) c.loop-neighbour.invariant (omega (arith, c.loop-neighbour-test.false)) c.requires.2
